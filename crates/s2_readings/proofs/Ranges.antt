-- The range of a reading: from 577 to 7986, or 0 where version and parameter don't pair. Assumes nothing.
use mathlib.Core.Path.{◌≡◌, sym, ◌∙◌, ap}
use mathlib.Core.Bool.{Bool}
use mathlib.Core.List.{List}
use Prim.Native.Nat.{ℕ, ◌≤◌}
use native.Mathlib.Omega.{arith}
use lib.IntN.{ℤ, pos, nat_abs}
use Rattle.terms.proofs.Whole.{up}
use Rattle.s2_readings.specs.declared.tag.RtcCalibParam.{RtcCalibParam}
use Rattle.s2_readings.specs.Reading.{reading_of}
use Rattle.s2_readings.specs.Tag.{first_tag, tag_of}
use Rattle.s2_readings.proofs.Rule.{Spread, rule_of}
use Rattle.s2_readings.proofs.Chains.{reading_none, reading_whole, reading_range}
use Rattle.s2_readings.proofs.Tags.{tag_in_table, tag_none, tag_some}

pub record Between (low high : ℕ) (z : ℤ) : Type 0 where
  pub whole : z ≡ pos (nat_abs z)
  pub least : low ≤ nat_abs z
  pub most : nat_abs z ≤ high

module _ (dump : List ℕ) (skip : Bool) (version unit atten : ℕ) (param : RtcCalibParam) (u : unit ≤ 1) (a : atten ≤ 3) where
  abbrev tag : ℕ
  tag = tag_of version unit atten param

  -- a version and a parameter that pair, by what their chain's bases and widths say
  pub by_spread : (first_tag version param ≡ 0 → ⊥) → {low high : ℕ} → Spread low high tag → Between low high (reading_of dump skip tag)
  by_spread h s =
      let in_table = tag_in_table version unit atten param u a in
      let reading : ℤ = reading_of dump skip tag in
      let whole : reading ≡ pos (up reading) = reading_whole dump skip tag in_table in
      let same : nat_abs reading ≡ up reading = ap nat_abs whole in
      let range = reading_range dump skip tag in_table (tag_some version unit atten param h) s in
      record { whole = whole ∙ ap pos (sym same); least = omega (arith, same, range.0); most = omega (arith, same, range.1) }

  pub paired_range : (first_tag version param ≡ 0 → ⊥) → Between 577 7986 (reading_of dump skip tag)
  paired_range h =
      by_spread h (rule_of tag (tag_some version unit atten param h) (tag_in_table version unit atten param u a)).between

  -- and that don't
  pub unpaired : first_tag version param ≡ 0 → reading_of dump skip tag ≡ pos 0
  unpaired e = ap (reading_of dump skip) (tag_none version unit atten param e) ∙ reading_none dump skip

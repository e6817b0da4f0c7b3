-- Every number on the way to a reading fits where it is put: a multiplier and a base 16 bits, and a term, a sum and a reading 32.
-- Assumes nothing.
use mathlib.Core.Path.{◌≡◌, subst}
use mathlib.Core.Bool.{Bool}
use mathlib.Core.List.{List}
use Prim.Native.Nat.{ℕ, ◌^◌, ◌<◌}
use native.Mathlib.Omega.{arith}
use lib.IntN.{ℤ, ◌+ℤ◌, ◌*ℤ◌}
use mir.Syntax.{w16, w32}
use mir.Val.{SFits}
use Rattle.terms.specs.Sign.{sign_magnitude}
use Rattle.terms.proofs.Order.{zero_or}
use Rattle.terms.proofs.Whole.{up, sum_is, up_le, dn_le, fits_by}
use Rattle.efuse.specs.Field.{bits_of}
use Rattle.s2_readings.specs.Table.{begin_bit, bit_length, multiplier, base, depends, entry_at}
use Rattle.s2_readings.specs.Reading.{term_of, reading_of}
use Rattle.s2_readings.proofs.Rule.{Rule, rule_of}
use Rattle.s2_readings.proofs.Chains.{span_small, product_near, term_near, reading_none, reading_step, reading_whole, reading_range}

module _ (tag : ℕ) (r : Rule tag) where
  pub multiplier_fits : SFits w16 (multiplier (entry_at tag))
  multiplier_fits = subst (SFits w16) r.factor (record { sfits = omega (arith, r.small) })

  pub base_fits : SFits w16 (base (entry_at tag))
  base_fits = fits_by w16 (base (entry_at tag)) (omega (arith, r.base_up)) (omega (arith, r.base_dn))

  module _ (dump : List ℕ) where
    pub product_fits :
        SFits w32 (sign_magnitude (bit_length (entry_at tag)) (bits_of dump 2 (begin_bit (entry_at tag)) (bit_length (entry_at tag)))
        *ℤ multiplier (entry_at tag))
    product_fits =
        let n = product_near tag r dump in
        let s = span_small tag r in
        fits_by w32 _ (omega (arith, n.high)) (omega (arith, n.low))

    pub sum_fits : (skip : Bool) → SFits w32 (term_of dump skip (entry_at tag) +ℤ base (entry_at tag))
    sum_fits skip =
        let term : ℤ = term_of dump skip (entry_at tag) in
        let n = term_near tag r dump skip in
        let s = span_small tag r in
        let sum = sum_is term (base (entry_at tag)) in
        fits_by w32 (term +ℤ base (entry_at tag))
        (omega (arith, r.base_up, up_le (term +ℤ base (entry_at tag)) _ _ sum))
        (omega (arith, r.base_dn, dn_le (term +ℤ base (entry_at tag)) _ _ sum))

module _ (dump : List ℕ) (skip : Bool) (tag : ℕ) (h : tag < 33) where
  pub reading_small : up (reading_of dump skip tag) < 2 ^ 16
  reading_small =
      zero_or tag
      (λ e. rw (e, reading_none dump skip) (omega arith))
      (λ some. omega (arith, reading_range dump skip tag h some (rule_of tag some h).between))

  pub reading_fits : SFits w32 (reading_of dump skip tag)
  reading_fits = rw (reading_whole dump skip tag h) (record { sfits = omega (arith, reading_small) })

  pub step_fits : (tag ≡ 0 → ⊥)
      → SFits w32 (term_of dump skip (entry_at tag) +ℤ base (entry_at tag) +ℤ reading_of dump skip (depends (entry_at tag)))
  step_fits some = rw (← reading_step dump skip tag some h) reading_fits

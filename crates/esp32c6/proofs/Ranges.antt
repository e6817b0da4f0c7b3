-- The range of every answer that isn't refused. Assumes nothing.
use mathlib.Core.Path.{◌≡◌, sym, ◌∙◌, ap}
use mathlib.Core.List.{List}
use Prim.Native.Nat.{ℕ, ◌+◌, ◌^◌, ◌≤◌, ◌<◌, min}
use native.Mathlib.Nat.{min-le_right}
use native.Mathlib.Omega.{arith}
use lib.IntN.{pos, nat_abs, ◌+ℤ◌}
use Rattle.terms.specs.declared.chip.MapChip.TheVariants.{C6}
use Rattle.terms.specs.Refusal.{value_of}
use Rattle.terms.specs.Sign.{sign_magnitude}
use Rattle.terms.proofs.Whole.{up, dn}
use Rattle.inputs.specs.Input.{decoding_refusal}
use Rattle.maps.specs.Told.{told_of}
use Rattle.maps.specs.Value.{value_by_id}
use Rattle.inputs.proofs.Inputs.{decoding_good}
use Rattle.terms.specs.C6Version.{version_of}
use Rattle.esp32c6.specs.Code.{code_refusal, init_code_of, offset_of, cal_code, cal_code_of}
use Rattle.esp32c6.specs.Channel.{chan_compens_of}
use Rattle.esp32c6.proofs.Channels.{compens_range}
use Rattle.esp32c6.proofs.Codes.{code_good, offset_first, offset_second, offset_range, code_whole, code_near}
use Rattle.esp32c6.proofs.Fields.{init_fits, cal_fits, channel_fits}

-- a compensation is from -28 to 28
pub chan_compens_range : (lengths dump map : List ℕ) (unit channel atten : ℕ)
    → decoding_refusal lengths C6 dump map unit atten ≡ 0
    → let z = value_of (pos 0) (chan_compens_of lengths dump map unit channel atten) in (up z ≤ 28) × (dn z ≤ 28)
unfolding chan_compens_of told_of
chan_compens_range lengths dump map unit channel atten good =
    let g = decoding_good lengths C6 dump map unit atten good in
    rw good (compens_range atten _ (channel_fits lengths dump map g.0 (min channel 6) (min-le_right channel 6)))

-- an initial code is from 1600 to 34367; a reference code from 989 to 2011 in version 1, and from 2339 to 3411 in version 2
module _ (lengths dump map : List ℕ) (minor unit atten : ℕ) (good : code_refusal lengths dump map minor unit atten ≡ 0) where
  pub init_code_range : let v = value_of 0 (init_code_of lengths dump map minor unit atten) in (1600 ≤ v) × (v ≤ 34367)
  unfolding init_code_of told_of
  init_code_range =
      let g = code_good lengths dump map minor unit atten good in
      rw good (omega (arith, init_fits lengths dump map g.0 atten g.1))

  abbrev offset : ℕ
  offset = offset_of (version_of minor) atten

  abbrev field : ℕ
  field = value_by_id C6 dump map (13 + atten)

  few : field < 2 ^ 10
  few = let g = code_good lengths dump map minor unit atten good in cal_fits lengths dump map g.0 atten g.1

  cal_code_is : value_of 0 (cal_code_of lengths dump map minor unit atten) ≡ up (pos offset +ℤ sign_magnitude 10 field)
  unfolding cal_code_of cal_code told_of
  cal_code_is =
      let r = offset_range (version_of minor) atten in
      rw good (ap nat_abs (code_whole offset field r.0 r.1 few))

  -- it isn't negative, so that it is the definition's whole number
  pub cal_code_whole : pos (value_of 0 (cal_code_of lengths dump map minor unit atten)) ≡ cal_code (version_of minor) atten field
  unfolding cal_code
  cal_code_whole =
      let r = offset_range (version_of minor) atten in
      ap pos cal_code_is ∙ sym (code_whole offset field r.0 r.1 few)

  cal_code_near : let v = value_of 0 (cal_code_of lengths dump map minor unit atten) in (offset ≤ v + 511) × (v ≤ offset + 511)
  cal_code_near =
      let r = offset_range (version_of minor) atten in
      rw cal_code_is (code_near offset field r.0 r.1 few)

  pub cal_code_first : version_of minor ≡ 1
      → let v = value_of 0 (cal_code_of lengths dump map minor unit atten) in (989 ≤ v) × (v ≤ 2011)
  cal_code_first e = omega (arith, cal_code_near, ap (λ (v : ℕ). offset_of v atten) e, offset_first atten)

  pub cal_code_second : version_of minor ≡ 2
      → let v = value_of 0 (cal_code_of lengths dump map minor unit atten) in (2339 ≤ v) × (v ≤ 3411)
  cal_code_second e = omega (arith, cal_code_near, ap (λ (v : ℕ). offset_of v atten) e, offset_second atten)

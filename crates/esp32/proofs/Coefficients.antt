-- Laws of the coefficients: the tables' largest entries, where b is refused, that it is the exact sum where it isn't, and that a and b
-- are inside a record's ranges. Assumes nothing.
use Rattle.std.proofs.Common.{◌≡◌, ℕ, ◌+◌, ◌-◌, ◌*◌, ◌<◌, ◌≤◌, Bool, ◌↔◌, pos, ◌≤ℤ◌, ◌<ℤ◌, sym, refl, ap, ◌∙◌, arith}
use native.Mathlib.Nat.{div-le_of_le-mul}
use Rattle.terms.specs.Refusal.{refuse}
use Rattle.terms.proofs.Difference.{Difference, itself, less, plus, natural, below_zero, from_zero}
use Rattle.terms.proofs.Order.{either}
use Rattle.terms.proofs.Units.{unit_most, entry_at_lem}
use Rattle.terms.proofs.Whole.{below_test, from_test}
use Rattle.vref.specs.declared.coefficients.Atten.{Atten}
use Rattle.vref.specs.Coefficients.{vref_line}
use Rattle.vref.proofs.Lines.{vref_ranges}
use Rattle.line_record.specs.declared.record.Source.TheVariants as source
use Rattle.line_record.proofs.Sources.{two_point_not_vref}
use Rattle.esp32.specs.declared.characterize.Basis.{Basis}
use Rattle.esp32.specs.declared.characterize.Basis.TheVariants.{TwoPoint, Vref}
use Rattle.esp32.specs.Code.{low_of, high_of}
use Rattle.esp32.specs.Characterize.{adc1_tp_scale, adc2_tp_scale, adc1_tp_offset, adc2_tp_offset, tp_scale, tp_offset}
use Rattle.esp32.specs.Characterize.{two_point_a, top_of, b_of, b_refusal, two_point_b, coefficients_of, basis_refusal}
use Rattle.esp32.specs.Decode.{source_of}
use Rattle.esp32.specs.Private.{Apart, tp_atten_of}
use Rattle.esp32.proofs.Codes.{points_apart}

-- the largest entries, of either unit at any attenuation
pub tp_most : (unit atten : ℕ) → (tp_scale unit atten ≤ 224708) × (tp_offset unit atten ≤ 66)
unfolding tp_scale tp_offset
tp_most unit atten = (unit_most unit atten _ _ _ tt tt, unit_most unit atten _ _ _ tt tt)

-- the entry at unit × 4 + attenuation
pub tp_is : (unit atten : ℕ) → unit ≤ 1 → atten ≤ 3 → {entry : Atten} → entry ≡ tp_atten_of (4 * unit + atten)
    → (entry.0 ≡ tp_scale unit atten) × (entry.1 ≡ tp_offset unit atten)
unfolding tp_scale tp_offset
tp_is unit atten u h e = (
  ap (λ (x : Atten). x.0) e ∙ entry_at_lem 4 adc1_tp_scale adc2_tp_scale refl unit atten u (omega arith),
  ap (λ (x : Atten). x.1) e ∙ entry_at_lem 4 adc1_tp_offset adc2_tp_offset refl unit atten u (omega arith),
)

-- b is 850 and the offset less t
module _ (t offset : ℕ) where
  b_difference : Difference (b_of t offset) (850 + offset) t
  unfolding b_of
  b_difference = record { is = omega (arith, (plus (less 850 t) (itself offset)).is) }

  -- so it is negative exactly if t is the larger, as the code tests it
  pub b_negative : 850 + offset < t → b_of t offset <ℤ pos 0
  b_negative h = below_zero b_difference h

  pub b_not_negative : t ≤ 850 + offset → pos 0 ≤ℤ b_of t offset
  b_not_negative h = from_zero b_difference h

  -- "refusal 9 is given exactly if it is negative"
  pub b_good : pos 0 ≤ℤ b_of t offset → b_refusal t offset ≡ 0
  unfolding b_refusal
  b_good h = ap (λ (test : Bool). refuse test 9 0) (from_test h)

  pub b_refused : b_of t offset <ℤ pos 0 → b_refusal t offset ≡ 9
  unfolding b_refusal
  b_refused h = ap (λ (test : Bool). refuse test 9 0) (below_test h)

  -- over natural numbers: exactly if t is above 850 and the offset
  pub b_nine : (b_refusal t offset ≡ 9) ↔ (850 + offset < t)
  b_nine = (
    λ e. either t (850 + offset) (λ h. absurd (omega (arith, b_good (b_not_negative h)))) (λ h. h),
    λ h. b_refused (b_negative h),
  )

  pub b_within : b_refusal t offset ≡ 0 → t ≤ 850 + offset
  b_within e = either t (850 + offset) (λ h. h) (λ h. absurd (omega (arith, b_refused (b_negative h))))

  -- b, wherever it isn't refused: the exact sum, as the code works it out
  b_is : t ≤ 850 + offset → b_of t offset ≡ pos (850 + offset - t)
  b_is h = natural b_difference (omega arith)

  pub two_point_b_is : b_refusal t offset ≡ 0 → 850 + offset - t ≡ two_point_b t offset
  unfolding two_point_b
  two_point_b_is e = rw (b_is (b_within e))

  pub two_point_b_exact : b_refusal t offset ≡ 0 → pos (two_point_b t offset) ≡ b_of t offset
  two_point_b_exact e = ap pos (sym (two_point_b_is e)) ∙ sym (b_is (b_within e))

  pub two_point_b_most : b_refusal t offset ≡ 0 → offset ≤ 66 → two_point_b t offset ≤ 916
  two_point_b_most e h = omega (arith, two_point_b_is e)

pub two_point_a_most : (scale low high : ℕ) → scale ≤ 224708 → Apart low high → two_point_a scale low high ≤ 131071
unfolding two_point_a
two_point_a_most scale low high s d = div-le_of_le-mul (high - low) (omega arith)

-- a and b from either basis are inside a record's ranges
pub line_ranges : (unit atten vref : ℕ) (basis : Basis) → vref ≤ 1205 → basis_refusal unit atten basis ≡ 0
    → ((coefficients_of unit atten vref basis).a ≤ 131071) × ((coefficients_of unit atten vref basis).b ≤ 4095)
unfolding coefficients_of basis_refusal
line_ranges unit atten vref (TwoPoint low high) v e =
    let most = tp_most unit atten in
    let b = two_point_b_most (top_of (low_of unit low) (high_of unit high)) (tp_offset unit atten) e most.1 in
    (two_point_a_most _ _ _ most.0 (points_apart unit low high), omega arith)
line_ranges unit atten vref Vref v e = vref_ranges unit atten vref v

-- a record by Vref has Vref's line
pub by_vref : (unit atten vref : ℕ) (basis : Basis) → source_of basis ≡ source.Vref
    → coefficients_of unit atten vref basis ≡ vref_line unit atten vref
unfolding coefficients_of source_of
by_vref unit atten vref (TwoPoint low high) s = absurd (two_point_not_vref s)
by_vref unit atten vref Vref s = refl

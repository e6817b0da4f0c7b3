-- Demand 3, of the answers of every record inside its ranges: with the lookup, from 2880 on the lookup voltage never falls, and the
-- blend lies between line and lookup; without it the answer never falls. Assumes nothing.
use mathlib.Core.Path.{◌≡◌, ◌∙◌}
use mathlib.Core.Bool.{true, false}
use Prim.Native.Nat.{ℕ, zero, suc, ◌+◌, ◌-◌, ◌≤◌, min, max}
use native.Mathlib.Nat.{mul-le-mul_left, le_refl, le_trans, add-zero, add-sub_of_le, min-le_left, min-le_right, le-max_left, le-max_right}
use native.Mathlib.Omega.{arith}
use Rattle.lut.proofs.Sums.{voltage_is, sum_along}
use Rattle.line_record.specs.declared.record.LineRecord.{LineRecord}
use Rattle.line_record.specs.Record.{uses_lookup}
use Rattle.line.specs.Lookup.{lookup_voltage}
use Rattle.line.specs.Convert.{line_voltage, answer_at}
use Rattle.line_record.specs.When.{InRanges}
use Rattle.line.proofs.Answers.{beyond_plain, answer_line, answer_blend, answer_upper, blend_first, blend_within}

line_rises : (r : LineRecord) {c d : ℕ} → c ≤ d → line_voltage r c ≤ line_voltage r d
unfolding line_voltage
line_rises r h = omega (arith, mul-le-mul_left r.coeff_a h)

-- without the lookup
pub plain_rises : (r : LineRecord) → uses_lookup r ≡ false → (c d : ℕ) → c ≤ d → answer_at r c ≤ answer_at r d
plain_rises r e c d h = rw (answer_line r c (beyond_plain r c e), answer_line r d (beyond_plain r d e)) (line_rises r h)

module _ (r : LineRecord) (ranges : InRanges r) where
  -- each count adds to the lookup's sum what its step adds
  one_more : (c : ℕ) → 2880 ≤ c → c ≤ 4095 → lookup_voltage r c ≤ lookup_voltage r (c + 1)
  one_more c l u =
      omega (
        arith,
        voltage_is r.unit r.vref c,
        voltage_is r.unit r.vref (c + 1),
        sum_along r.unit r.vref c l u ranges.vref_least ranges.vref_most 1 (omega arith),
      )

  more : (c n : ℕ) → 2880 ≤ c → c + n ≤ 4095 → lookup_voltage r c ≤ lookup_voltage r (c + n)
  more c zero l u = rw add-zero (le_refl _)
  more c (suc n) l u =
      let e : c + suc n ≡ c + n + 1 = omega arith in
      rw e (le_trans (more c n l (omega arith)) (one_more (c + n) (omega arith) (omega arith)))

  -- from 2880 to 4095 the lookup voltage never falls
  pub lookup_rises : (c d : ℕ) → 2880 ≤ c → c ≤ d → d ≤ 4095 → lookup_voltage r c ≤ lookup_voltage r d
  lookup_rises c d l h u = rw (add-sub_of_le h) at (more c (d - c) l (omega (arith, add-sub_of_le h)))

-- with the lookup
module _ (r : LineRecord) (uses : uses_lookup r ≡ true) where
  -- from 2880 to 2944 the answer lies between line and lookup
  pub blend_between : (c : ℕ) → 2880 ≤ c → c ≤ 2944
      → (min (line_voltage r c) (lookup_voltage r c) ≤ answer_at r c) × (answer_at r c ≤ max (line_voltage r c) (lookup_voltage r c))
  blend_between c l u =
      rw (answer_blend r c uses l u)
      (blend_within _ _ (c - 2880) (omega arith) _ _ (min-le_left _ _, le-max_left _ _) (min-le_right _ _, le-max_right _ _))

  -- it is the line's at 2880, and the lookup's at 2944
  pub blend_starts : answer_at r 2880 ≡ line_voltage r 2880
  blend_starts = answer_blend r 2880 uses (omega arith) (omega arith) ∙ blend_first _ _

  pub blend_ends : answer_at r 2944 ≡ lookup_voltage r 2944
  blend_ends = answer_upper r 2944 uses (omega arith)

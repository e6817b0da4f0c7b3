-- The points of the lookup, without signs. The tables' rules are computed tests; from them a point is esp-hal's signed sum for
-- every Vref of a record, and points rise: they are linear in Vref, so what is ordered at 995 and at 1205 is ordered between.
-- Assumes nothing.
use mathlib.Core.Path.{◌≡◌, refl, ◌∙◌, ap}
use mathlib.Core.Bool.{Bool, true, false, cond}
use mathlib.Core.List.{List, ◌++◌}
use Prim.Native.Nat.{ℕ, ◌+◌, ◌*◌, ◌-◌, ◌≤◌, ◌<◌}
use native.Mathlib.Nat.{mul-sub, mul-le-mul_left, mul-le-mul_right, le_of_lt}
use native.Mathlib.Omega.{arith}
use lib.ListN.{get_or, get_or-eq_default}
use lib.Dec.{eqb}
use Rattle.terms.proofs.Arms.{NoArm, never}
use Rattle.terms.proofs.Check.{Check, at_most, also, rule}
use Rattle.terms.proofs.Order.{either}
use Rattle.terms.proofs.Units.{entry_at_lem}
use Rattle.lut.specs.declared.row.Row.{Row}
use Rattle.lut.specs.Point.{point_at}
use Rattle.lut.specs.Row.{lut_adc1_low, lut_adc1_high, lut_adc2_low, lut_adc2_high, low_at, high_at, row_of}

-- a point by its low and its high entry
abbrev point : ℕ → ℕ → ℕ → ℕ
point v low high = 1200 * low - 1000 * high + v * (high - low)

-- what is true of an entry: nothing in a point is cut off, and it is small
abbrev Entry : ℕ → ℕ → Type 0
Entry low high = (low ≤ high) × ((1000 * high ≤ 1200 * low) × (point 1205 low high ≤ 642545))

abbrev entry : (low high : List ℕ) (k : ℕ) → Check (Entry (get_or low k 0) (get_or high k 0))
entry low high k = also (at_most _ _) (also (at_most _ _) (at_most _ _))

-- and of two neighbours: they rise at the least and at the largest Vref
abbrev Rise : ℕ → ℕ → ℕ → ℕ → Type 0
Rise low high low' high' = (point 995 low high ≤ point 995 low' high') × (point 1205 low high ≤ point 1205 low' high')

abbrev rise : (low high : List ℕ) (k : ℕ) → Check (Rise (get_or low k 0) (get_or high k 0) (get_or low (k + 1) 0) (get_or high (k + 1) 0))
rise low high k = also (at_most _ _) (at_most _ _)

-- what holds of both units' tables holds of a unit's
by_unit_lem : (P : List ℕ → List ℕ → Type 0) (unit : Bool) → P lut_adc1_low lut_adc1_high → P lut_adc2_low lut_adc2_high
    → P (cond unit lut_adc1_low lut_adc2_low) (cond unit lut_adc1_high lut_adc2_high)
by_unit_lem P true one two = one
by_unit_lem P false one two = two

entries : (unit k : ℕ) → k < 20 → Entry (low_at unit k) (high_at unit k)
unfolding low_at high_at
entries unit k h =
    by_unit_lem (λ low high. Entry (get_or low k 0) (get_or high k 0)) (eqb unit 0)
    (rule (entry lut_adc1_low lut_adc1_high) 20 tt k h)
    (rule (entry lut_adc2_low lut_adc2_high) 20 tt k h)

rises : (unit k : ℕ) → k < 19 → Rise (low_at unit k) (high_at unit k) (low_at unit (k + 1)) (high_at unit (k + 1))
unfolding low_at high_at
rises unit k h =
    by_unit_lem (λ low high. Rise (get_or low k 0) (get_or high k 0) (get_or low (k + 1) 0) (get_or high (k + 1) 0)) (eqb unit 0)
    (rule (rise lut_adc1_low lut_adc1_high) 19 tt k h)
    (rule (rise lut_adc2_low lut_adc2_high) 19 tt k h)

-- linear in v, and ordered at two ends
between : (A D B E lo hi v : ℕ) → lo ≤ v → v ≤ hi → A + lo * D ≤ B + lo * E → A + hi * D ≤ B + hi * E → A + v * D ≤ B + v * E
between A D B E lo hi v l u p q =
    either D E
    (λ h. omega (arith, mul-sub lo E D, mul-sub v E D, mul-le-mul_left lo h, mul-le-mul_left v h, mul-le-mul_right (E - D) l))
    (λ h.
    let g = le_of_lt h in
    omega (arith, mul-sub hi D E, mul-sub v D E, mul-le-mul_left hi g, mul-le-mul_left v g, mul-le-mul_right (D - E) u))

-- past the tables there are zeros
pub row_past : (k : ℕ) → NoArm k 40 → record { 0 = 0; 1 = 0 } ≡ row_of k
row_past k none =
    either 40 k
    (λ past. rw (get_or-eq_default (lut_adc1_low ++ lut_adc2_low) 0 past, get_or-eq_default (lut_adc1_high ++ lut_adc2_high) 0 past))
    (λ within. absurd (never k 40 none within))

module _ (unit v k : ℕ) where
  -- what the code asks of a row's two numbers
  pub record Made (low high : ℕ) : Type 0 where
    pub order : low ≤ high
    pub apart : 1000 * high ≤ 1200 * low
    pub small : high ≤ 3212
    pub top : point v low high ≤ 642545
    pub is : point v low high ≡ point_at unit v k

  -- esp-hal's sum, with what it takes away on the left
  pub point_is : k < 20 → point_at unit v k + (v * low_at unit k + 1000 * high_at unit k) ≡ 1200 * low_at unit k + v * high_at unit k
  unfolding point_at
  point_is h =
      let e = entries unit k h in
      omega (arith, mul-sub v (high_at unit k) (low_at unit k), mul-le-mul_left v e.0)

  pub point_most : k < 20 → v ≤ 1205 → point_at unit v k ≤ 642545
  unfolding point_at
  point_most h most =
      let e = entries unit k h in
      omega (arith, mul-le-mul_right (high_at unit k - low_at unit k) most)

  pub points_rise : k < 19 → 995 ≤ v → v ≤ 1205 → point_at unit v k ≤ point_at unit v (k + 1)
  unfolding point_at
  points_rise h least most = let e = rises unit k h in between _ _ _ _ 995 1205 v least most e.0 e.1

  -- as the code makes it of its two numbers
  pub point_made : unit ≤ 1 → k < 20 → v ≤ 1205 → {row : Row} → row ≡ row_of (20 * unit + k) → Made row.0 row.1
  unfolding point_at low_at high_at
  point_made u h most r =
      let low-is = ap (λ (x : Row). x.0) r ∙ entry_at_lem 20 lut_adc1_low lut_adc2_low refl unit k u h in
      let high_is = ap (λ (x : Row). x.1) r ∙ entry_at_lem 20 lut_adc1_high lut_adc2_high refl unit k u h in
      let e = entries unit k h in
      let top = point_most h most in
      rw (low-is, high_is) (record { order = e.0; apart = e.1.0; small = omega arith; top = top; is = refl })

-- The lookup's numerator is esp-hal's signed sum regrouped: a mean of the two points around the count, weighed by its place between
-- them. So it is never negative, it is small, and from one point to the next it grows by one step a count. Assumes nothing.
use mathlib.Core.Path.{◌≡◌, refl, ◌∙◌, ap}
use Prim.Native.Nat.{ℕ, zero, suc, ◌+◌, ◌*◌, ◌-◌, ◌/◌, ◌%◌, ◌≤◌, min}
use native.Mathlib.Nat.{add-zero, mul-sub, mul-le-mul_left, mul-le-mul_right}
use native.Mathlib.Omega.{arith}
use lib.IntN.{ℤ, pos, negsuc, neg_ℤ, nat_abs, ◌+ℤ◌, ◌-ℤ◌, ◌*ℤ◌}
use lib.Signed.{quot_z}
use Rattle.terms.proofs.Difference.{less, plus, times, times_left, natural}
use Rattle.terms.proofs.Order.{either}
use Rattle.lut.specs.Lookup.{numerator_at, sum_at, voltage_at}
use Rattle.lut.specs.Point.{point_at}
use Rattle.lut.proofs.Points.{point_is, point_most, points_rise}

-- from p to q over 64 counts, y of them gone
abbrev pub mean : ℕ → ℕ → ℕ → ℕ
mean p q y = p * (64 - y) + q * y

pub mean_most : (p q m y : ℕ) → p ≤ m → q ≤ m → y ≤ 64 → mean p q y ≤ m * 64
mean_most p q m y hp hq hy =
    omega (arith, mul-le-mul_right (64 - y) hp, mul-le-mul_right y hq, mul-sub m 64 y, mul-le-mul_left m hy)

mean_along : (p q y k : ℕ) → p ≤ q → y + k ≤ 64 → mean p q (y + k) ≡ mean p q y + (q - p) * k
mean_along p q y k h hy =
    let w : ℕ = 64 - (y + k) in
    let e : 64 - y ≡ w + k = omega arith in
    rw e (omega (arith, mul-sub k q p, mul-le-mul_left k h))

-- esp-hal's four terms
sum_of : (q11 q12 q21 q22 v y2 y1 here there : ℕ)
    → here + (v * q11 + 1000 * q21) ≡ 1200 * q11 + v * q21
    → there + (v * q12 + 1000 * q22) ≡ 1200 * q12 + v * q22
    → let x2 : ℤ = pos 1200 -ℤ pos v in
    let x1 : ℤ = pos v -ℤ pos 1000 in
    pos q11 *ℤ x2 *ℤ pos y2 +ℤ pos q21 *ℤ x1 *ℤ pos y2 +ℤ pos q12 *ℤ x2 *ℤ pos y1 +ℤ pos q22 *ℤ x1 *ℤ pos y1
    ≡ pos (here * y2 + there * y1)
sum_of q11 q12 q21 q22 v y2 y1 here there e f =
    natural
    (plus
    (plus
    (plus (times (times_left q11 (less 1200 v)) y2) (times (times_left q21 (less v 1000)) y2))
    (times (times_left q12 (less 1200 v)) y1))
    (times (times_left q22 (less v 1000)) y1))
    (omega (arith, ap (λ (z : ℕ). z * y2) e, ap (λ (z : ℕ). z * y1) f))

-- the magnitude of a quotient
abs_neg : (n : ℕ) → nat_abs (neg_ℤ (pos n)) ≡ n
abs_neg zero = refl
abs_neg (suc n) = refl

abs_quot : (z : ℤ) (d : ℕ) → nat_abs (quot_z z (pos d)) ≡ nat_abs z / d
abs_quot (pos n) d = refl
abs_quot (negsuc n) d = abs_neg (suc n / d)

module _ (unit v : ℕ) where
  pub voltage_is : (raw : ℕ) → voltage_at unit v raw ≡ sum_at unit v raw / 12800
  unfolding voltage_at sum_at
  voltage_is raw = abs_quot (numerator_at unit v raw +ℤ pos 6400) 12800

  -- a point of the unit, at the Vref
  abbrev pt : ℕ → ℕ
  pt k = point_at unit v k

  -- at a count that esp-hal finds in step i, or at its end
  at_step : (i y raw : ℕ) → i ≤ 18 → y ≤ 64 → raw ≡ 2880 + 64 * i + y → min ((raw - 2880) / 64) 18 ≡ i
      → numerator_at unit v raw ≡ pos (mean (pt i) (pt (i + 1)) y)
  unfolding numerator_at
  at_step i y raw hi hy e s =
      let y2 : pos ((i + 1) * 64 + 2880) -ℤ pos raw ≡ pos (64 - y) = natural (less ((i + 1) * 64 + 2880) raw) (omega arith) in
      let y1 : pos raw -ℤ pos (i * 64 + 2880) ≡ pos y = natural (less raw (i * 64 + 2880)) (omega arith) in
      rw (s, y2, y1)
      (sum_of _ _ _ _ v (64 - y) y (pt i) (pt (i + 1)) (point_is unit v i (omega arith)) (point_is unit v (i + 1) (omega arith)))

  -- from point i to the next, both included
  in_step : (i y : ℕ) → i ≤ 18 → y ≤ 64 → numerator_at unit v (2880 + 64 * i + y) ≡ pos (mean (pt i) (pt (i + 1)) y)
  in_step i y hi hy =
      either y 63
      (λ inside. at_step i y _ hi hy refl (omega arith))
      (λ end.
      either 18 i
      (λ last. at_step i y _ hi hy refl (omega arith))
      (λ inner.
      let e : y ≡ 64 = omega arith in
      at_step (i + 1) 0 _ (omega arith) (omega arith) (omega arith) (omega arith) ∙ ap pos (rw e (omega arith))))

  sum_in_step : (i y : ℕ) → i ≤ 18 → y ≤ 64 → sum_at unit v (2880 + 64 * i + y) ≡ mean (pt i) (pt (i + 1)) y + 6400
  unfolding sum_at
  sum_in_step i y hi hy = rw (in_step i y hi hy)

  -- the numerator is never negative, whatever the Vref
  pub numerator_natural : (raw : ℕ) → 2880 ≤ raw → raw ≤ 4095 → numerator_at unit v raw ≡ pos (nat_abs (numerator_at unit v raw))
  numerator_natural raw from upto =
      let place : raw ≡ 2880 + 64 * ((raw - 2880) / 64) + (raw - 2880) % 64 = omega arith in
      rw (place, in_step ((raw - 2880) / 64) ((raw - 2880) % 64) (omega arith) (omega arith))

  module _ (raw : ℕ) (from : 2880 ≤ raw) where
    -- the sum is small
    pub sum_most : v ≤ 1205 → raw ≤ 4096 → sum_at unit v raw ≤ 41129280
    sum_most most upto =
        let i : ℕ = min ((raw - 2880) / 64) 18 in
        let y : ℕ = raw - 2880 - 64 * i in
        let place : raw ≡ 2880 + 64 * i + y = omega arith in
        let here = point_most unit v i (omega arith) most in
        let there = point_most unit v (i + 1) (omega arith) most in
        omega (
          arith,
          ap (sum_at unit v) place,
          sum_in_step i y (omega arith) (omega arith),
          mean_most (pt i) (pt (i + 1)) 642545 y here there (omega arith),
        )

    -- the points around the count: between them each count adds the same
    pub record Around (here there : ℕ) : Type 0 where
      pub order : here ≤ there
      pub small : there ≤ 642545
      pub sums : (k : ℕ) → raw % 64 + k ≤ 64 → sum_at unit v (raw + k) ≡ mean here there (raw % 64) + 6400 + (there - here) * k

    pub around : 995 ≤ v → v ≤ 1205 → raw ≤ 4095
        → {here there : ℕ} → here ≡ pt ((raw - 2880) / 64 + 0) → there ≡ pt ((raw - 2880) / 64 + 1) → Around here there
    around least most upto h t =
        let i : ℕ = (raw - 2880) / 64 in
        let y : ℕ = raw % 64 in
        let rise = points_rise unit v i (omega arith) least most in
        let first : pt (i + 0) ≡ pt i = ap pt (add-zero i) in
        rw (h, t, first) (record {
          order = rise;
          small = point_most unit v (i + 1) (omega arith) most;
          sums =
              λ k near.
              ap (sum_at unit v) (omega arith)
              ∙ sum_in_step i (y + k) (omega arith) (omega arith)
              ∙ omega (arith, mean_along (pt i) (pt (i + 1)) y k rise (omega arith));
        })

    -- at the count itself, and from it to the next
    pub around_sum : {here there : ℕ} → Around here there → mean here there (raw % 64) + 6400 ≡ sum_at unit v raw
    around_sum p = omega (arith, ap (sum_at unit v) (add-zero raw), p.sums 0 (omega arith))

    pub around_rise : {here there : ℕ} → Around here there → there - here ≡ sum_at unit v (raw + 1) - sum_at unit v raw
    around_rise p = omega (arith, around_sum p, p.sums 1 (omega arith))

-- between two points each count adds what the first one adds
module _ (unit v raw : ℕ) (from : 2880 ≤ raw) (upto : raw ≤ 4095) (least : 995 ≤ v) (most : v ≤ 1205) where
  pub sum_along : (k : ℕ) → raw % 64 + k ≤ 64
      → sum_at unit v (raw + k) ≡ sum_at unit v raw + (sum_at unit v (raw + 1) - sum_at unit v raw) * k
  sum_along k near =
      let p = around unit v raw from least most upto refl refl in
      p.sums k near ∙ rw (around_sum unit v raw from p, around_rise unit v raw from p)

-- What the rule of the coefficients means: `nearest` is within a half, and even at a half; for each of the 109 decimals but 0 it gives
-- 53 bits, no more and no fewer, so that it makes the nearest double; and the coefficient is that double times 2^52, cut.
-- Assumes nothing.
use mathlib.Core.Path.{◌≡◌, refl, ◌∙◌, ap}
use Prim.Native.Nat.{ℕ, zero, suc, ◌+◌, ◌*◌, ◌/◌, ◌%◌, ◌^◌, ◌≤◌, ◌<◌}
use native.Mathlib.Nat.{div-add-mod, mod-lt, mul-add, mul-one, one-le-pow}
use native.Mathlib.Omega.{arith}
use lib.ListN.{get_or}
use borrow.Author.Tests.{lt-ltb, le-ltb}
use Rattle.terms.proofs.Check.{Check, by, plain, also, at_most, rule}
use Rattle.terms.proofs.Order.{either}
use Rattle.curves.specs.Decimal.{Decimal, plus, minus, nearest, doublings, scaled, magnitude, coefficient}
use Rattle.curves.specs.FromDouble.{Nearest, digits, tens, power, doubled, signed, FromDouble}
use Rattle.curves.specs.Flat.{curves, decimals}

-- by being less than a half away, or even
module _ (n d q : ℕ) where
  strictly : 2 * n < 2 * (d * q) + d → 2 * (d * q) < 2 * n + d → Nearest n d q
  strictly low high =
      record { not_low = omega arith; not_high = omega arith; even_low = λ e. omega arith; even_high = λ e. omega arith }

  evenly : q % 2 ≡ 0 → 2 * n ≤ 2 * (d * q) + d → 2 * (d * q) ≤ 2 * n + d → Nearest n d q
  evenly even low high = record { not_low = low; not_high = high; even_low = λ e. even; even_high = λ e. even }

module _ (n d : ℕ) (some : 0 < d) where
  abbrev q : ℕ
  q = n / d

  abbrev r : ℕ
  r = n % d

  whole : d * q + r ≡ n
  whole = div-add-mod n d

  next : d * (q + 1) ≡ d * q + d
  next = mul-add d q 1 ∙ ap (λ m. d * q + m) (mul-one d)

  tie : d ≡ 2 * r → Nearest n d (q + q % 2)
  tie h =
      either (q % 2) 0
      (λ even.
      let same : q + q % 2 ≡ q = omega arith in
      rw same (evenly n d q (omega arith) (omega (arith, whole)) (omega (arith, whole))))
      (λ odd.
      let up : q + q % 2 ≡ q + 1 = omega arith in
      rw up (evenly n d (q + 1) (omega arith) (omega (arith, whole, next)) (omega (arith, whole, next))))

  pub nearest_is : Nearest n d (nearest n d)
  unfolding nearest
  nearest_is =
      let less : r < d = mod-lt n some in
      either d (2 * r)
      (λ half.
      rw (le-ltb (2 * r) d half)
      (either (2 * r) d
      (λ same. rw (le-ltb d (2 * r) same) (tie (omega arith)))
      (λ more. rw (lt-ltb d (2 * r) more) (strictly n d (q + 1) (omega (arith, whole, next)) (omega (arith, whole, next))))))
      (λ few. rw (lt-ltb (2 * r) d few) (strictly n d q (omega (arith, whole)) (omega (arith, whole))))

abbrev has53 : (n q : ℕ) → Check (0 < n → (2 ^ 52 ≤ q) × (q < 2 ^ 53))
has53 zero q = plain (λ h. absurd (omega arith))
has53 (suc n) q = by (λ p h. p) (also (at_most (2 ^ 52) q) (at_most (suc q) (2 ^ 53)))

abbrev pub decimal : ℕ → Decimal
decimal i = get_or decimals i (plus 0 0)

pub all_53 : (i : ℕ) → i < 109 → 0 < digits (decimal i) → (2 ^ 52 ≤ doubled (decimal i)) × (doubled (decimal i) < 2 ^ 53)
unfolding decimals curves nearest doublings
all_53 = rule (λ i. has53 (digits (decimal i)) (doubled (decimal i))) 109 tt

tens_some : (x : Decimal) → 0 < tens x
tens_some (plus n places) = one-le-pow places 10 (omega arith)
tens_some (minus n places) = one-le-pow places 10 (omega arith)

cut_is : (x : Decimal) → coefficient x ≡ signed x (doubled x * 2 ^ 52 / 2 ^ power x)
unfolding coefficient magnitude scaled
cut_is (plus n places) = refl
cut_is (minus n places) = refl

pub coefficient_is : (i : ℕ) → i < 109 → 0 < digits (decimal i) → FromDouble (decimal i)
coefficient_is i h some =
    let x : Decimal = decimal i in
    record { bits = all_53 i h some; double = nearest_is (digits x * 2 ^ power x) (tens x) (tens_some x); cut = cut_is x }

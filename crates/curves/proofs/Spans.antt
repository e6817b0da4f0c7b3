-- Horner's rule by intervals: from what a line answer lies between follows what each step's product and sum lie between, and so, by a
-- test that antt computes, that they fit 64 bits and that the polynomial stays below 2^52 times one more than the line answer.
-- Assumes nothing.
use mathlib.Core.List.{List, [], ◌∷◌}
use Prim.Native.Nat.{ℕ, zero, suc, ◌+◌, ◌*◌, ◌≤◌, ◌<◌, ◌^◌}
use native.Mathlib.Nat.{mul-le-mul_left, mul-le-mul_right, add-mul}
use native.Mathlib.Omega.{arith}
use lib.IntN.{ℤ, pos, ◌+ℤ◌, ◌-ℤ◌, ◌*ℤ◌}
use mir.Syntax.{w64}
use mir.Val.{SFits}
use Rattle.terms.proofs.Check.{Check, by, plain, also, at_most}
use Rattle.terms.proofs.Difference.{less, minus, times}
use Rattle.terms.proofs.Whole.{up, dn, sum_is, up_times, dn_times, fits_by, ◌≼◌, up_most, dn_most}
use Rattle.curves.specs.Error.{horner}
use Rattle.curves.specs.NothingLost.{Steps}

pub record Span : Type 0 where
  pub low : ℤ
  pub high : ℤ

pub record Within (z : ℤ) (s : Span) : Type 0 where
  pub low : s.low ≼ z
  pub high : z ≼ s.high

-- x times a number from a to b is at least this, and with a and b exchanged at most
abbrev stretch : ℕ → ℕ → ℤ → ℤ
stretch a b x = pos (up x * a) -ℤ pos (dn x * b)

abbrev times_span : ℕ → ℕ → Span → Span
times_span a b s = record { low = stretch a b s.low; high = stretch b a s.high }

abbrev plus_span : Span → ℤ → Span
plus_span s c = record { low = s.low +ℤ c; high = s.high +ℤ c }

abbrev span : ℕ → ℕ → List ℤ → Span
span a b [] = record { low = pos 0; high = pos 0 }
span a b (c ∷ cs) = plus_span (times_span a b (span a b cs)) c

-- what holds for each line answer from a to b
abbrev pub Over : ℕ → ℕ → (ℕ → Type 0) → Type 0
Over a b P = (v : ℕ) → a ≤ v → v ≤ b → P v

module _ {a b v : ℕ} (least : a ≤ v) (most : v ≤ b) where
  stretch_low : (x z : ℤ) → x ≼ z → stretch a b x ≼ z *ℤ pos v
  stretch_low x z h =
      omega (
        arith,
        (less (up x * a) (dn x * b)).is,
        up_times z v,
        dn_times z v,
        mul-le-mul_right v h,
        add-mul (up x) (dn z) v,
        add-mul (up z) (dn x) v,
        mul-le-mul_left (up x) least,
        mul-le-mul_left (dn x) most,
      )

  stretch_high : (x z : ℤ) → z ≼ x → z *ℤ pos v ≼ stretch b a x
  stretch_high x z h =
      omega (
        arith,
        (less (up x * b) (dn x * a)).is,
        up_times z v,
        dn_times z v,
        mul-le-mul_right v h,
        add-mul (up z) (dn x) v,
        add-mul (up x) (dn z) v,
        mul-le-mul_left (up x) most,
        mul-le-mul_left (dn x) least,
      )

  pub within_times : {z : ℤ} {s : Span} → Within z s → Within (z *ℤ pos v) (times_span a b s)
  within_times {z} {s} h = record { low = stretch_low s.low z h.low; high = stretch_high s.high z h.high }

  within_plus : {z : ℤ} {s : Span} → Within z s → (c : ℤ) → Within (z +ℤ c) (plus_span s c)
  within_plus {z} {s} h c =
      record {
        low = omega (arith, h.low, sum_is z c, sum_is s.low c);
        high = omega (arith, h.high, sum_is z c, sum_is s.high c);
      }

  pub within_span : (cs : List ℤ) → Within (horner cs v) (span a b cs)
  unfolding horner
  within_span [] = record { low = omega arith; high = omega arith }
  within_span (c ∷ cs) = within_plus (within_times (within_span cs)) c

abbrev fits : (s : Span) → Check ((z : ℤ) → Within z s → SFits w64 z)
fits s =
    by (λ p z h. fits_by w64 z (omega (arith, up_most z s.high h.high)) (omega (arith, dn_most s.low z h.low)))
    (also (at_most (suc (up s.high)) (2 ^ 63)) (at_most (dn s.low) (2 ^ 63)))

pub one_step : (c : ℤ) (cs : List ℤ) (v : ℕ) → Steps cs v → SFits w64 (horner cs v *ℤ pos v) → SFits w64 (horner (c ∷ cs) v)
    → Steps (c ∷ cs) v
one_step c cs v steps product sum zero h = (product, sum)
one_step c cs v steps product sum (suc i) h = steps i (omega arith)

abbrev pub steady : (a b : ℕ) (cs : List ℤ) → Check (Over a b (Steps cs))
steady a b [] = plain (λ v least most i h. absurd (omega arith))
steady a b (c ∷ cs) =
    by
    (λ p v least most.
    one_step c cs v (p.0 v least most)
    (p.1.0 _ (within_times least most (within_span least most cs)))
    (p.1.1 _ (within_span least most (c ∷ cs))))
    (also (steady a b cs) (also (fits (times_span a b (span a b cs))) (fits (span a b (c ∷ cs)))))

-- the error is at most the line answer
abbrev pub Below : List ℤ → ℕ → Type 0
Below cs v = up (horner cs v) < dn (horner cs v) + (v + 1) * 2 ^ 52

pub below_none : (v : ℕ) → Below [] v
unfolding horner
below_none v = omega arith

-- with 2^52 taken off what the line answer is multiplied by last, at most this is left
abbrev left_over : ℕ → ℕ → ℤ → List ℤ → ℤ
left_over a b c cs = stretch b a ((span a b cs).high -ℤ pos (2 ^ 52)) +ℤ c

pub below_by : (a b : ℕ) (c : ℤ) (cs : List ℤ) → up (left_over a b c cs) < dn (left_over a b c cs) + 2 ^ 52
    → Over a b (Below (c ∷ cs))
unfolding horner
below_by a b c cs p v least most =
    let q : ℤ = horner cs v in
    let high : ℤ = (span a b cs).high -ℤ pos (2 ^ 52) in
    let off = minus q (2 ^ 52) in
    let top = minus (span a b cs).high (2 ^ 52) in
    let under : q -ℤ pos (2 ^ 52) ≼ high = omega (arith, off.is, top.is, (within_span least most cs).high) in
    omega (
      arith,
      stretch_high least most high (q -ℤ pos (2 ^ 52)) under,
      (times off v).is,
      add-mul (dn q) (2 ^ 52) v,
      sum_is (stretch b a high) c,
      sum_is (q *ℤ pos v) c,
      up_times q v,
      dn_times q v,
    )

abbrev pub room : (a b : ℕ) (cs : List ℤ) → Check (Over a b (Below cs))
room a b [] = plain (λ v least most. below_none v)
room a b (c ∷ cs) = by (below_by a b c cs) (at_most (suc (up (left_over a b c cs))) (dn (left_over a b c cs) + 2 ^ 52))

-- Laws of the answer: which of line, blend and lookup it is, and that it is at most 12,285. Assumes nothing.
use mathlib.Core.Path.{◌≡◌, ◌∙◌}
use mathlib.Core.Bool.{true, false}
use Prim.Native.Nat.{ℕ, ◌+◌, ◌*◌, ◌-◌, ◌≤◌, ◌<◌}
use native.Mathlib.Nat.{mul-sub, mul-le-mul, mul-le-mul_left, mul-le-mul_right}
use native.Mathlib.Omega.{arith}
use borrow.Author.Tests.{lt-leb, le-leb, leb-true}
use Rattle.terms.proofs.Order.{either, whether}
use Rattle.terms.proofs.Refusals.{and_true, and_false}
use Rattle.lut.proofs.Sums.{voltage_is, sum_most}
use Rattle.line_record.specs.declared.record.LineRecord.{LineRecord}
use Rattle.line_record.specs.Record.{uses_lookup}
use Rattle.line.specs.Lookup.{lookup_voltage}
use Rattle.line.specs.Convert.{line_voltage, blend_of, mean_of, beyond_line, answer_at}
use Rattle.line_record.specs.When.{InRanges}

-- the blend is a mean of its two ends, and so within what they are
module _ (y1 y2 x : ℕ) (h : x ≤ 64) where
  blend_room : y1 * x ≤ y1 * 64
  blend_room = mul-le-mul_left y1 h

  -- by what is left of the 64 and what is gone
  pub blend_mean : mean_of y1 y2 (64 - x) x ≡ blend_of y1 y2 x
  unfolding mean_of blend_of
  blend_mean = omega (arith, blend_room, mul-sub y1 64 x)

  pub blend_within : (lo hi : ℕ) → (lo ≤ y1) × (y1 ≤ hi) → (lo ≤ y2) × (y2 ≤ hi) → (lo ≤ blend_of y1 y2 x) × (blend_of y1 y2 x ≤ hi)
  unfolding blend_of
  blend_within lo hi p q =
      let w : ℕ = 64 - x in
      omega (
        arith,
        blend_room,
        mul-sub y1 64 x,
        mul-sub lo 64 x,
        mul-sub hi 64 x,
        mul-le-mul_left lo h,
        mul-le-mul_left hi h,
        mul-le-mul_right w p.0,
        mul-le-mul_right w p.1,
        mul-le-mul_right x q.0,
        mul-le-mul_right x q.1,
      )

-- of 16 bits and counts of 8 its sum is small
weighed_small : (y w : ℕ) → y < 65536 → w < 256 → y * w ≤ 16711425
weighed_small y w p q =
    let most : y ≤ 65535 = omega arith in
    let weight : w ≤ 255 = omega arith in
    mul-le-mul most weight

pub mean_small : (y1 y2 left gone : ℕ) → y1 < 65536 → y2 < 65536 → left < 256 → gone < 256 → y1 * left + y2 * gone ≤ 33422850
mean_small y1 y2 left gone p q l g = omega (arith, weighed_small y1 left p l, weighed_small y2 gone q g)

-- it starts at the first and ends at the second
pub blend_first : (y1 y2 : ℕ) → blend_of y1 y2 0 ≡ y1
unfolding blend_of
blend_first y1 y2 = omega arith

pub blend_last : (y1 y2 : ℕ) → blend_of y1 y2 64 ≡ y2
unfolding blend_of
blend_last y1 y2 = omega arith

-- past the line the lookup is used, and the count is at least 2880
module _ (r : LineRecord) (raw : ℕ) where
  pub beyond_line_lem : beyond_line r raw ≡ true → (uses_lookup r ≡ true) × (2880 ≤ raw)
  unfolding beyond_line
  beyond_line_lem e = let p = and_true (uses_lookup r) _ e in (p.0, leb-true _ _ p.1)

  pub beyond_yes : uses_lookup r ≡ true → 2880 ≤ raw → beyond_line r raw ≡ true
  unfolding beyond_line
  beyond_yes e h = simp (e, le-leb _ _ h)

  pub beyond_plain : uses_lookup r ≡ false → beyond_line r raw ≡ false
  unfolding beyond_line
  beyond_plain e = rw e

  pub beyond_below : raw < 2880 → beyond_line r raw ≡ false
  unfolding beyond_line
  beyond_below h = and_false (uses_lookup r) _ (lt-leb _ _ h)

-- which of the three an answer is
module _ (r : LineRecord) (raw : ℕ) where
  pub answer_line : beyond_line r raw ≡ false → answer_at r raw ≡ line_voltage r raw
  unfolding answer_at
  answer_line e = rw e

  pub answer_blend : uses_lookup r ≡ true → 2880 ≤ raw → raw ≤ 2944
      → answer_at r raw ≡ blend_of (line_voltage r raw) (lookup_voltage r raw) (raw - 2880)
  unfolding answer_at
  answer_blend e l u = rw (beyond_yes r raw e l, le-leb _ _ u)

  pub answer_lookup : uses_lookup r ≡ true → 2944 < raw → answer_at r raw ≡ lookup_voltage r raw
  unfolding answer_at
  answer_lookup e h = rw (beyond_yes r raw e (omega arith), lt-leb _ _ h)

  -- at 2944 the blend is the lookup's
  pub answer_upper : uses_lookup r ≡ true → 2944 ≤ raw → answer_at r raw ≡ lookup_voltage r raw
  answer_upper e h =
      either raw 2944
      (λ last.
      let gone : raw - 2880 ≡ 64 = omega arith in
      answer_blend e (omega arith) last ∙ rw gone (blend_last _ _))
      (λ past. answer_lookup e past)

-- no answer is large
module _ (r : LineRecord) (ranges : InRanges r) (raw : ℕ) where
  -- 65,536 times the line's voltage, rounding included
  pub line_sum_most : raw ≤ 4096 → r.coeff_a * raw + 32768 + 65536 * r.coeff_b ≤ 805269504
  line_sum_most h = omega (arith, mul-le-mul ranges.a h)

  pub line_most : raw ≤ 4095 → line_voltage r raw ≤ 12285
  unfolding line_voltage
  line_most h = omega (arith, mul-le-mul ranges.a h)

  pub lookup_most : 2880 ≤ raw → raw ≤ 4095 → lookup_voltage r raw ≤ 12285
  lookup_most l h = omega (arith, voltage_is r.unit r.vref raw, sum_most r.unit r.vref raw l ranges.vref_most (omega arith))

  -- an answer by which of the three it is
  by_region : (P : ℕ → Type 0)
      → P (line_voltage r raw)
      → (2880 ≤ raw → raw ≤ 2944 → P (blend_of (line_voltage r raw) (lookup_voltage r raw) (raw - 2880)))
      → (2944 < raw → P (lookup_voltage r raw))
      → P (answer_at r raw)
  by_region P line blend look =
      whether (beyond_line r raw)
      (λ e.
      let past = beyond_line_lem r raw e in
      either raw 2944
      (λ u. rw (answer_blend r raw past.0 past.1 u) (blend past.1 u))
      (λ u. rw (answer_lookup r raw past.0 u) (look u)))
      (λ e. rw (answer_line r raw e) line)

  pub answer_most : raw ≤ 4095 → answer_at r raw ≤ 12285
  answer_most h =
      by_region (λ v. v ≤ 12285) (line_most h)
      (λ l u. (blend_within _ _ (raw - 2880) (omega arith) 0 12285 (omega arith, line_most h) (omega arith, lookup_most l h)).1)
      (λ u. lookup_most (omega arith) h)

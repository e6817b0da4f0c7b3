-- Laws of readings along a chain: tag 0 reads 0 and any other tag as document 01 says, since no chain has more than four links; and
-- no reading leaves what the bases and widths along its chain allow. Assumes nothing.
use mathlib.Core.Path.{◌≡◌, refl, sym, ◌∙◌, ap, subst}
use mathlib.Core.Bool.{Bool, true, false}
use mathlib.Core.List.{List}
use Prim.Native.Nat.{ℕ, zero, suc, ◌+◌, ◌*◌, ◌-◌, ◌^◌, ◌≤◌, ◌<◌}
use native.Mathlib.Nat.{mul-le-mul, mul-le-mul_right}
use native.Mathlib.Omega.{arith}
use lib.IntN.{ℤ, pos, nat_abs, ◌+ℤ◌, ◌*ℤ◌}
use lib.Pow.{pow_mono}
use borrow.Author.Tests.{ne_eqb}
use Rattle.terms.specs.Sign.{sign_magnitude}
use Rattle.terms.proofs.Order.{zero_or}
use Rattle.terms.proofs.Sign.{sign_fits}
use Rattle.terms.proofs.Whole.{up, dn, sum_is, up_times, dn_times, not_negative}
use Rattle.efuse.specs.Field.{bits_of}
use Rattle.efuse.proofs.Bits.{bits_lt}
use Rattle.s2_readings.specs.declared.table.RtcCalibEntry.{RtcCalibEntry}
use Rattle.s2_readings.specs.Table.{begin_bit, bit_length, multiplier, base, depends, entry_at, along, rank_of}
use Rattle.s2_readings.specs.Reading.{term_of, within, reading_of}
use Rattle.s2_readings.proofs.Rule.{span_of, up_base, dn_base, Spread, Rule, rule_of}

-- z is at most s from 0
pub record Near (s : ℕ) (z : ℤ) : Type 0 where
  pub high : up z ≤ s
  pub low : dn z ≤ s

-- z is u less d, give or take s
record Lies (s u d : ℕ) (z : ℤ) : Type 0 where
  low : u + dn z ≤ up z + (s + d)
  high : up z + d ≤ s + u + dn z

near_times : (s m : ℕ) (z : ℤ) → Near s z → Near (s * m) (z *ℤ pos m)
near_times s m z n =
    record { high = rw (up_times z m) (mul-le-mul_right m n.high); low = rw (dn_times z m) (mul-le-mul_right m n.low) }

module _ (tag : ℕ) (r : Rule tag) where
  abbrev e : RtcCalibEntry
  e = entry_at tag

  pub span_small : span_of e ≤ 2044
  span_small =
      let nine : bit_length e - 1 ≤ 9 = omega (arith, r.few) in
      let most : 2 ^ (bit_length e - 1) - 1 ≤ 511 = omega (arith, pow_mono nine) in
      mul-le-mul most r.small

  -- a field term
  module _ (dump : List ℕ) where
    abbrev code : ℤ
    code = sign_magnitude (bit_length e) (bits_of dump 2 (begin_bit e) (bit_length e))

    code_near : Near (2 ^ (bit_length e - 1) - 1) code
    code_near =
        let s = sign_fits (bit_length e) _ (omega (arith, r.some)) (bits_lt dump 2 (begin_bit e) (bit_length e)) in
        record { high = omega arith; low = omega arith }

    pub product_near : Near (span_of e) (code *ℤ multiplier e)
    product_near =
        subst (λ (m : ℤ). Near (span_of e) (code *ℤ m)) r.factor (near_times _ (nat_abs (multiplier e)) code code_near)

    pub term_near : (skip : Bool) → Near (span_of e) (term_of dump skip e)
    unfolding term_of
    term_near true = record { high = omega arith; low = omega arith }
    term_near false = product_near

module _ (dump : List ℕ) (skip : Bool) where
  -- document 01's sum for a tag, over the reading of the tag that it depends on
  abbrev step : ℕ → ℤ → ℤ
  step tag rest = term_of dump skip (entry_at tag) +ℤ base (entry_at tag) +ℤ rest

  within_none : (n : ℕ) → within n dump skip 0 ≡ pos 0
  unfolding within
  within_none zero = refl
  within_none (suc n) = refl

  within_more : (n tag : ℕ) → (tag ≡ 0 → ⊥) → within (suc n) dump skip tag ≡ step tag (within n dump skip (depends (entry_at tag)))
  unfolding within
  within_more n tag some = rw (ne_eqb tag 0 some)

  within_zero : (n m tag : ℕ) → tag ≡ 0 → within n dump skip tag ≡ within m dump skip tag
  within_zero n m tag e = rw e (within_none n ∙ sym (within_none m))

  -- one link more than a chain has changes nothing
  enough : (n tag : ℕ) → tag < 33 → rank_of tag ≤ n → within (suc n) dump skip tag ≡ within n dump skip tag
  enough zero tag h p =
      zero_or tag (within_zero 1 0 tag) (λ some. absurd (omega (arith, (rule_of tag some h).falls)))
  enough (suc n) tag h p =
      zero_or tag (within_zero (suc (suc n)) (suc n) tag)
      (λ some.
      (let r = rule_of tag some h in
      within_more (suc n) tag some
      ∙ ap (step tag) (enough n (depends (entry_at tag)) r.next (omega (arith, r.falls)))
      ∙ sym (within_more n tag some)))

  pub reading_none : reading_of dump skip 0 ≡ pos 0
  unfolding reading_of
  reading_none = within_none _

  pub reading_step : (tag : ℕ) → (tag ≡ 0 → ⊥) → tag < 33
      → reading_of dump skip tag ≡ step tag (reading_of dump skip (depends (entry_at tag)))
  unfolding reading_of
  reading_step tag some h =
      let r = rule_of tag some h in
      within_more _ tag some ∙ ap (step tag) (sym (enough _ (depends (entry_at tag)) r.next (omega (arith, r.falls, r.four))))

  abbrev LiesAt : ℕ → ℕ → Type 0
  LiesAt n tag = Lies (along span_of n tag) (along up_base n tag) (along dn_base n tag) (within n dump skip tag)

  -- a reading is its chain's bases, give or take its widths
  lies : (n tag : ℕ) → tag < 33 → rank_of tag ≤ n → LiesAt n tag
  unfolding within along
  lies zero tag h p = record { low = omega arith; high = omega arith }
  lies (suc n) tag h p =
      zero_or tag
      (λ e. rw e (record { low = omega arith; high = omega arith }))
      (λ some.
      (let r = rule_of tag some h in
      let term : ℤ = term_of dump skip (entry_at tag) in
      let near = term_near tag r dump skip in
      let rest = lies n (depends (entry_at tag)) r.next (omega (arith, r.falls)) in
      let first = sum_is term (base (entry_at tag)) in
      let second = sum_is (term +ℤ base (entry_at tag)) (within n dump skip (depends (entry_at tag))) in
      rw (ne_eqb tag 0 some) (record { low = omega arith; high = omega arith })))

  module _ (tag : ℕ) (h : tag < 33) where
    pub reading_whole : reading_of dump skip tag ≡ pos (up (reading_of dump skip tag))
    unfolding reading_of
    reading_whole =
        zero_or tag
        (λ e. rw e (rw (within_none 4)))
        (λ some.
        (let r = rule_of tag some h in
        let l = lies 4 tag h r.four in
        not_negative (within 4 dump skip tag) (omega (arith, r.between.least))))

    pub reading_range : (tag ≡ 0 → ⊥) → {low high : ℕ} → Spread low high tag
        → (low ≤ up (reading_of dump skip tag)) × (up (reading_of dump skip tag) ≤ high)
    unfolding reading_of
    reading_range some s =
        let l = lies 4 tag h (rule_of tag some h).four in
        omega (arith, s.least, s.most, ap dn reading_whole)

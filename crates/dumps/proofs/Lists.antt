-- Laws of a list of block lengths: when 20 is given, and what is known of a list where it isn't. Assumes nothing.
use mathlib.Core.Path.{◌≡◌, refl}
use mathlib.Core.Bool.{true, false, true≢false}
use mathlib.Core.List.{List, [], ◌∷◌}
use mathlib.Core.Logic.{inl, inr, ⊎_elim}
use Prim.Native.Nat.{ℕ, zero, suc, ◌+◌, ◌≤◌, ◌<◌, max}
use native.Mathlib.Omega.{arith}
use lib.ListN.{length}
use lib.Dec.{leb}
use borrow.Author.Count.{below_more}
use borrow.Author.Tests.{eq-eqb, ne_eqb, le-leb, leb-true}
use Rattle.terms.specs.Exactly.{Exactly}
use Rattle.terms.proofs.Exactly.{Some, exactly}
use Rattle.terms.proofs.Order.{either, equal_or, whether}
use Rattle.terms.proofs.Refusals.{and_true}
use Rattle.dumps.specs.Lengths.{words_of, each_at_most, lengths_refusal}
use Rattle.dumps.specs.Private.{Longest}
use Rattle.dumps.specs.When.{LengthsWhen, not_eleven, above_eight, good_lengths}

-- each of a list is at most that exactly if each that is looked up is, wherever that may be
each_most : (most : ℕ) (lengths : List ℕ) → each_at_most most lengths ≡ true → (block : ℕ) → words_of lengths block ≤ most
unfolding each_at_most
each_most most [] e block = omega arith
each_most most (n ∷ ns) e zero = leb-true _ _ (and_true (leb n most) _ e).0
each_most most (n ∷ ns) e (suc block) = each_most most ns (and_true (leb n most) _ e).1 block

most_each : (most : ℕ) (lengths : List ℕ) → ((block : ℕ) → block < length lengths → words_of lengths block ≤ most)
    → each_at_most most lengths ≡ true
unfolding each_at_most
most_each most [] f = refl
most_each most (n ∷ ns) f = rw (le-leb _ _ (f 0 (omega arith))) (most_each most ns (λ block h. f (suc block) (omega arith)))

some_above : (most : ℕ) (lengths : List ℕ) → each_at_most most lengths ≡ false
    → (block : ℕ) × (block < length lengths) × (most < words_of lengths block)
unfolding each_at_most
some_above most [] e = absurd (true≢false e)
some_above most (n ∷ ns) e =
    either n most
    (λ h. let p = some_above most ns (rw (le-leb _ _ h) at e) in (suc p.0, omega (arith, p.1), p.2))
    (λ h. (0, omega arith, h))

module _ (lengths : List ℕ) where
  lengths_gives : (n : ℕ) → LengthsWhen lengths n → lengths_refusal lengths ≡ n
  unfolding lengths_refusal
  lengths_gives _ (not_eleven h) = simp (ne_eqb _ _ h)
  lengths_gives _ (above_eight e block b h) =
      whether (each_at_most 8 lengths)
      (λ t. absurd (omega (arith, each_most 8 lengths t block)))
      (λ t. simp (t, eq-eqb _ _ e))
  lengths_gives _ (good_lengths e f) = simp (eq-eqb _ _ e, most_each 8 lengths (λ block h. f block (omega arith)))

  lengths_some : Some (LengthsWhen lengths)
  lengths_some =
      equal_or (length lengths) 11
      (λ e.
      whether (each_at_most 8 lengths)
      (λ t. (0, good_lengths e (λ block b. each_most 8 lengths t block)))
      (λ t. let p = some_above 8 lengths t in (20, above_eight e p.0 (omega (arith, p.1)) p.2)))
      (λ h. (20, not_eleven h))

  pub lengths_exactly : Exactly (lengths_refusal lengths) (LengthsWhen lengths)
  lengths_exactly = exactly lengths_gives lengths_some

  -- a list that isn't refused has eleven lengths of at most 8
  good_of : {n : ℕ} → LengthsWhen lengths n → n ≡ 0 → (length lengths ≡ 11) × ((block : ℕ) → block ≤ 10 → words_of lengths block ≤ 8)
  good_of (not_eleven h) z = absurd (omega arith)
  good_of (above_eight e block b h) z = absurd (omega arith)
  good_of (good_lengths e f) z = (e, f)

  pub lengths_good : lengths_refusal lengths ≡ 0 → (length lengths ≡ 11) × ((block : ℕ) → block ≤ 10 → words_of lengths block ≤ 8)
  lengths_good e = good_of ((lengths_exactly 0).0 e) refl

  -- the largest of the first n, as a loop finds it
  pub longest_start : Longest lengths 0 0
  longest_start = record { each = λ block h. absurd (omega arith); one = inl refl }

  pub longest_more : (n words : ℕ) → Longest lengths n words → Longest lengths (n + 1) (max words (words_of lengths n))
  longest_more n words l =
      either (words_of lengths n) words
      (λ h.
      let m : max words (words_of lengths n) ≡ words = omega arith in
      rw m
      (record {
        each = below_more (λ (block : ℕ). words_of lengths block ≤ words) n l.each h;
        one = ⊎_elim inl (λ p. inr (p.0, omega (arith, p.1), p.2)) l.one;
      }))
      (λ h.
      let m : max words (words_of lengths n) ≡ words_of lengths n = omega arith in
      rw m
      (record {
        each = below_more (λ (block : ℕ). words_of lengths block ≤ words_of lengths n) n (λ block b. omega (arith, l.each block b)) (omega arith);
        one = inr (n, omega arith, refl);
      }))

  -- where it is above 8 the list is refused
  pub longest_above : (n words : ℕ) → n ≤ 11 → length lengths ≡ 11 → Longest lengths n words → 8 < words → lengths_refusal lengths ≡ 20
  longest_above n words inside e l h =
      ⊎_elim
      (λ z. absurd (omega arith))
      (λ p. lengths_gives 20 (above_eight e p.0 (omega (arith, p.1)) (omega (arith, p.2))))
      l.one

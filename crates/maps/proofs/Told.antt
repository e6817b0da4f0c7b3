-- Laws of what a refusal on a map tells: where a run of records stops; any number that is of no record is plain; which case a call's answer
-- is, and what it says. Assumes nothing.
use mathlib.Core.Path.{◌≡◌, refl, sym, ◌∙◌, ap}
use mathlib.Core.Bool.{Bool, true, false, cond, true≢false}
use mathlib.Core.List.{List}
use Prim.Native.Nat.{ℕ, ◌≤◌, ◌<◌}
use lib.Dec.{eqb}
use borrow.Author.Tests.{eq-eqb, ne_eqb}
use Rattle.terms.specs.declared.chip.MapChip.{MapChip}
use Rattle.terms.specs.declared.refusal.Refusal.{Refusal}
use Rattle.std.specs.Prelude.{Result, Ok, Err}
use Rattle.terms.specs.Refusal.{refuse, or_else, first_of, plain, told, outcome_told, outcome_of}
use Rattle.terms.specs.Says.{Says}
use Rattle.terms.proofs.Refusals.{told_good, or_else_some, went_well, was_refused, number_is, Passed, first_stop, first_none}
use Rattle.terms.proofs.Says.{told_says}
use Rattle.terms.proofs.Exactly.{case}
use Rattle.dumps.specs.Lengths.{lengths_refusal}
use Rattle.dumps.proofs.Lists.{lengths_exactly}
use Rattle.dumps.specs.When.{LengthsWhen, not_eleven, above_eight, good_lengths}
use Rattle.efuse.specs.When.{bad_block, bad_bits, good_place}
use Rattle.maps.specs.Map.{stray_of, map_record_refusals}
use Rattle.maps.specs.Told.{of_record, told_from, told_of}
use Rattle.maps.specs.When.{MapRecordWhen, bad_id, bad_byte, bad_place, bad_count, good_record_case}
use Rattle.maps.proofs.Exactly.{record_exactly}

-- a place that 18 alone tells
pub place_byte : {n place stray : ℕ} → n ≡ 18 → place ≡ stray → place ≡ cond (eqb n 18) stray 0
place_byte h e = e ∙ rw (eq-eqb _ _ h)

-- a test for a number that is of no record gives none of a record
pub refuse_plain : (t : Bool) (n : ℕ) → of_record n ≡ false → of_record (refuse t n 0) ≡ false
refuse_plain true n e = e
refuse_plain false n e = refl

-- nor does the list of block lengths
pub lengths_plain : {lengths : List ℕ} {n : ℕ} → LengthsWhen lengths n → of_record n ≡ false
lengths_plain (not_eleven h) = refl
lengths_plain (above_eight e block b h) = refl
lengths_plain (good_lengths e f) = refl

module _ (lengths map : List ℕ) where
  -- what a record gives is a number of a record
  pub when_of_record : {id k n : ℕ} → MapRecordWhen lengths map id k n → (n ≡ 0 → ⊥) → of_record n ≡ true
  when_of_record (bad_id h) some = refl
  when_of_record (bad_byte i h) some = refl
  when_of_record (bad_place s (bad_block b) h) some = refl
  when_of_record (bad_place s (bad_bits b o) h) some = refl
  when_of_record (bad_place s (good_place i) h) some = absurd (h refl)
  when_of_record (bad_count s p o) some = refl
  when_of_record (good_record_case s p l u) some = absurd (some refl)

  -- what a run of records tells, where it stops and where it doesn't
  module _ (first n k : ℕ) where
    abbrev numbers : ℕ → ℕ
    numbers = map_record_refusals lengths map first

    pub told_stop : k < n → Passed numbers n k → {m : ℕ} → m ≡ numbers k → (m ≡ 0 → ⊥)
        → {place : ℕ} → place ≡ cond (eqb m 18) (stray_of map k) 0
        → record { number = m; «record» = k; place = place } ≡ told_from lengths map first n (first_of numbers 0 n)
    told_stop h p {m} e some at =
        let stop = first_stop numbers n k h p (sym e) some in
        let bad : of_record m ≡ true = when_of_record ((record_exactly lengths map _ k m).0 (sym e)) some in
        rw (stop.0, stop.1, bad, at)

    pub told_end : n ≤ k → Passed numbers n k → Ok tt ≡ outcome_told (told_from lengths map first n (first_of numbers 0 n))
    told_end h p = rw (first_none numbers n k h p)

  module _ (chip : MapChip) where
    -- it has its number, and one that is of no record tells 0 and 0
    pub told_number : (n : ℕ) → (told_of lengths chip map n).number ≡ n
    unfolding told_of
    told_number n = refl

    pub told_plain : {n : ℕ} → of_record n ≡ false → told_of lengths chip map n ≡ plain n
    unfolding told_of
    told_plain {n} e = rw (e, ne_eqb n 18 (λ h. true≢false (sym (ap of_record h) ∙ e)))

    pub told_none : (n : ℕ) → (told_of lengths chip map n).number ≡ 0 → told_of lengths chip map n ≡ plain 0
    told_none n e = ap (told_of lengths chip map) (sym (told_number n) ∙ e) ∙ told_plain refl

    -- of a plain refusal, and of one that comes from a call on the same map
    pub told_as : {why : Refusal} {n number : ℕ} → why ≡ plain n → of_record n ≡ false → number ≡ n → why ≡ told_of lengths chip map number
    told_as p e h = p ∙ sym (told_plain e) ∙ ap (told_of lengths chip map) (sym h)

    pub told_same : {why : Refusal} {n number : ℕ} → why ≡ told_of lengths chip map n → number ≡ n → why ≡ told_of lengths chip map number
    told_same p h = p ∙ ap (told_of lengths chip map) (sym h)

    -- what a caller knows of the number
    pub told_is_number : {why : Refusal} {n : ℕ} → why ≡ told_of lengths chip map n → why.number ≡ n
    told_is_number e = number_is e ∙ told_number _

    -- a number that is of no record is refused as it is without a map
    pub outcome_plain : (n : ℕ) → of_record n ≡ false → outcome_of n ≡ outcome_told (told_of lengths chip map n)
    outcome_plain n e = ap outcome_told (sym (told_plain e))

    -- of two checks in order, of which the first is of no record: what it refuses is refused, and where it went well the second decides
    module _ (first after : ℕ) where
      pub told_first : {why : Refusal} → of_record first ≡ false → Err why ≡ outcome_of first
          → Err why ≡ outcome_told (told_of lengths chip map (or_else first after))
      told_first plain e = e ∙ outcome_plain first plain ∙ ap (λ n. outcome_told (told_of lengths chip map n)) (sym (or_else_some first after (was_refused _ tt e).0))

      pub told_second : {v : Unit} {answer : Result Unit Refusal} → Ok v ≡ outcome_of first → answer ≡ outcome_told (told_of lengths chip map after)
          → answer ≡ outcome_told (told_of lengths chip map (or_else first after))
      told_second e h = rw (went_well _ tt e).0 h

    -- the list's refusal comes first
    pub lengths_first : (after : ℕ) {why : Refusal} → Err why ≡ outcome_of (lengths_refusal lengths)
        → Err why ≡ outcome_told (told_of lengths chip map (or_else (lengths_refusal lengths) after))
    lengths_first after e = told_first (lengths_refusal lengths) after (lengths_plain (case (lengths_exactly lengths))) e

    -- what a caller knows where the check of a map went well
    pub told_went_well : {n : ℕ} {v : Unit} → Ok v ≡ outcome_told (told_of lengths chip map n) → n ≡ 0
    told_went_well e = sym (told_number _) ∙ (went_well _ tt e).0

    -- of two checks in order, of which the second is of no record: the same
    module _ (first after : ℕ) where
      pub told_before : {why : Refusal} → Err why ≡ outcome_told (told_of lengths chip map first)
          → Err why ≡ outcome_told (told_of lengths chip map (or_else first after))
      told_before e =
          e ∙ ap (λ n. outcome_told (told_of lengths chip map n)) (sym (or_else_some first after (λ z. (was_refused _ tt e).0 (told_number first ∙ z))))

      pub told_after : {v : Unit} {answer : Result Unit Refusal} → Ok v ≡ outcome_told (told_of lengths chip map first) → of_record after ≡ false
          → answer ≡ outcome_of after → answer ≡ outcome_told (told_of lengths chip map (or_else first after))
      told_after e plain h = rw (told_went_well e) (h ∙ outcome_plain after plain)

    -- which case an answer is where nothing is refused
    pub map_good : {A : Type 0} (good : A) {number : ℕ} {answer : Result A Refusal} → number ≡ 0 → answer ≡ Ok good
        → answer ≡ told (told_of lengths chip map number) good
    map_good good e h = told_good _ good (told_number _ ∙ e) h

    -- and what it says
    pub map_says : {A : Type 0} (zeros : A) (number : ℕ) (v : A)
        → Says zeros (told (told_of lengths chip map number) v) (told_of lengths chip map number) v
    map_says zeros number v = told_says zeros _ (told_none number) v

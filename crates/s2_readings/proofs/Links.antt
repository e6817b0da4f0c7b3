-- Laws of a chain's fields: tag 0's lies in any block, so that a chain of which four lie inside has no other that doesn't; and 5 is given
-- exactly when one lies outside. Assumes nothing.
use mathlib.Core.Path.{◌≡◌, refl, sym, ◌∙◌, ap}
use mathlib.Core.List.{List}
use mathlib.Core.Logic.{inl, inr}
use Prim.Native.Nat.{ℕ, zero, suc, ◌+◌, ◌*◌, ◌≤◌, ◌<◌, min}
use native.Mathlib.Nat.{zero-add, suc-add, add-sub_of_le, min-eq_left}
use native.Mathlib.Omega.{arith}
use lib.ListN.{get_or-eq_default}
use Rattle.terms.specs.Exactly.{Exactly}
use Rattle.terms.specs.When.{FirstWhen, fault, no_fault}
use Rattle.terms.proofs.Check.{Check, at_most, rule}
use Rattle.terms.proofs.Exactly.{exactly, case, first_exactly}
use Rattle.terms.proofs.Order.{either, zero_or}
use Rattle.terms.proofs.Refusals.{first_each}
use Rattle.dumps.specs.Lengths.{words_of}
use Rattle.efuse.specs.Field.{bits_of, place_refusal, field_bits, value_at}
use Rattle.efuse.specs.When.{PlaceWhen, bad_block, bad_bits, good_place}
use Rattle.efuse.proofs.Exactly.{place_exactly}
use Rattle.efuse.proofs.Places.{inside_place, value_inside}
use Rattle.s2_readings.specs.Chain.{field_of, link_field, chain_refusal}
use Rattle.s2_readings.specs.Private.{Ready, Readable, ChainReadable}
use Rattle.s2_readings.specs.Rule.{after_links}
use Rattle.s2_readings.specs.Table.{begin_bit, bit_length, depends, calib_map, entry_at}
use Rattle.s2_readings.specs.When.{link_end, ChainWhen, outside, all_inside}
use Rattle.s2_readings.proofs.Rule.{Rule, rule_of}
use Rattle.s2_readings.proofs.TableRule.{table_rule}

-- some links, and then others
links_add : (m n tag : ℕ) → after_links (m + n) tag ≡ after_links n (after_links m tag)
unfolding after_links
links_add zero n tag = rw zero-add
links_add (suc m) n tag = rw suc-add (links_add m n (depends (entry_at tag)))

pub link_more : (k tag : ℕ) → after_links (k + 1) tag ≡ depends (entry_at (after_links k tag))
unfolding after_links
link_more k tag = links_add k 1 tag

links_zero : (k : ℕ) → after_links k 0 ≡ 0
unfolding after_links entry_at calib_map
links_zero zero = refl
links_zero (suc k) = links_zero k

-- the tag that a tag of the table depends on is one of the table
pub depends_in_table : (tag : ℕ) → tag < 33 → depends (entry_at tag) < 33
unfolding entry_at calib_map
depends_in_table tag h = zero_or tag (λ e. rw e (omega arith)) (λ some. (rule_of tag some h).next)

-- a field begins inside the room for a block
begin_check : (tag : ℕ) → Check (begin_bit (entry_at tag) ≤ 255)
begin_check tag = at_most (begin_bit (entry_at tag)) 255

begins : (tag : ℕ) → begin_bit (entry_at tag) ≤ 255
unfolding begin_check entry_at calib_map
begins tag =
    either 33 tag
    (λ h. rw (get_or-eq_default calib_map _ h) (omega arith))
    (λ h. rule begin_check 33 tt tag h)

module _ (lengths : List ℕ) where
  abbrev own : ℕ
  own = 32 * words_of lengths 2

  -- tag 0's field is empty
  zero_inside : place_refusal lengths (field_of (entry_at 0)) ≡ 0
  unfolding entry_at calib_map
  zero_inside = inside_place lengths _ (record { block = omega arith; start = omega arith; end = omega arith })

  module _ (tag : ℕ) where
    -- where 5 isn't given, each field of the chain lies inside, however far one goes
    pub chain_inside : tag < 33 → chain_refusal lengths tag ≡ 0 → (k : ℕ) → place_refusal lengths (link_field tag k) ≡ 0
    unfolding chain_refusal
    chain_inside h e k =
        either 4 k
        (λ past.
        (let ended : after_links k tag ≡ 0 = ap (λ (n : ℕ). after_links n tag) (sym (add-sub_of_le past)) ∙ links_add 4 _ tag ∙ ap (after_links _) (table_rule tag (omega arith)).ends ∙ links_zero _ in
        rw ended zero_inside))
        (λ near. rw zero-add at (first_each (λ k. place_refusal lengths (link_field tag k)) 0 4 e k near))

    abbrev run : Exactly (chain_refusal lengths tag) (FirstWhen (λ k. PlaceWhen lengths (link_field tag k)) 4)
    unfolding chain_refusal
    run = first_exactly (λ k. place_exactly lengths (link_field tag k)) 4

    -- a field of block 2 that begins inside it lies outside exactly if it ends there
    ends_inside : {n : ℕ} (k : ℕ) → PlaceWhen lengths (link_field tag k) n → n ≡ 0 → link_end tag k ≤ own
    ends_inside k (bad_block b) z = absurd (omega arith)
    ends_inside k (bad_bits b o) z = absurd (omega arith)
    ends_inside k (good_place i) z = i.end

    ends_outside : {n : ℕ} (k : ℕ) → k < 4 → PlaceWhen lengths (link_field tag k) n → (n ≡ 0 → ⊥) → ChainWhen lengths tag n
    ends_outside k h (bad_block b) some = absurd (omega arith)
    ends_outside k h (bad_bits b (inl o)) some = absurd (omega (arith, begins (after_links k tag)))
    ends_outside k h (bad_bits b (inr o)) some = outside k h o
    ends_outside k h (good_place i) some = absurd (some refl)

    chain_when : {n : ℕ} → FirstWhen (λ k. PlaceWhen lengths (link_field tag k)) 4 n → ChainWhen lengths tag n
    chain_when (fault k f) = ends_outside k f.inside f.here f.some
    chain_when (no_fault good) = all_inside (λ k h. ends_inside k (good k h) refl)

    one_case : {m n : ℕ} → ChainWhen lengths tag m → ChainWhen lengths tag n → m ≡ n
    one_case (outside k h o) (outside j i p) = refl
    one_case (outside k h o) (all_inside f) = absurd (omega (arith, f k h))
    one_case (all_inside f) (outside k h o) = absurd (omega (arith, f k h))
    one_case (all_inside f) (all_inside g) = refl

    pub chain_exactly : Exactly (chain_refusal lengths tag) (ChainWhen lengths tag)
    chain_exactly = exactly (λ n w. one_case (chain_when (case run)) w) (_, chain_when (case run))

  -- and so it can be read, where the dump is whole and the list is good
  pub chain_readable : (dump : List ℕ) (tag : ℕ) → Ready lengths dump → tag < 33 → chain_refusal lengths tag ≡ 0
      → ChainReadable lengths dump tag
  chain_readable dump tag r h e k = (r, chain_inside tag h e k)

  -- the chain of the tag that a tag depends on is the rest of its chain
  pub rest_readable : (dump : List ℕ) (tag : ℕ) → ChainReadable lengths dump tag → ChainReadable lengths dump (depends (entry_at tag))
  unfolding after_links
  rest_readable dump tag r k = r (suc k)

  pub first_readable : (dump : List ℕ) (tag : ℕ) → ChainReadable lengths dump tag → Readable lengths dump (field_of (entry_at tag))
  unfolding after_links
  first_readable dump tag r = r 0

-- what is read of a tag's field: all of it
pub field_read : (lengths dump : List ℕ) (tag : ℕ) → Rule tag → Readable lengths dump (field_of (entry_at tag))
    → value_at lengths dump (field_of (entry_at tag)) ≡ bits_of dump 2 (begin_bit (entry_at tag)) (bit_length (entry_at tag))
unfolding field_bits
field_read lengths dump tag r p =
    let few-enough : min (bit_length (entry_at tag)) 32 ≡ bit_length (entry_at tag) = min-eq_left (omega (arith, r.few)) in
    value_inside lengths dump (field_of (entry_at tag)) p.0.whole p.0.room p.1 ∙ rw few-enough

-- Laws of field maps: every id is in the table, and so is a bit count that isn't refused; which case the refusal of a record and of
-- a map is; each field of a map that passes is read without refusal. Assumes nothing.
use mathlib.Core.Path.{◌≡◌, refl, sym, ◌∙◌, ap}
use mathlib.Core.Bool.{Bool, not, ◌||◌}
use mathlib.Core.List.{List}
use Prim.Native.Nat.{ℕ, ◌+◌, ◌*◌, ◌≤◌, ◌<◌}
use native.Mathlib.Nat.{zero-add}
use lib.ListN.{length}
use lib.Dec.{ltb, eqb, lit≤}
use borrow.Author.Tests.{ltb-false, eq-eqb, ne_eqb}
use Rattle.terms.specs.declared.chip.MapChip.{MapChip}
use Rattle.terms.specs.declared.chip.MapChip.TheVariants.{Esp32, S2, C6}
use Rattle.std.specs.Prelude.{Result, Ok, Err}
use Rattle.terms.specs.declared.refusal.Refusal.{Refusal}
use Rattle.terms.specs.Refusal.{first_of, outcome_of}
use Rattle.terms.proofs.Refusals.{refuse_none, or_none, or_else_none, or_else_some, or_else_given, first_each, went_well, was_refused}
use Rattle.dumps.specs.Dump.{dump_refusal}
use Rattle.dumps.specs.Lengths.{lengths_refusal}
use Rattle.efuse.specs.declared.field.EfuseField.{EfuseField}
use Rattle.maps.specs.declared.map.Ids.{Ids}
use Rattle.efuse.specs.Field.{place_refusal, read_refusal}
use Rattle.maps.specs.Map.{record_byte, field_of, stray_of, ids_of, counts_of}
use Rattle.maps.specs.Map.{count_refusal, map_record_refusal, map_record_refusals, map_refusal, check_refusal}
use Rattle.efuse.proofs.Places.{read_good}

-- a chip's ids are from 1 to 23
pub ids_in_table : (chip : MapChip) → (1 ≤ (ids_of chip).first) × ((ids_of chip).first + (ids_of chip).len ≤ 24)
ids_in_table Esp32 = (lit≤ tt, lit≤ tt)
ids_in_table S2 = (lit≤ tt, lit≤ tt)
ids_in_table C6 = (lit≤ tt, lit≤ tt)

-- a bit count that isn't refused is as in the table
pub count_range : (id count : ℕ) → count_refusal id count ≡ 0 → ((counts_of id).min ≤ count) × (count ≤ (counts_of id).max)
unfolding count_refusal
count_range id count e =
    let few : Bool = ltb count (counts_of id).min in
    let many : Bool = ltb (counts_of id).max count in
    let p = or_none few many (refuse_none (few || many) 5 0 e).0 in
    (ltb-false _ _ p.0, ltb-false _ _ p.1)

module _ (lengths map : List ℕ) where
  -- which case a record's refusal is
  module _ (id k : ℕ) where
    pub record_id : (record_byte map k 0 ≡ id → ⊥) → 3 ≡ map_record_refusal lengths map id k
    unfolding map_record_refusal
    record_id i = simp (ne_eqb _ _ i)

    pub record_stray : record_byte map k 0 ≡ id → (stray_of map k ≡ 0 → ⊥) → 18 ≡ map_record_refusal lengths map id k
    unfolding map_record_refusal
    record_stray i s = simp (eq-eqb _ _ i, ne_eqb _ _ s)

    module _ (i : record_byte map k 0 ≡ id) (s : stray_of map k ≡ 0)
        {f : EfuseField} (g : f ≡ field_of map k) {n : ℕ} (p : n ≡ place_refusal lengths f) where
      pub record_place : (n ≡ 0 → ⊥) → n ≡ map_record_refusal lengths map id k
      unfolding map_record_refusal
      record_place h = simp (eq-eqb _ _ i, eq-eqb _ _ s, ← g, ← p) (sym (or_else_some n _ h))

      pub record_count : n ≡ 0 → map_record_refusal lengths map id k ≡ count_refusal id f.bit_count
      unfolding map_record_refusal
      record_count z =
          let inside : place_refusal lengths (field_of map k) ≡ 0 = ap (place_refusal lengths) (sym g) ∙ sym p ∙ z in
          simp (g, eq-eqb _ _ i, eq-eqb _ _ s, inside)

    -- as a chain of checks asks it, where its id is right and its last bytes are zero
    module _ (i : record_byte map k 0 ≡ id) (s : stray_of map k ≡ 0) (f : EfuseField) (g : f ≡ field_of map k) where
      pub place_refused : {why : Refusal} → Err why ≡ outcome_of (place_refusal lengths f) → Err why ≡ outcome_of (map_record_refusal lengths map id k)
      place_refused e = e ∙ ap outcome_of (record_place i s g refl (was_refused _ tt e).0)

      pub count_decides : {v : Unit} {answer : Result Unit Refusal} → Ok v ≡ outcome_of (place_refusal lengths f) → answer ≡ outcome_of (count_refusal id f.bit_count)
          → answer ≡ outcome_of (map_record_refusal lengths map id k)
      count_decides e h = h ∙ ap outcome_of (sym (record_count i s g refl (went_well _ tt e).0))

    -- a record that isn't refused has a field that isn't, and a bit count that its id may have
    pub record_good : map_record_refusal lengths map id k ≡ 0
        → (place_refusal lengths (field_of map k) ≡ 0) × (count_refusal id (field_of map k).bit_count ≡ 0)
    unfolding map_record_refusal
    record_good e =
        let p = refuse_none (not (eqb (record_byte map k 0) id)) 2 _ e in
        let q = refuse_none (not (eqb (stray_of map k) 0)) 17 _ p.1 in
        or_else_none (place_refusal lengths (field_of map k)) _ q.1

  -- which case a map's refusal is
  module _ (chip : MapChip) {ids : Ids} (i : ids ≡ ids_of chip) where
    pub map_length : (length map ≡ 8 * ids.len → ⊥) → 2 ≡ map_refusal lengths chip map
    unfolding map_refusal
    map_length h = rw (← i, ne_eqb _ _ h)

    pub map_records : length map ≡ 8 * ids.len
        → map_refusal lengths chip map ≡ first_of (map_record_refusals lengths map ids.first) 0 ids.len
    unfolding map_refusal
    map_records h = rw (← i, eq-eqb _ _ h)

  -- which case `check_map`'s refusal is
  module _ (chip : MapChip) {n : ℕ} (e : n ≡ lengths_refusal lengths) where
    pub check_list : (n ≡ 0 → ⊥) → check_refusal lengths chip map ≡ n
    unfolding check_refusal
    check_list h = or_else_given _ _ (sym e) h

    pub check_map_only : n ≡ 0 → check_refusal lengths chip map ≡ map_refusal lengths chip map
    unfolding check_refusal
    check_map_only z = simp (sym e ∙ z)

  -- of a map that passes, each record does, and its field is read without refusal
  module _ (chip : MapChip) (good : map_refusal lengths chip map ≡ 0) (k : ℕ) (h : k < (ids_of chip).len) where
    pub map_record : map_record_refusal lengths map ((ids_of chip).first + k) k ≡ 0
    unfolding map_refusal
    map_record =
        let p = refuse_none (not (eqb (length map) (8 * (ids_of chip).len))) 1 _ good in
        rw zero-add at (first_each (map_record_refusals lengths map (ids_of chip).first) 0 (ids_of chip).len p.1 k h)

    pub map_read : (dump : List ℕ) → dump_refusal lengths dump ≡ 0 → read_refusal lengths dump (field_of map k) ≡ 0
    map_read dump d = read_good lengths dump (field_of map k) d (record_good ((ids_of chip).first + k) k map_record).0

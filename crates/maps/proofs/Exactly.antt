-- Each number of a map is given exactly when: each case gives its number by the laws of the refusals, and the tests leave no other
-- case. Assumes nothing.
use mathlib.Core.Path.{◌≡◌, refl, sym, ◌∙◌}
use mathlib.Core.Bool.{not}
use mathlib.Core.Logic.{inl, inr}
use mathlib.Core.List.{List}
use Prim.Native.Nat.{ℕ, ◌+◌, ◌*◌}
use lib.ListN.{length}
use lib.Dec.{eqb}
use borrow.Author.Tests.{eq-eqb, lt-ltb, le-ltb, eqb-true, not-false}
use Rattle.terms.specs.declared.chip.MapChip.{MapChip}
use Rattle.terms.specs.Exactly.{Exactly}
use Rattle.terms.specs.Refusal.{first_of}
use Rattle.terms.specs.When.{FirstWhen}
use Rattle.terms.proofs.Exactly.{Some, exactly, case, by_first, first_exactly}
use Rattle.terms.proofs.Order.{either, equal_or}
use Rattle.terms.proofs.Refusals.{refuse_none}
use Rattle.dumps.proofs.Lists.{lengths_exactly}
use Rattle.efuse.specs.declared.field.EfuseField.{EfuseField}
use Rattle.efuse.specs.When.{PlaceWhen}
use Rattle.efuse.proofs.Exactly.{place_exactly}
use Rattle.maps.specs.Map.{record_byte, field_of, stray_of, ids_of, counts_of, count_refusal, map_record_refusal, map_record_refusals, map_refusal, check_refusal}
use Rattle.maps.specs.When.{Zeros, Shaped, MapRecordWhen, bad_id, bad_byte, bad_place, bad_count, good_record_case}
use Rattle.maps.specs.When.{MapWhen, bad_length, records, CheckWhen, check_lengths, check_map}
use Rattle.maps.proofs.Maps.{record_id, record_stray, record_place, record_count, map_length, map_records, check_list, check_map_only}

-- a map
module _ (lengths map : List ℕ) where
  module _ (id k : ℕ) where
    abbrev f : EfuseField
    f = field_of map k

    no_stray : Zeros map k → stray_of map k ≡ 0
    no_stray z = simp (eq-eqb _ _ z.fifth, eq-eqb _ _ z.sixth, eq-eqb _ _ z.seventh)

    zeros : stray_of map k ≡ 0 → Zeros map k
    zeros s =
        let p = refuse_none (not (eqb (record_byte map k 5) 0)) 4 _ s in
        let q = refuse_none (not (eqb (record_byte map k 6) 0)) 5 _ p.1 in
        let z = refuse_none (not (eqb (record_byte map k 7) 0)) 6 0 q.1 in
        record {
          fifth = eqb-true _ _ (not-false _ p.0);
          sixth = eqb-true _ _ (not-false _ q.0);
          seventh = eqb-true _ _ (not-false _ z.0);
        }

    count_is : Shaped map id k → PlaceWhen lengths f 0 → map_record_refusal lengths map id k ≡ count_refusal id f.bit_count
    count_is s p = record_count lengths map id k s.0 (no_stray s.1) refl (sym ((place_exactly lengths f 0).1 p)) refl

    record_gives : (n : ℕ) → MapRecordWhen lengths map id k n → map_record_refusal lengths map id k ≡ n
    unfolding count_refusal
    record_gives _ (bad_id h) = sym (record_id lengths map id k h)
    record_gives _ (bad_byte i h) = sym (record_stray lengths map id k i (λ s. h (zeros s)))
    record_gives n (bad_place s p some) =
        sym (record_place lengths map id k s.0 (no_stray s.1) refl (sym ((place_exactly lengths f n).1 p)) some)
    record_gives _ (bad_count s p (inl h)) = count_is s p ∙ simp (lt-ltb _ _ h)
    record_gives _ (bad_count s p (inr h)) =
        count_is s p
        ∙ either (counts_of id).min f.bit_count (λ l. simp (le-ltb _ _ l, lt-ltb _ _ h)) (λ l. simp (lt-ltb _ _ l))
    record_gives _ (good_record_case s p l u) = count_is s p ∙ simp (le-ltb _ _ l, le-ltb _ _ u)

    by_count : Shaped map id k → PlaceWhen lengths f 0 → Some (MapRecordWhen lengths map id k)
    by_count s p =
        either (counts_of id).min f.bit_count
        (λ l.
        either f.bit_count (counts_of id).max
        (λ u. (0, good_record_case s p l u))
        (λ u. (6, bad_count s p (inr u))))
        (λ l. (6, bad_count s p (inl l)))

    record_some : Some (MapRecordWhen lengths map id k)
    record_some =
        equal_or (record_byte map k 0) id
        (λ i.
        equal_or (stray_of map k) 0
        (λ z.
        let s : Shaped map id k = (i, zeros z) in
        by_first (place_exactly lengths f) (λ p. by_count s p) (λ n p some. (n, bad_place s p some)))
        (λ z. (18, bad_byte i (λ s. z (no_stray s)))))
        (λ i. (3, bad_id i))

    pub record_exactly : Exactly (map_record_refusal lengths map id k) (MapRecordWhen lengths map id k)
    record_exactly = exactly record_gives record_some

  module _ (chip : MapChip) where
    abbrev run : Exactly (first_of (map_record_refusals lengths map (ids_of chip).first) 0 (ids_of chip).len)
        (FirstWhen (λ k. MapRecordWhen lengths map ((ids_of chip).first + k) k) (ids_of chip).len)
    run = first_exactly (λ k. record_exactly ((ids_of chip).first + k) k) (ids_of chip).len

    map_gives : (n : ℕ) → MapWhen lengths chip map n → map_refusal lengths chip map ≡ n
    map_gives _ (bad_length h) = sym (map_length lengths map chip refl h)
    map_gives n (records h w) = map_records lengths map chip refl h ∙ (run n).1 w

    map_some : Some (MapWhen lengths chip map)
    map_some = equal_or (length map) (8 * (ids_of chip).len) (λ h. (_, records h (case run))) (λ h. (2, bad_length h))

    pub map_exactly : Exactly (map_refusal lengths chip map) (MapWhen lengths chip map)
    map_exactly = exactly map_gives map_some

    -- `check_map`
    check_gives : (n : ℕ) → CheckWhen lengths chip map n → check_refusal lengths chip map ≡ n
    check_gives n (check_lengths l some) = check_list lengths map chip (sym ((lengths_exactly lengths n).1 l)) some
    check_gives n (check_map l m) =
        check_map_only lengths map chip (sym ((lengths_exactly lengths 0).1 l)) refl ∙ (map_exactly n).1 m

    check_some : Some (CheckWhen lengths chip map)
    check_some =
        by_first (lengths_exactly lengths)
        (λ l. (_, check_map l (case map_exactly)))
        (λ n l some. (n, check_lengths l some))

    pub check_exactly : Exactly (check_refusal lengths chip map) (CheckWhen lengths chip map)
    check_exactly = exactly check_gives check_some

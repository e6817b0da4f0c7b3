-- A refusal on a map tells the first bad record and its first nonzero byte, or it is of no record: what tells so is the definition's
-- refusal, and the definition's tells so. Assumes nothing.
use mathlib.Core.Path.{◌≡◌, sym, ◌∙◌, ap, subst}
use mathlib.Core.Bool.{true, false, true≢false}
use mathlib.Core.List.{List}
use Prim.Native.Nat.{ℕ, ◌+◌}
use native.Mathlib.Omega.{arith}
use borrow.Author.Tests.{eq-eqb, ne_eqb}
use Rattle.terms.specs.declared.chip.MapChip.{MapChip}
use Rattle.terms.specs.declared.refusal.Refusal.{Refusal}
use Rattle.terms.specs.Exactly.{Exactly}
use Rattle.terms.specs.Refusal.{plain, outcome_told, refusal_of}
use Rattle.terms.specs.When.{fault, no_fault}
use Rattle.terms.proofs.Exactly.{case, first_fault}
use Rattle.terms.proofs.Order.{whether, equal_or}
use Rattle.efuse.specs.When.{bad_block, bad_bits, good_place}
use Rattle.maps.specs.Map.{record_byte, stray_of, ids_of, map_refusal, check_refusal}
use Rattle.maps.specs.Told.{of_record, bad_record, told_of}
use Rattle.maps.specs.Tells.{FirstByte, fifth, sixth, seventh, FirstBad, Tells, byte, a_record, no_record, ToldWhen}
use Rattle.maps.specs.When.{Zeros, MapRecordWhen, bad_id, bad_byte, bad_place, bad_count, good_record_case, MapWhen, bad_length, records, CheckWhen, check_lengths, check_map}
use Rattle.maps.proofs.Exactly.{record_exactly, map_exactly, check_exactly}
use Rattle.maps.proofs.Says.{check_map_says}
use Rattle.maps.proofs.Told.{lengths_plain, when_of_record, told_plain}

module _ (lengths map : List ℕ) where
  -- the definition's place of the first nonzero byte is that byte's
  byte_is : {k p : ℕ} → FirstByte map k p → stray_of map k ≡ p
  byte_is (fifth h) = simp (ne_eqb _ _ h)
  byte_is (sixth z h) = simp (eq-eqb _ _ z, ne_eqb _ _ h)
  byte_is (seventh z y h) = simp (eq-eqb _ _ z, eq-eqb _ _ y, ne_eqb _ _ h)

  some_byte : (k : ℕ) → (Zeros map k → ⊥) → (p : ℕ) × FirstByte map k p
  some_byte k bad =
      equal_or (record_byte map k 5) 0
      (λ z.
      equal_or (record_byte map k 6) 0
      (λ y. (7, seventh z y (λ x. bad (record { fifth = z; sixth = y; seventh = x }))))
      (λ h. (6, sixth z h)))
      (λ h. (5, fifth h))

  -- at 18 a byte isn't zero
  not_zeros : {id k n : ℕ} → MapRecordWhen lengths map id k n → n ≡ 18 → Zeros map k → ⊥
  not_zeros (bad_id h) e = absurd (omega arith)
  not_zeros (bad_byte i h) e = h
  not_zeros (bad_place s (bad_block b) h) e = absurd (omega arith)
  not_zeros (bad_place s (bad_bits b o) h) e = absurd (omega arith)
  not_zeros (bad_place s (good_place i) h) e = absurd (omega arith)
  not_zeros (bad_count s p o) e = absurd (omega arith)
  not_zeros (good_record_case s p l u) e = absurd (omega arith)

  module _ (chip : MapChip) where
    bad_is : {n k : ℕ} → FirstBad lengths chip map n k → bad_record lengths map (ids_of chip).first (ids_of chip).len ≡ k
    bad_is f = (first_fault (λ k. record_exactly lengths map ((ids_of chip).first + k) k) (ids_of chip).len f).1

    of_record_lem : {n k : ℕ} → FirstBad lengths chip map n k → of_record n ≡ true
    of_record_lem f = when_of_record lengths map f.here f.some

    -- a refusal that tells so is the definition's
    told_is : {r : Refusal} → Tells lengths chip map r → told_of lengths chip map r.number ≡ r
    unfolding told_of
    told_is (byte f b) = rw (bad_is f, byte_is b)
    told_is (a_record f h) = rw (bad_is f, of_record_lem f, ne_eqb _ _ h)
    told_is (no_record e) = told_plain lengths map chip e

    -- and the definition's tells so
    tells_bad : {n k : ℕ} → FirstBad lengths chip map n k → Tells lengths chip map (told_of lengths chip map n)
    tells_bad {n} {k} f =
        equal_or n 18
        (λ e.
        let b = some_byte k (not_zeros f.here e) in
        let t : Tells lengths chip map (record { number = 18; «record» = k; place = b.0 }) = byte (rw e at f) b.1 in
        rw e (rw (← told_is t) at t))
        (λ h.
        let t : Tells lengths chip map (record { number = n; «record» = k; place = 0 }) = a_record f h in
        rw (← told_is t) at t)

    tells_plain : (n : ℕ) → of_record n ≡ false → Tells lengths chip map (told_of lengths chip map n)
    tells_plain n e = let t : Tells lengths chip map (plain n) = no_record e in rw (← told_plain lengths map chip e) at t

    tells_map : {n : ℕ} → MapWhen lengths chip map n → of_record n ≡ true → Tells lengths chip map (told_of lengths chip map n)
    tells_map (bad_length h) t = absurd (true≢false (sym t))
    tells_map (records h (fault k f)) t = tells_bad f
    tells_map (records h (no_fault g)) t = absurd (true≢false (sym t))

    -- a call on a map whose numbers of a record are the map's: its refusal is given exactly when
    module _ {When : ℕ → Type 0} {number : ℕ} (given : Exactly number When)
        (of_map : (n : ℕ) → When n → of_record n ≡ true → MapWhen lengths chip map n) where
      tells : ToldWhen lengths chip map When (told_of lengths chip map number)
      unfolding told_of
      tells = (
        case given,
        whether (of_record number)
            (λ t. tells_map (of_map number (case given) t) t)
            (λ t. tells_plain number t),
      )

      pub told_exactly : Exactly (told_of lengths chip map number) (ToldWhen lengths chip map When)
      told_exactly r =
          (λ e. subst (ToldWhen lengths chip map When) e tells, λ w. ap (told_of lengths chip map) ((given r.number).1 w.0) ∙ told_is w.1)

    -- `map_refusal`
    pub map_told : Exactly (told_of lengths chip map (map_refusal lengths chip map)) (ToldWhen lengths chip map (MapWhen lengths chip map))
    map_told = told_exactly (map_exactly lengths map chip) (λ n w t. w)

    -- `check_map`, whose 20 is of no record
    check_of_map : (n : ℕ) → CheckWhen lengths chip map n → of_record n ≡ true → MapWhen lengths chip map n
    check_of_map n (check_lengths l some) t = absurd (true≢false (sym t ∙ lengths_plain l))
    check_of_map n (check_map l m) t = m

    pub check_map_told : Exactly (refusal_of (outcome_told (told_of lengths chip map (check_refusal lengths chip map)))) (ToldWhen lengths chip map (CheckWhen lengths chip map))
    check_map_told = rw (check_map_says lengths chip map) (told_exactly (check_exactly lengths map chip) check_of_map)

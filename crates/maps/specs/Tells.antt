-- Document 02, #102, as a statement: what a refusal on a map tells, without the definition of specs/Told. Proved of each call that takes a
-- map in its crate's proofs/Told; what any other call's refusal tells, 0 and 0, is in its `Says`.
use Rattle.std.specs.Prelude.{◌≡◌, false, List, ℕ, ◌+◌}
use Rattle.terms.specs.declared.chip.MapChip.{MapChip}
use Rattle.terms.specs.declared.refusal.Refusal.{Refusal}
use Rattle.terms.specs.Refusal.{plain}
use Rattle.terms.specs.When.{FirstFault}
use Rattle.maps.specs.Map.{record_byte, ids_of}
use Rattle.maps.specs.Told.{of_record}
use Rattle.maps.specs.When.{MapRecordWhen}

-- "its place 5, 6 or 7, the first such": that of a record's first nonzero byte
pub data FirstByte (map : List ℕ) (k : ℕ) : ℕ → Type 0 where
  fifth : (record_byte map k 5 ≡ 0 → ⊥) → FirstByte map k 5
  sixth : record_byte map k 5 ≡ 0 → (record_byte map k 6 ≡ 0 → ⊥) → FirstByte map k 6
  seventh : record_byte map k 5 ≡ 0 → record_byte map k 6 ≡ 0 → (record_byte map k 7 ≡ 0 → ⊥) → FirstByte map k 7

-- record k of the map has the fault n, and every earlier one is good
abbrev pub FirstBad : List ℕ → MapChip → List ℕ → ℕ → ℕ → Type 0
FirstBad lengths chip map n k = FirstFault (λ j. MapRecordWhen lengths map ((ids_of chip).first + j) j) (ids_of chip).len n k

-- a refusal tells the first bad record, and at 18 the first nonzero byte of it; or it is of no record, and tells 0 and 0
pub data Tells (lengths : List ℕ) (chip : MapChip) (map : List ℕ) : Refusal → Type 0 where
  byte : {k p : ℕ} → FirstBad lengths chip map 18 k → FirstByte map k p
      → Tells lengths chip map (record { number = 18; «record» = k; place = p })
  a_record : {n k : ℕ} → FirstBad lengths chip map n k → (n ≡ 18 → ⊥)
      → Tells lengths chip map (record { number = n; «record» = k; place = 0 })
  no_record : {n : ℕ} → of_record n ≡ false → Tells lengths chip map (plain n)

-- a call on a map gives a refusal exactly when its number is given, and it tells that: the conditions of a refusal by those of its number
abbrev pub ToldWhen : List ℕ → MapChip → List ℕ → (ℕ → Type 0) → Refusal → Type 0
ToldWhen lengths chip map When r = When r.number × Tells lengths chip map r

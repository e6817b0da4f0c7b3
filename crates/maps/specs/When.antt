-- Document 01, "Numbers given when a call is turned down", and document 02, #102 and #109: when a map gives each number.
-- A case says too that nothing before it in the call's order is given; 0 is given where the call isn't turned down.
use Rattle.std.specs.Prelude.{◌≡◌, ◌⊎◌, List, ℕ, ◌+◌, ◌*◌, ◌≤◌, ◌<◌, length}
use Rattle.terms.specs.declared.chip.MapChip.{MapChip}
use Rattle.terms.specs.When.{FirstWhen}
use Rattle.dumps.specs.When.{LengthsWhen}
use Rattle.efuse.specs.When.{PlaceWhen}
use Rattle.maps.specs.Map.{record_byte, field_of, ids_of, counts_of}

-- the last three bytes of a map's record, which should be zero
pub record Zeros (map : List ℕ) (k : ℕ) : Type 0 where
  pub fifth : record_byte map k 5 ≡ 0
  pub sixth : record_byte map k 6 ≡ 0
  pub seventh : record_byte map k 7 ≡ 0

-- its id is right, and so are those bytes
abbrev pub Shaped : List ℕ → ℕ → ℕ → Type 0
Shaped map id k = (record_byte map k 0 ≡ id) × Zeros map k

-- record k of a map, which should have that id: 3, 18, 4, 5, 6 within each
-- 3: "wrong id alone"
-- 18: "nonzero byte"
-- 4, 5: its field's place
-- 6: "bit count not as in the table"
pub data MapRecordWhen (lengths map : List ℕ) (id k : ℕ) : ℕ → Type 0 where
  bad_id : (record_byte map k 0 ≡ id → ⊥) → MapRecordWhen lengths map id k 3
  bad_byte : record_byte map k 0 ≡ id → (Zeros map k → ⊥) → MapRecordWhen lengths map id k 18
  bad_place : {n : ℕ} → Shaped map id k → PlaceWhen lengths (field_of map k) n → (n ≡ 0 → ⊥) → MapRecordWhen lengths map id k n
  bad_count : Shaped map id k → PlaceWhen lengths (field_of map k) 0
      → ((field_of map k).bit_count < (counts_of id).min) ⊎ ((counts_of id).max < (field_of map k).bit_count) → MapRecordWhen lengths map id k 6
  good_record_case : Shaped map id k → PlaceWhen lengths (field_of map k) 0
      → (counts_of id).min ≤ (field_of map k).bit_count → (field_of map k).bit_count ≤ (counts_of id).max → MapRecordWhen lengths map id k 0

-- a map: "2, then map records first to last"
-- 2: "the map's length isn't its chip's"
pub data MapWhen (lengths : List ℕ) (chip : MapChip) (map : List ℕ) : ℕ → Type 0 where
  bad_length : (length map ≡ 8 * (ids_of chip).len → ⊥) → MapWhen lengths chip map 2
  records : {n : ℕ} → length map ≡ 8 * (ids_of chip).len
      → FirstWhen (λ k. MapRecordWhen lengths map ((ids_of chip).first + k) k) (ids_of chip).len n → MapWhen lengths chip map n

-- `check_map`: 20, then the map's
pub data CheckWhen (lengths : List ℕ) (chip : MapChip) (map : List ℕ) : ℕ → Type 0 where
  check_lengths : {n : ℕ} → LengthsWhen lengths n → (n ≡ 0 → ⊥) → CheckWhen lengths chip map n
  check_map : {n : ℕ} → LengthsWhen lengths 0 → MapWhen lengths chip map n → CheckWhen lengths chip map n

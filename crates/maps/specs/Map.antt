-- Document 01, "Dumps, maps and logs": field maps, with their refusals: 2, then records first to last, by document 02, #102, with 3, 18,
-- 4, 5, 6 within each, and by #109 with 20 before them. A map is the list of its bytes.
use Rattle.std.specs.Prelude.{not, ◌||◌, List, [], ◌∷◌, ℕ, ◌+◌, ◌*◌, ◌-◌, length, get_or, ltb, eqb}
use Rattle.terms.specs.declared.chip.MapChip.{MapChip}
use Rattle.terms.specs.declared.chip.MapChip.TheVariants.{Esp32, S2, C6}
use Rattle.terms.specs.Refusal.{refuse, or_else, first_of}
use Rattle.dumps.specs.Lengths.{lengths_refusal}
use Rattle.efuse.specs.declared.field.EfuseField.{EfuseField}
use Rattle.efuse.specs.Field.{place_refusal}
use Rattle.maps.specs.declared.map.Ids.{Ids}
use Rattle.maps.specs.declared.map.BitCounts.{BitCounts}

-- "records of 8 bytes, no header": byte i of record k. What is past the map's end counts as zero
abbrev pub record_byte : List ℕ → ℕ → ℕ → ℕ
record_byte map k i = get_or map (8 * k + i) 0

-- "id, block, bit start (two bytes, low first), bit count, three zero bytes"
abbrev pub field_of : List ℕ → ℕ → EfuseField
field_of map k =
    record {
      block = record_byte map k 1;
      bit_start = record_byte map k 2 + 256 * record_byte map k 3;
      bit_count = record_byte map k 4;
    }

-- "three zero bytes": the place of the first that isn't zero, or 0
abbrev pub stray_of : List ℕ → ℕ → ℕ
stray_of map k =
    refuse (not (eqb (record_byte map k 5) 0)) 5
    (refuse (not (eqb (record_byte map k 6) 0)) 6
    (refuse (not (eqb (record_byte map k 7) 0)) 7 0))

-- "A map has exactly its chip's ids, rising": the first, and how many there are
abbrev pub ids_of : MapChip → Ids
ids_of Esp32 = record { first = 1; len = 6 }
ids_of S2 = record { first = 7; len = 2 }
ids_of C6 = record { first = 9; len = 15 }

-- the table's column "Bit count", "5" or "1 to 8"
abbrev pub exactly : ℕ → BitCounts
exactly n = record { min = n; max = n }

abbrev pub from_to : ℕ → ℕ → BitCounts
from_to least most = record { min = least; max = most }

-- that column by id: 1 to 6; 7, 8; 9 to 12; 13 to 16; 17 to 23
abbrev pub bit_counts : List BitCounts
bit_counts =
    exactly 5 ∷ exactly 1 ∷ exactly 7 ∷ exactly 7 ∷ exactly 9 ∷ exactly 9
    ∷ from_to 1 8 ∷ from_to 1 8
    ∷ from_to 1 15 ∷ from_to 1 15 ∷ from_to 1 15 ∷ from_to 1 15
    ∷ exactly 10 ∷ exactly 10 ∷ exactly 10 ∷ exactly 10
    ∷ exactly 4 ∷ exactly 4 ∷ exactly 4 ∷ exactly 4 ∷ exactly 4 ∷ exactly 4 ∷ exactly 4
    ∷ []

abbrev pub counts_of : ℕ → BitCounts
counts_of id = get_or bit_counts (id - 1) (exactly 0)

-- 6: bit count not as in the table
unfoldable pub count_refusal : ℕ → ℕ → ℕ
count_refusal id count = refuse (ltb count (counts_of id).min || ltb (counts_of id).max count) 6 0

-- of record k, which should have that id
-- 3: "wrong id alone"
-- 18: a "nonzero byte" among the last three
-- then 4, 5 for its field's place, then 6
unfoldable pub map_record_refusal : List ℕ → List ℕ → ℕ → ℕ → ℕ
map_record_refusal lengths map id k =
    refuse (not (eqb (record_byte map k 0) id)) 3
    (refuse (not (eqb (stray_of map k) 0)) 18
    (or_else (place_refusal lengths (field_of map k))
    (count_refusal id (field_of map k).bit_count)))

-- of record k, where ids rise from a first one on
abbrev pub map_record_refusals : List ℕ → List ℕ → ℕ → ℕ → ℕ
map_record_refusals lengths map first k = map_record_refusal lengths map (first + k) k

-- 2: the map's length isn't its chip's
unfoldable pub map_refusal : List ℕ → MapChip → List ℕ → ℕ
map_refusal lengths chip map =
    refuse (not (eqb (length map) (8 * (ids_of chip).len))) 2
    (first_of (map_record_refusals lengths map (ids_of chip).first) 0 (ids_of chip).len)

-- `check_map` checks the list too, which no dump comes with here
-- 20 for the list
-- then those of the map
unfoldable pub check_refusal : List ℕ → MapChip → List ℕ → ℕ
check_refusal lengths chip map = or_else (lengths_refusal lengths) (map_refusal lengths chip map)

-- Document 01, "Numbers given when a call is turned down", and document 02, #109: when field reading gives each number.
-- A case says too that nothing before it in the call's order is given; 0 is given where the call isn't turned down.
use Rattle.std.specs.Prelude.{◌≡◌, ◌⊎◌, List, ℕ, ◌+◌, ◌*◌, ◌≤◌, ◌<◌}
use Rattle.efuse.specs.declared.field.EfuseField.{EfuseField}
use Rattle.dumps.specs.Lengths.{words_of}
use Rattle.dumps.specs.When.{DumpWhen}

-- a field inside its block's own length
pub record Inside (lengths : List ℕ) (f : EfuseField) : Type 0 where
  pub block : f.block ≤ 10
  pub start : f.bit_start ≤ 255
  pub end : f.bit_start + f.bit_count ≤ 32 * words_of lengths f.block

-- a field's place
-- 4: "block above 10"
-- 5: "bit start above 255, or start + count" "past the block's own length", which is 32 bits a word
pub data PlaceWhen (lengths : List ℕ) (f : EfuseField) : ℕ → Type 0 where
  bad_block : 10 < f.block → PlaceWhen lengths f 4
  bad_bits : f.block ≤ 10 → (255 < f.bit_start) ⊎ (32 * words_of lengths f.block < f.bit_start + f.bit_count) → PlaceWhen lengths f 5
  good_place : Inside lengths f → PlaceWhen lengths f 0

-- "Field reading alone: 1, 4, 5", and 20 after 1
pub data ReadWhen (lengths dump : List ℕ) (f : EfuseField) : ℕ → Type 0 where
  read_dump : {n : ℕ} → DumpWhen lengths dump n → (n ≡ 0 → ⊥) → ReadWhen lengths dump f n
  read_place : {n : ℕ} → DumpWhen lengths dump 0 → PlaceWhen lengths f n → ReadWhen lengths dump f n

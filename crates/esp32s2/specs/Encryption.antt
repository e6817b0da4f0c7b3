-- Document 01, "S2, C6 and curves": the S2's flash encryption. In esp-hal: `flash_encryption` of efuse/esp32s2/mod.rs. Its refusals:
-- 1, those of the map, by document 02, #109, with 20 after 1.
use Rattle.std.specs.Prelude.{Result, Bool, List, ℕ, zero, suc, ◌+◌, ◌/◌, ◌%◌, eqb}
use Rattle.terms.specs.declared.chip.MapChip.TheVariants.{S2}
use Rattle.terms.specs.declared.refusal.Refusal.{Refusal}
use Rattle.terms.specs.Refusal.{told}
use Rattle.inputs.specs.Input.{fields_refusal}
use Rattle.maps.specs.Told.{told_of}
use Rattle.maps.specs.Value.{value_by_id}

-- how many of a number's low n bits are ones
unfoldable pub ones_of : ℕ → ℕ → ℕ
ones_of zero number = 0
ones_of (suc n) number = number % 2 + ones_of n (number / 2)

-- "the crypt count has an odd number of ones", among its eight bits at most
unfoldable pub odd_ones : ℕ → Bool
odd_ones count = eqb (ones_of 8 count % 2) 1

-- by the bits of SPI_BOOT_CRYPT_CNT, id 8
unfoldable pub flash_encryption_of : List ℕ → List ℕ → List ℕ → Result Bool Refusal
flash_encryption_of lengths dump map =
    told (told_of lengths S2 map (fields_refusal lengths S2 dump map)) (odd_ones (value_by_id S2 dump map 8))

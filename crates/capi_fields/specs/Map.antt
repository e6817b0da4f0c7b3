-- Field maps, as C is given them.
use Rattle.std.specs.Prelude.{cond, List, ℕ, eqb}
use Rattle.terms.specs.declared.chip.MapChip.{MapChip}
use Rattle.terms.specs.declared.chip.MapChip.TheVariants.{Esp32, S2, C6}
use Rattle.terms.specs.declared.refusal.Refusal.{Refusal}
use Rattle.terms.specs.Refusal.{or_else, plain, outcome_told}
use Rattle.dumps.specs.Lengths.{lengths_refusal}
use Rattle.maps.specs.Map.{check_refusal}
use Rattle.maps.specs.Told.{told_of}
use Rattle.capi.specs.declared.answer.SkvOutcome.{SkvOutcome}
use Rattle.capi.specs.Answer.{outcome_c}

-- what the check of a map tells
abbrev pub check_of : List ℕ → MapChip → List ℕ → Refusal
check_of lengths chip map = told_of lengths chip map (check_refusal lengths chip map)

-- 20 for the list
-- 2: the map's length isn't its chip's, which holds of any map where the chip has none
unfoldable pub no_map : List ℕ → ℕ
no_map lengths = or_else (lengths_refusal lengths) 2

-- the check for a chip's number, in the order of terms' `Chip`
unfoldable pub chip_check : List ℕ → ℕ → List ℕ → Refusal
chip_check lengths chip map =
    cond (eqb chip 0) (check_of lengths Esp32 map)
    (cond (eqb chip 1) (check_of lengths S2 map)
    (cond (eqb chip 4) (check_of lengths C6 map) (plain (no_map lengths))))

abbrev pub map_c : List ℕ → ℕ → List ℕ → SkvOutcome
map_c lengths chip map = outcome_c (outcome_told (chip_check lengths chip map))

-- The refusal of each answer is document 01's, with what document 02, #102, has it tell. Assumes nothing.
use mathlib.Core.Path.{◌≡◌}
use mathlib.Core.List.{List}
use Prim.Native.Nat.{ℕ}
use Rattle.terms.specs.declared.chip.MapChip.{MapChip}
use Rattle.terms.specs.Refusal.{outcome_told, refusal_of}
use Rattle.terms.proofs.Says.{outcome_told_lem}
use Rattle.maps.specs.Map.{check_refusal}
use Rattle.maps.specs.Told.{told_of}
use Rattle.maps.proofs.Told.{told_none}

module _ (lengths : List ℕ) (chip : MapChip) (map : List ℕ) where
  -- `check_map`, which has no values
  pub check_map_says : refusal_of (outcome_told (told_of lengths chip map (check_refusal lengths chip map))) ≡ told_of lengths chip map (check_refusal lengths chip map)
  check_map_says = outcome_told_lem _ (told_none lengths map chip _)

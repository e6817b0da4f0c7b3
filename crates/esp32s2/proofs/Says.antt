-- The refusal and the value of each answer are document 01's. Assumes nothing.
use mathlib.Core.Bool.{false}
use mathlib.Core.List.{List}
use Prim.Native.Nat.{ℕ}
use Rattle.terms.specs.declared.chip.MapChip.TheVariants.{S2}
use Rattle.terms.specs.Says.{Says}
use Rattle.inputs.specs.Input.{fields_refusal}
use Rattle.maps.specs.Told.{told_of}
use Rattle.maps.specs.Value.{value_by_id}
use Rattle.maps.proofs.Told.{map_says}
use Rattle.esp32s2.specs.Encryption.{odd_ones, flash_encryption_of}
use Rattle.esp32s2.specs.Version.{version_of, calib_version_of}

module _ (lengths dump map : List ℕ) where
  -- `rtc_calib_version`
  pub version_says : Says 0
      (calib_version_of lengths dump map) (told_of lengths S2 map (fields_refusal lengths S2 dump map)) (version_of dump map)
  unfolding calib_version_of
  version_says = map_says lengths map S2 0 _ _

  -- `flash_encryption`
  pub encryption_says : Says false
      (flash_encryption_of lengths dump map) (told_of lengths S2 map (fields_refusal lengths S2 dump map)) (odd_ones (value_by_id S2 dump map 8))
  unfolding flash_encryption_of
  encryption_says = map_says lengths map S2 false _ _

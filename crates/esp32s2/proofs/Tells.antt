-- What the version and flash encryption tell with their refusals: what the input's check tells. Assumes nothing.
use mathlib.Core.List.{List}
use Prim.Native.Nat.{ℕ}
use Rattle.terms.specs.declared.chip.MapChip.TheVariants.{S2}
use Rattle.terms.specs.Exactly.{Exactly}
use Rattle.terms.specs.Refusal.{refusal_of}
use Rattle.maps.specs.Tells.{ToldWhen}
use Rattle.inputs.specs.When.{FieldsWhen}
use Rattle.inputs.proofs.Tells.{fields_told}
use Rattle.esp32s2.specs.Encryption.{flash_encryption_of}
use Rattle.esp32s2.specs.Version.{calib_version_of}
use Rattle.esp32s2.proofs.Says.{version_says, encryption_says}

module _ (lengths dump map : List ℕ) where
  -- `rtc_calib_version`
  pub version_told : Exactly (refusal_of (calib_version_of lengths dump map)) (ToldWhen lengths S2 map (FieldsWhen lengths S2 dump map))
  version_told = rw (version_says lengths dump map).refusal_is (fields_told lengths S2 dump map)

  -- `flash_encryption`
  pub encryption_told : Exactly (refusal_of (flash_encryption_of lengths dump map)) (ToldWhen lengths S2 map (FieldsWhen lengths S2 dump map))
  encryption_told = rw (encryption_says lengths dump map).refusal_is (fields_told lengths S2 dump map)

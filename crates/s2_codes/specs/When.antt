-- Document 01, "Numbers given when a call is turned down", and document 02, #109: when the S2's codes give each refusal. The version and flash
-- encryption have inputs' `FieldsWhen`; the reference voltage has terms' `UnitWhen`.
-- A case says too that nothing before it is given; 0 is given where the call isn't turned down.
use Rattle.std.specs.Prelude.{◌≡◌, List, ℕ}
use Rattle.terms.specs.declared.chip.MapChip.TheVariants.{S2}
use Rattle.terms.specs.declared.refusal.Refusal.{Refusal}
use Rattle.terms.specs.Refusal.{plain}
use Rattle.maps.specs.Tells.{ToldWhen}
use Rattle.inputs.specs.When.{DecodingWhen}
use Rattle.esp32s2.specs.Version.{version_of}
use Rattle.s2_readings.specs.declared.tag.RtcCalibParam.{RtcCalibParam}
use Rattle.s2_readings.specs.Tag.{tag_of}
use Rattle.s2_readings.specs.When.{ChainWhen}

-- before the table is read: 1, 20, 7 and those of the map, then 12
-- 12: "S2 version not 2"
pub data VersionWhen (lengths dump map : List ℕ) (unit atten : ℕ) : ℕ → Type 0 where
  before : {n : ℕ} → DecodingWhen lengths S2 dump map unit atten n → (n ≡ 0 → ⊥) → VersionWhen lengths dump map unit atten n
  bad_version : DecodingWhen lengths S2 dump map unit atten 0 → (version_of dump map ≡ 2 → ⊥) → VersionWhen lengths dump map unit atten 12
  good_version : DecodingWhen lengths S2 dump map unit atten 0 → version_of dump map ≡ 2 → VersionWhen lengths dump map unit atten 0

-- a code: those, with what the map's tell; then 5 of the table's fields, which tells 0 and 0
pub data CodeWhen (lengths dump map : List ℕ) (unit atten : ℕ) (param : RtcCalibParam) : Refusal → Type 0 where
  before_table : {why : Refusal} → ToldWhen lengths S2 map (VersionWhen lengths dump map unit atten) why → (why.number ≡ 0 → ⊥)
      → CodeWhen lengths dump map unit atten param why
  of_table : {n : ℕ} → VersionWhen lengths dump map unit atten 0 → ChainWhen lengths (tag_of 2 unit atten param) n
      → CodeWhen lengths dump map unit atten param (plain n)

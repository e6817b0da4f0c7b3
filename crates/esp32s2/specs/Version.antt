-- Document 01, "S2, C6 and curves": the version of the S2's calibration. In esp-hal: `rtc_calib_version` of efuse/esp32s2/mod.rs, from
-- ESP-IDF's components/efuse/esp32s2/esp_efuse_rtc_table.c, line 92. Its refusals: 1, those of the map,
-- by document 02, #109, with 20 after 1.
use Rattle.std.specs.Prelude.{Result, List, ℕ}
use Rattle.terms.specs.declared.chip.MapChip.TheVariants.{S2}
use Rattle.terms.specs.declared.refusal.Refusal.{Refusal}
use Rattle.terms.specs.Refusal.{told}
use Rattle.inputs.specs.Input.{fields_refusal}
use Rattle.maps.specs.Told.{told_of}
use Rattle.maps.specs.Value.{value_by_id}

-- the bits of BLK_VERSION_MINOR, id 7
abbrev pub version_of : List ℕ → List ℕ → ℕ
version_of dump map = value_by_id S2 dump map 7

unfoldable pub calib_version_of : List ℕ → List ℕ → List ℕ → Result ℕ Refusal
calib_version_of lengths dump map =
    told (told_of lengths S2 map (fields_refusal lengths S2 dump map)) (version_of dump map)

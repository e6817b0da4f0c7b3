-- Document 01, "S2, C6 and curves": the S2's initial and reference codes. In esp-hal: `rtc_calib_init_code` and `rtc_calib_cal_code`
-- of efuse/esp32s2/mod.rs. Their refusals: 1, 7, those of the map, 12, by document 02, #109, with 20 after 1, and 5 after 12.
use Rattle.std.specs.Prelude.{Result, false, not, List, ℕ, eqb, nat_abs}
use Rattle.terms.specs.declared.chip.MapChip.TheVariants.{S2}
use Rattle.terms.specs.declared.refusal.Refusal.{Refusal}
use Rattle.terms.specs.Refusal.{refuse, or_else, plain, or_told, told}
use Rattle.maps.specs.Told.{told_of}
use Rattle.inputs.specs.Input.{decoding_refusal}
use Rattle.s2_readings.specs.declared.tag.RtcCalibParam.{RtcCalibParam}
use Rattle.s2_readings.specs.declared.tag.RtcCalibParam.TheVariants.{Vhigh, Vinit}
use Rattle.s2_readings.specs.Chain.{chain_refusal}
use Rattle.s2_readings.specs.Reading.{reading_of}
use Rattle.s2_readings.specs.Tag.{tag_of}
use Rattle.esp32s2.specs.Version.{version_of}

-- 1, 20, 7 and those of the map
-- 12: S2 version not 2
unfoldable pub version_refusal : List ℕ → List ℕ → List ℕ → ℕ → ℕ → ℕ
version_refusal lengths dump map unit atten =
    or_else (decoding_refusal lengths S2 dump map unit atten)
    (refuse (not (eqb (version_of dump map) 2)) 12 0)

-- those, with what the map's tell
-- then 5, "if any field it reads lies outside", which is of no record of the map
unfoldable pub code_told : List ℕ → List ℕ → List ℕ → ℕ → ℕ → RtcCalibParam → Refusal
code_told lengths dump map unit atten param =
    or_told (told_of lengths S2 map (version_refusal lengths dump map unit atten))
    (plain (chain_refusal lengths (tag_of 2 unit atten param)))

-- version 2's reading of a parameter, which is never negative (`init_code_range`, `cal_code_range`)
unfoldable pub code_of : List ℕ → List ℕ → List ℕ → ℕ → ℕ → RtcCalibParam → Result ℕ Refusal
code_of lengths dump map unit atten param =
    told (code_told lengths dump map unit atten param)
    (nat_abs (reading_of dump false (tag_of 2 unit atten param)))

abbrev pub init_code_of : List ℕ → List ℕ → List ℕ → ℕ → ℕ → Result ℕ Refusal
init_code_of lengths dump map unit atten = code_of lengths dump map unit atten Vinit

abbrev pub cal_code_of : List ℕ → List ℕ → List ℕ → ℕ → ℕ → Result ℕ Refusal
cal_code_of lengths dump map unit atten = code_of lengths dump map unit atten Vhigh

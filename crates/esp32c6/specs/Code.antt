-- Document 01, "S2, C6 and curves": the C6's initial and reference codes, "as in the crate": `rtc_calib_init_code` and
-- `rtc_calib_cal_code` of efuse/esp32c6/mod.rs, from ESP-IDF's components/efuse/esp32c6/esp_efuse_rtc_calib.c, lines 35 and 98.
-- Their refusals: 1, 7, those of the map, 12, by document 02, #109, with 20 after 1.
use Rattle.std.specs.Prelude.{Result, not, cond, ◌||◌, List, ℕ, ◌+◌, eqb, ℤ, pos, nat_abs, ◌+ℤ◌}
use Rattle.terms.specs.declared.chip.MapChip.TheVariants.{C6}
use Rattle.terms.specs.Refusal.{refuse, or_else, told}
use Rattle.terms.specs.Sign.{sign_magnitude}
use Rattle.inputs.specs.Input.{decoding_refusal}
use Rattle.maps.specs.Told.{told_of}
use Rattle.maps.specs.Value.{value_by_id}
use Rattle.terms.specs.declared.refusal.Refusal.{Refusal}
use Rattle.terms.specs.C6Version.{version_of}

-- 12: C6 version not 1 or 2
unfoldable pub version_refusal : ℕ → ℕ
version_refusal minor = refuse (not (eqb (version_of minor) 1 || eqb (version_of minor) 2)) 12 0

-- 1, 20, 7 and those of the map, then 12
unfoldable pub code_refusal : List ℕ → List ℕ → List ℕ → ℕ → ℕ → ℕ → ℕ
code_refusal lengths dump map minor unit atten =
    or_else (decoding_refusal lengths C6 dump map unit atten)
    (version_refusal minor)

-- the bits of ADC1_INIT_CODE_ATTEN0..3, ids 9 to 12, and 1600
unfoldable pub init_code_of : List ℕ → List ℕ → List ℕ → ℕ → ℕ → ℕ → Result ℕ Refusal
init_code_of lengths dump map minor unit atten =
    told (told_of lengths C6 map (code_refusal lengths dump map minor unit atten)) (value_by_id C6 dump map (9 + atten) + 1600)

-- 1500 in version 1; in version 2 it is 2900 at attenuation 2, which is 6 dB, and 2850 at the others
unfoldable pub offset_of : ℕ → ℕ → ℕ
offset_of version atten = cond (eqb version 1) 1500 (cond (eqb atten 2) 2900 2850)

-- that offset and ten bits in sign and magnitude
unfoldable pub cal_code : ℕ → ℕ → ℕ → ℤ
cal_code version atten bits = pos (offset_of version atten) +ℤ sign_magnitude 10 bits

-- by the bits of ADC1_CAL_VOL_ATTEN0..3, ids 13 to 16; the code is never negative (`cal_code_whole`)
unfoldable pub cal_code_of : List ℕ → List ℕ → List ℕ → ℕ → ℕ → ℕ → Result ℕ Refusal
cal_code_of lengths dump map minor unit atten =
    told (told_of lengths C6 map (code_refusal lengths dump map minor unit atten))
    (nat_abs (cal_code (version_of minor) atten (value_by_id C6 dump map (13 + atten))))

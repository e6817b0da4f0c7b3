-- Document 01, "S2, C6 and curves": the C6's reference voltages, "as in the crate": `rtc_calib_cal_mv` of efuse/esp32c6/mod.rs, from
-- ESP-IDF's components/efuse/esp32c6/esp_efuse_rtc_calib.c, line 98. Its refusal: 7.
use Rattle.std.specs.Prelude.{cond, [], ◌∷◌, ℕ, get_or, eqb, Result}
use Rattle.terms.specs.declared.quantity.Millivolt.{Millivolt}
use Rattle.terms.specs.declared.refusal.Refusal.{Refusal}
use Rattle.terms.specs.Refusal.{unit_refusal, answered}
use Rattle.terms.specs.C6Version.{version_of}

-- by attenuation, in version 2 and in any other
unfoldable pub millivolts_of : ℕ → ℕ → ℕ
millivolts_of version atten =
    get_or (cond (eqb version 2) (750 ∷ 1000 ∷ 1500 ∷ 2800 ∷ []) (400 ∷ 550 ∷ 750 ∷ 1370 ∷ [])) atten 0

unfoldable pub cal_mv_of : ℕ → ℕ → ℕ → Result Millivolt Refusal
cal_mv_of minor unit atten = answered (unit_refusal unit atten) (record { 0 = millivolts_of (version_of minor) atten })

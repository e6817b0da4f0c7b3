-- Document 01, "S2, C6 and curves": the S2's reference voltages. In esp-hal: `rtc_calib_cal_mv` of efuse/esp32s2/mod.rs. Its refusal: 7.
use Rattle.std.specs.Prelude.{[], ◌∷◌, ℕ, get_or, Result}
use Rattle.terms.specs.declared.quantity.Millivolt.{Millivolt}
use Rattle.terms.specs.declared.refusal.Refusal.{Refusal}
use Rattle.terms.specs.Refusal.{unit_refusal, answered}

-- "600, 800, 1000 and 2000 mV by attenuation, for either unit"
abbrev pub millivolts_of : ℕ → ℕ
millivolts_of atten = get_or (600 ∷ 800 ∷ 1000 ∷ 2000 ∷ []) atten 0

unfoldable pub cal_mv_of : ℕ → ℕ → Result Millivolt Refusal
cal_mv_of unit atten = answered (unit_refusal unit atten) (record { 0 = millivolts_of atten })

-- Document 01, "S2, C6 and curves": the tags of the S2's table. In esp-hal: `rtc_calib_tag` of efuse/esp32s2/mod.rs.
use Rattle.std.specs.Prelude.{cond, ℕ, ◌+◌, ◌*◌, eqb}
use Rattle.s2_readings.specs.declared.tag.RtcCalibParam.{RtcCalibParam}
use Rattle.s2_readings.specs.declared.tag.RtcCalibParam.TheVariants.{Vlow, Vhigh, Vinit}

-- "unit × 4 + attenuation after 1, 9, 17 or 25 (v1 low, v1 high, v2 high, v2 init)": the first tag of a version and a parameter, or 0
unfoldable pub by_version : ℕ → ℕ → ℕ → ℕ
by_version version one two = cond (eqb version 1) one (cond (eqb version 2) two 0)

abbrev pub first_tag : ℕ → RtcCalibParam → ℕ
first_tag version Vlow = by_version version 1 0
first_tag version Vhigh = by_version version 9 17
first_tag version Vinit = by_version version 0 25

-- "A version and parameter that don't pair give 0", as tag 0 does
unfoldable pub tag_of : ℕ → ℕ → ℕ → RtcCalibParam → ℕ
tag_of version unit atten param =
    cond (eqb (first_tag version param) 0) 0 (first_tag version param + unit * 4 + atten)

-- Document 01, "S2, C6 and curves": the version of the C6's calibration. In esp-hal: `rtc_calib_version` of efuse/esp32c6/mod.rs,
-- from ESP-IDF's components/efuse/esp32c6/esp_efuse_rtc_calib.c, line 20.
use Rattle.std.specs.Prelude.{cond, ℕ, leb, eqb}

-- "version 1 for minor 1, 2 for 2 or more, else 0"
unfoldable pub version_of : ℕ → ℕ
version_of minor = cond (eqb minor 1) 1 (cond (leb 2 minor) 2 0)

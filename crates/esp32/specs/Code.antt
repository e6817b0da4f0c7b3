-- Document 01, "ESP32 line rules": the signed codes and what they stand for. In esp-hal: `decode_bits`, `read_efuse_vref`,
-- `read_efuse_tp_low` and `read_efuse_tp_high` of calibration/line/esp32.rs, which cites ESP-IDF's
-- components/esp_adc/esp32/adc_cali_line_fitting.c, line 155.
use Rattle.std.specs.Prelude.{ℕ, ◌-◌, ◌%◌, ◌^◌, cond, ℤ, pos, ◌+ℤ◌, ◌*ℤ◌, neg_ℤ, nat_lt, unsigned_abs}
use Rattle.terms.specs.Sign.{sign_magnitude}
use Rattle.terms.specs.Unit.{by_unit}

-- base + step × code. For a code that a field can have it is never negative, so that `nat_abs` loses no sign
abbrev pub stepped : ℕ → ℕ → ℤ → ℕ
stepped base step code = unsigned_abs (pos base +ℤ pos step *ℤ code)

-- "Vref: five bits, sign and magnitude, 1100 + 7 × code, so 995 to 1205"
unfoldable pub vref_of : ℕ → ℕ
vref_of bits = stepped 1100 7 (sign_magnitude 5 bits)

-- "0 − bits, wrapping", on 32 bits
abbrev pub wrapped : ℕ → ℕ
wrapped bits = (2 ^ 32 - bits) % 2 ^ 32

-- "two's complement in all but one pattern: with the sign bit set the value is minus ((0 − bits, wrapping) mod 64, or mod 256)".
-- 64 and 256 are what the sign bit of 7 and of 9 bits is worth
unfoldable pub two_point_code : ℕ → ℕ → ℤ
two_point_code width bits =
    cond (nat_lt bits (2 ^ (width - 1))) (pos bits) (neg_ℤ (pos (wrapped bits % 2 ^ (width - 1))))

-- a base "+ 4 × code"
unfoldable pub point_of : ℕ → ℕ → ℕ → ℕ
point_of base width bits = stepped base 4 (two_point_code width bits)

-- "low = 278 or 421 + 4 × code"
unfoldable pub low_of : ℕ → ℕ → ℕ
low_of unit bits = point_of (by_unit unit 278 421) 7 bits

-- "high = 3265 or 3406 + 4 × code"
unfoldable pub high_of : ℕ → ℕ → ℕ
high_of unit bits = point_of (by_unit unit 3265 3406) 9 bits

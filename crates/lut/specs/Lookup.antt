-- Document 01, "ESP32 line rules": "Lookup and its final division by 12800 with 6400 added .. as in `calculate_voltage_lut`".
-- In esp-hal: that function of calibration/line/esp32.rs; its source is ESP-IDF's components/esp_adc/esp32/adc_cali_line_fitting.c,
-- from line 155 on.
use Rattle.std.specs.Prelude.{ℕ, ◌+◌, ◌*◌, ◌-◌, ◌/◌, min, ℤ, pos, nat_abs, ◌+ℤ◌, ◌-ℤ◌, ◌*ℤ◌}
use Rattle.std.specs.Int.Signed.{quot_z}
use Rattle.lut.specs.Row.{low_at, high_at}

-- the lookup's numerator for a unit, a Vref and a count, before 6400 is added: esp-hal's sum, with its names, signs and order
unfoldable pub numerator_at : ℕ → ℕ → ℕ → ℤ
numerator_at unit vref raw =
    let i : ℕ = min ((raw - 2880) / 64) 18 in
    let x2dist : ℤ = pos 1200 -ℤ pos vref in
    let x1dist : ℤ = pos vref -ℤ pos 1000 in
    let y2dist : ℤ = pos ((i + 1) * 64 + 2880) -ℤ pos raw in
    let y1dist : ℤ = pos raw -ℤ pos (i * 64 + 2880) in
    let q11 : ℤ = pos (low_at unit i) in
    let q12 : ℤ = pos (low_at unit (i + 1)) in
    let q21 : ℤ = pos (high_at unit i) in
    let q22 : ℤ = pos (high_at unit (i + 1)) in
    q11 *ℤ x2dist *ℤ y2dist +ℤ q21 *ℤ x1dist *ℤ y2dist +ℤ q12 *ℤ x2dist *ℤ y1dist +ℤ q22 *ℤ x1dist *ℤ y1dist

-- with 6400 added: 12800 times the millivolts, rounding included. It is never negative (proofs/Sums), so that `nat_abs` is the number
-- itself
unfoldable pub sum_at : ℕ → ℕ → ℕ → ℕ
sum_at unit vref raw = nat_abs (numerator_at unit vref raw +ℤ pos 6400)

-- the lookup's millivolts. The division cuts toward zero
unfoldable pub voltage_at : ℕ → ℕ → ℕ → ℕ
voltage_at unit vref raw = nat_abs (quot_z (numerator_at unit vref raw +ℤ pos 6400) (pos 12800))

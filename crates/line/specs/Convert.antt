-- Document 01, "ESP32 line rules": line, blend and lookup; what a record gives at a count, with the refusals of "Converting: 10, then 8".
-- In esp-hal: `calculate_voltage_linear`, `interpolate_two_points` and `adc_val` of calibration/line/esp32.rs, whose source is
-- ESP-IDF's components/esp_adc/esp32/adc_cali_line_fitting.c, from line 155 on.
use Rattle.std.specs.Prelude.{Bool, cond, ◌&&◌, ℕ, ◌+◌, ◌*◌, ◌-◌, ◌/◌, leb, Result}
use Rattle.terms.specs.declared.quantity.Millivolt.{Millivolt}
use Rattle.terms.specs.declared.refusal.Refusal.{Refusal}
use Rattle.terms.specs.Refusal.{or_else, answered, raw_refusal}
use Rattle.line_record.specs.declared.record.LineRecord.{LineRecord}
use Rattle.line_record.specs.Record.{uses_lookup, record_refusal}
use Rattle.line.specs.Lookup.{lookup_voltage}

-- the line's numerator at a count, before 32768 is added
abbrev pub line_numerator : LineRecord → ℕ → ℕ
line_numerator r raw = r.coeff_a * raw

-- "Line: (a × raw + 32768) / 65536 + b"
unfoldable pub line_voltage : LineRecord → ℕ → ℕ
line_voltage r raw = (line_numerator r raw + 32768) / 65536 + r.coeff_b

-- "the blend over 64 counts, as in .. `interpolate_two_points`": from y1 to y2, with x of the 64 gone
unfoldable pub blend_of : ℕ → ℕ → ℕ → ℕ
blend_of y1 y2 x = (y1 * 64 + y2 * x - y1 * x + 32) / 64

-- the same by the counts that are left and those that are gone
unfoldable pub mean_of : ℕ → ℕ → ℕ → ℕ → ℕ
mean_of y1 y2 left gone = (y1 * left + y2 * gone + 32) / 64

-- "Attenuation 3: line below 2880 .. Others: line": whether a count is past those that the line alone answers
unfoldable pub beyond_line : LineRecord → ℕ → Bool
beyond_line r raw = uses_lookup r && leb 2880 raw

-- "line below 2880, blend 2880 to 2944, lookup above"
unfoldable pub answer_at : LineRecord → ℕ → ℕ
answer_at r raw =
    cond (beyond_line r raw)
    (cond (leb raw 2944) (blend_of (line_voltage r raw) (lookup_voltage r raw) (raw - 2880)) (lookup_voltage r raw))
    (line_voltage r raw)

-- 10: line record outside its ranges
-- 8: raw above 4095
unfoldable pub convert_refusal : LineRecord → ℕ → ℕ
convert_refusal r raw =
    or_else (record_refusal r)
    (raw_refusal raw)

-- converting a count: its millivolts, or its refusal
unfoldable pub convert_of : LineRecord → ℕ → Result Millivolt Refusal
convert_of r raw = answered (convert_refusal r raw) (record { 0 = answer_at r raw })

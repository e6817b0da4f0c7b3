-- Document 01, "ESP32 line rules": the lookup of a record, by its unit and its Vref; the formula itself is `lut`'s.
use Rattle.std.specs.Prelude.{Bool, cond, ◌&&◌, ℕ, ◌+◌, ◌-◌, leb}
use Rattle.lut.specs.Lookup.{sum_at, voltage_at}
use Rattle.line_record.specs.declared.record.LineRecord.{LineRecord}
use Rattle.line.specs.declared.lookup.Slope.{Slope}
use Rattle.line_record.specs.Record.{converter_in_ranges}

-- its sum at a count: 12800 times its millivolts, rounding included
abbrev pub lookup_sum : LineRecord → ℕ → ℕ
lookup_sum r raw = sum_at r.unit r.vref raw

-- its millivolts
abbrev pub lookup_voltage : LineRecord → ℕ → ℕ
lookup_voltage r raw = voltage_at r.unit r.vref raw

-- the counts of the lookup, by a record whose Vref, unit and attenuation are inside their ranges
unfoldable pub has_lookup : LineRecord → ℕ → Bool
has_lookup r raw = converter_in_ranges r && leb 2880 raw && leb raw 4095

-- the sum at a count, and what the next count adds to it; zeros where the lookup has no such count
abbrev pub slope_from : LineRecord → ℕ → Slope
slope_from r raw = record { sum = lookup_sum r raw; rise = lookup_sum r (raw + 1) - lookup_sum r raw }

unfoldable pub lut_slope : LineRecord → ℕ → Slope
lut_slope r raw = cond (has_lookup r raw) (slope_from r raw) (record { sum = 0; rise = 0 })

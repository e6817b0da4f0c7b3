-- What private functions promise of slopes and of the fill's segments. No public promise cites it.
use Rattle.std.specs.Prelude.{cond, not, ℕ, ◌+◌, ◌*◌, ◌-◌, ◌%◌, ◌≤◌, ◌<◌, ltb}
use Rattle.line_record.specs.declared.record.LineRecord.{LineRecord}
use Rattle.line.specs.declared.lookup.Slope.{Slope}
use Rattle.line_record.specs.Record.{uses_lookup}

-- a sum k counts further on its slope
abbrev pub along : Slope → ℕ → ℕ
along s k = s.sum + s.rise * k

-- the slope of the line's numerator with 32768 and b × 65536 added, so that b is in its quotient
abbrev pub line_slope : LineRecord → ℕ → Slope
line_slope r raw = record { sum = r.coeff_a * raw + 32768 + 65536 * r.coeff_b; rise = r.coeff_a }

-- n counts from a first one on, at most up to the next point
pub record InStep (first n : ℕ) : Type 0 where
  pub from : 2880 ≤ first
  pub upto : first ≤ 4095
  pub room : first % 64 + n ≤ 64

-- two slopes whose blend stays in its 64 counts, and whose quotients fit 16 bits
pub record Blended (line lut : Slope) (x n : ℕ) : Type 0 where
  pub counts : x + n ≤ 64
  pub line_fits : along line n < 65536 * 65536
  pub lut_fits : along lut n < 65536 * 12800

-- how many counts from a given one on are in one segment: the line's, to 2880 where the record uses the lookup; above, up to the next
-- point, at a multiple of 64
unfoldable pub segment_left : LineRecord → ℕ → ℕ
segment_left r count =
    cond (not (uses_lookup r)) (4096 - count)
    (cond (ltb count 2880) (2880 - count) (64 - count % 64))

-- Document 01, "Numbers given when a call is turned down": when filling gives each number.
-- A case says too that nothing before it in the call's order is given; 0 is given where the call isn't turned down.
use Rattle.std.specs.Prelude.{ℕ, ◌+◌, ◌≤◌, ◌<◌}
use Rattle.line_record.specs.declared.record.LineRecord.{LineRecord}
use Rattle.line_record.specs.When.{RecordWhen}

-- "Filling: 10, then 11"
-- 11: "a stretch whose first count plus length is above 4096"
pub data FillWhen (r : LineRecord) (first n : ℕ) : ℕ → Type 0 where
  fill_record : RecordWhen r 10 → FillWhen r first n 10
  bad_stretch : RecordWhen r 0 → 4096 < first + n → FillWhen r first n 11
  good_stretch : RecordWhen r 0 → first + n ≤ 4096 → FillWhen r first n 0

-- Document 01, "Numbers given when a call is turned down": when converting gives each number.
-- A case says too that nothing before it in the call's order is given; 0 is given where the call isn't turned down.
use Rattle.std.specs.Prelude.{ℕ}
use Rattle.terms.specs.When.{RawWhen}
use Rattle.line_record.specs.declared.record.LineRecord.{LineRecord}
use Rattle.line_record.specs.When.{RecordWhen}

-- "Converting: 10, then 8"
pub data ConvertWhen (r : LineRecord) (raw : ℕ) : ℕ → Type 0 where
  convert_record : RecordWhen r 10 → ConvertWhen r raw 10
  convert_raw : {n : ℕ} → RecordWhen r 0 → RawWhen raw n → ConvertWhen r raw n

-- Document 01: "decoding answers a record or one number"; document 02, #102: a refusal of a map's record also tells which one.
use Rattle.std.specs.Prelude.{Result, Ok, Err}
use Rattle.terms.specs.declared.refusal.Refusal.{Refusal}
use Rattle.terms.specs.Refusal.{plain}
use Rattle.line_record.specs.declared.record.LineRecord.{LineRecord}

-- what a decoding is refused with: nothing beside a record; else the refusal as it is, with its record and place
unfoldable pub decoding_refusal : Result LineRecord Refusal → Refusal
decoding_refusal (Ok r) = plain 0
decoding_refusal (Err why) = why

-- C's decoding is the library's: its refusal, and its record, zeros where there is none.
use Rattle.line_record.proofs.Says.{decoding_read, record_read}
use Rattle.capi_line.proofs.decode.SkvDecodedFromResultLineRecordRefusal.from.Goals as goal

pub returns : goal.returns
returns c = rw (c.into.ensures, c.refusal_of.ensures, decoding_read _, c.into-2.ensures, c.unwrap_or.ensures, record_read _)

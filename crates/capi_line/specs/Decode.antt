-- A decoding, as C is given it.
use Rattle.std.specs.Prelude.{Result}
use Rattle.terms.specs.declared.refusal.Refusal.{Refusal}
use Rattle.terms.specs.Refusal.{refusal_of, value_of}
use Rattle.line_record.specs.declared.record.LineRecord.{LineRecord}
use Rattle.line_record.specs.Record.{no_record}
use Rattle.capi_line.specs.declared.decode.SkvDecoded.{SkvDecoded}
use Rattle.capi.specs.Answer.{refusal_c}
use Rattle.capi_line.specs.Record.{record_c}

abbrev pub decoded_c : Result LineRecord Refusal → SkvDecoded
decoded_c decoded = record { refusal = refusal_c (refusal_of decoded); «record» = record_c (value_of no_record decoded) }

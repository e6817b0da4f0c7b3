-- The refusal of the record check is document 01's; it has no values. A decoding's refusal and record are. Assumes nothing.
use mathlib.Core.Path.{◌≡◌, refl, ◌∙◌}
use Rattle.std.specs.Prelude.{Result, Ok, Err}
use Rattle.std.specs.Result.{result_unwrap_or}
use Rattle.terms.specs.declared.refusal.Refusal.{Refusal}
use Rattle.terms.specs.Refusal.{plain, told, outcome_of, refusal_of, value_of}
use Rattle.terms.specs.Says.{Says}
use Rattle.terms.proofs.Says.{outcome_says, told_says}
use Rattle.line_record.specs.declared.record.LineRecord.{LineRecord}
use Rattle.line_record.specs.Record.{record_refusal, no_record}
use Rattle.line_record.specs.Decoding.{decoding_refusal}

pub check_record_says : (r : LineRecord) → refusal_of (outcome_of (record_refusal r)) ≡ plain (record_refusal r)
check_record_says r = outcome_says _

-- a decoding is read as every answer is
pub decoding_read : (decoded : Result LineRecord Refusal) → decoding_refusal decoded ≡ refusal_of decoded
unfolding decoding_refusal
decoding_read (Ok r) = refl
decoding_read (Err why) = refl

pub record_read : (decoded : Result LineRecord Refusal) → result_unwrap_or decoded no_record ≡ value_of no_record decoded
record_read (Ok r) = refl
record_read (Err why) = refl

-- beside a record plain 0; a refusal as it is, with its record of a map, beside zeros
module _ (why : Refusal) (none : why.number ≡ 0 → why ≡ plain 0) (r : LineRecord) where
  pub decoding_says : Says no_record (told why r) why r
  decoding_says = told_says no_record why none r

  pub decoding_tells : decoding_refusal (told why r) ≡ why
  decoding_tells = decoding_read _ ∙ decoding_says.refusal_is

-- The refusal and the values of each answer are document 01's. Assumes nothing.
use Rattle.std.proofs.Common.{◌≡◌, ℕ, List, sym, ap, ◌∙◌}
use Rattle.terms.specs.declared.chip.MapChip.TheVariants.{Esp32}
use Rattle.std.specs.Prelude.{Ok}
use Rattle.terms.specs.Refusal.{refusal_of, value_of}
use Rattle.terms.specs.Says.{Says}
use Rattle.terms.proofs.Refusals.{by_number_good, number_is}
use Rattle.maps.specs.Told.{told_of}
use Rattle.maps.proofs.Told.{told_number, told_is_number, map_says}
use Rattle.line_record.specs.declared.record.LineRecord.{LineRecord}
use Rattle.line_record.specs.Record.{no_record}
use Rattle.esp32.specs.Decode.{decoded_record, decode_refusal, decode_of}

module _ (lengths dump map : List ℕ) (unit atten : ℕ) where
  -- `decode`
  pub decode_says : Says no_record
      (decode_of lengths dump map unit atten) (told_of lengths Esp32 map (decode_refusal lengths dump map unit atten)) (decoded_record dump map unit atten)
  unfolding decode_of
  decode_says = map_says lengths map Esp32 no_record _ _

  -- the number of what `decode` answers
  pub number_says : (refusal_of (decode_of lengths dump map unit atten)).number ≡ decode_refusal lengths dump map unit atten
  number_says = told_is_number lengths map Esp32 decode_says.refusal_is

  -- where it answers a record, nothing is refused, and the record is the decoded one
  module _ {r : LineRecord} (e : decode_of lengths dump map unit atten ≡ Ok r) where
    pub record_none : decode_refusal lengths dump map unit atten ≡ 0
    record_none = sym number_says ∙ number_is (ap refusal_of e)

    pub record_is : r ≡ decoded_record dump map unit atten
    record_is = sym (ap (value_of no_record) e) ∙ decode_says.value_is ∙ by_number_good _ _ _ (told_number lengths map Esp32 _ ∙ record_none)

-- A decoded record says where it came from: its source goes by the same test as its a and b. Assumes nothing.
use Rattle.std.proofs.Common.{ℕ, List, sym, refl, ◌∙◌}
use Rattle.terms.proofs.Order.{whether}
use Rattle.line_record.proofs.Sources.{two_point_not_vref}
use Rattle.esp32.specs.Decode.{two_point_used, found_of, decoded_record}
use Rattle.esp32.specs.TrueSource.{SaysTrue, TrueSource}
use Rattle.esp32.proofs.Bases.{source_two_point, source_vref}
use Rattle.esp32.proofs.Says.{record_is}

module _ (lengths dump map : List ℕ) (unit atten : ℕ) where
  decoded_says_true : SaysTrue dump map unit atten (decoded_record dump map unit atten)
  unfolding decoded_record found_of
  decoded_says_true =
      record {
        source = (
          λ s. whether (two_point_used dump map) (λ used. used) (λ none. absurd (two_point_not_vref (sym s ∙ source_vref dump map unit none))),
          λ used. source_two_point dump map unit used,
        );
        of_unit = refl;
        at_atten = refl;
      }

  pub true_source : TrueSource lengths dump map unit atten
  true_source r e = rw (record_is lengths dump map unit atten e) decoded_says_true

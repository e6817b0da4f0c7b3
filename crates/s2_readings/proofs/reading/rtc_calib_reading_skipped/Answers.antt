-- `s2_readings::rtc_calib_reading_skipped` meets its contract: where nothing is refused the tag is in the table, and no dump is read.
use mathlib.Core.Path.{◌∙◌, ap}
use mathlib.Core.Bool.{true, true≢false}
use mir.Syntax.{w32}
use mir.ValLaws.{to_z-of_z}
use borrow.Author.Rules.{sfits_of}
use Rattle.std.specs.Prelude.{Ok}
use Rattle.std.proofs.lemmas.Result.{err_from_is_err_and}
use Rattle.terms.proofs.Refusals.{answered_good, went_well, handed_on, unit_inside}
use Rattle.s2_readings.specs.Reading.{reading_of, skipped_reading_of}
use Rattle.s2_readings.proofs.Tags.{tag_in_table}
use Rattle.s2_readings.proofs.reading.rtc_calib_reading_skipped.Goals as goal

pub returns-in_err-check_unit : goal.returns-in_err-check_unit
unfolding skipped_reading_of
returns-in_err-check_unit c =
    let p = err_from_is_err_and c.from_residual.result c.from_residual.ensures.1 in
    rw (p.1, p.2) (handed_on _ _ c.in_err-check_unit.ensures)

pub rtc_calib_tag-requires : goal.rtc_calib_tag-requires
rtc_calib_tag-requires c = unit_inside _ _ (went_well _ tt c.in_ok-check_unit.ensures).0

pub rtc_calib_parsed-requires : goal.rtc_calib_parsed-requires
rtc_calib_parsed-requires c =
    let good = unit_inside _ _ (went_well _ tt c.in_ok-check_unit.ensures).0 in
    (λ e. absurd (true≢false e), rw c.rtc_calib_tag.ensures (tag_in_table _ _ _ _ good.0 good.1))

pub returns : goal.returns
unfolding skipped_reading_of
returns c =
    answered_good _ _ (went_well _ tt c.in_ok-check_unit.ensures).0
    (ap Ok (to_z-of_z w32 _ (sfits_of c.rtc_calib_parsed.type_inv) ∙ c.rtc_calib_parsed.ensures ∙ ap (reading_of _ true) c.rtc_calib_tag.ensures))

-- `s2_readings::table_reading` meets its contract: where nothing is refused the tag is in the table, and its chain can be read.
use mathlib.Core.Path.{◌∙◌, ap}
use mathlib.Core.Bool.{false}
use mir.Syntax.{w32}
use mir.ValLaws.{to_z-of_z}
use borrow.Author.Rules.{sfits_of}
use Rattle.std.specs.Prelude.{Ok}
use Rattle.std.proofs.lemmas.Result.{err_from_is_err_and}
use Rattle.terms.proofs.Refusals.{answered_good, went_well, handed_on}
use Rattle.s2_readings.specs.Reading.{reading_of, table_reading_of}
use Rattle.s2_readings.proofs.Links.{chain_readable}
use Rattle.s2_readings.proofs.Readings.{table_good}
use Rattle.s2_readings.proofs.Tags.{tag_in_table}
use Rattle.s2_readings.proofs.reading.table_reading.Goals as goal

pub returns-in_err-check_table : goal.returns-in_err-check_table
unfolding table_reading_of
returns-in_err-check_table c =
    let p = err_from_is_err_and c.from_residual.result c.from_residual.ensures.1 in
    rw (p.1, p.2) (handed_on _ _ c.in_err-check_table.ensures)

pub rtc_calib_tag-requires : goal.rtc_calib_tag-requires
rtc_calib_tag-requires c =
    let good = table_good _ _ _ _ _ _ (went_well _ tt c.in_ok-check_table.ensures).0 in
    (good.1, good.2)

pub rtc_calib_parsed-requires : goal.rtc_calib_parsed-requires
rtc_calib_parsed-requires c =
    let good = table_good _ _ _ _ _ _ (went_well _ tt c.in_ok-check_table.ensures).0 in
    let here = tag_in_table _ _ _ _ good.1 good.2 in
    rw c.rtc_calib_tag.ensures (λ e. chain_readable _ _ _ good.0 here good.3, here)

pub returns : goal.returns
unfolding table_reading_of
returns c =
    answered_good _ _ (went_well _ tt c.in_ok-check_table.ensures).0
    (ap Ok (to_z-of_z w32 _ (sfits_of c.rtc_calib_parsed.type_inv) ∙ c.rtc_calib_parsed.ensures ∙ ap (reading_of _ false) c.rtc_calib_tag.ensures))

-- `s2_readings::rtc_calib_reading` meets its contract: past the dump and the list it is the table's reading.
use mathlib.Core.Path.{◌∙◌}
use Rattle.std.proofs.lemmas.Result.{err_from_is_err_and}
use Rattle.terms.proofs.Refusals.{went_well}
use Rattle.s2_readings.proofs.Readings.{reading_dump, reading_table}
use Rattle.s2_readings.proofs.reading.rtc_calib_reading.Goals as goal

pub returns-in_err-check_dump : goal.returns-in_err-check_dump
returns-in_err-check_dump c =
    let p = err_from_is_err_and c.from_residual.result c.from_residual.ensures.1 in
    rw (p.1, p.2) (reading_dump _ _ _ _ _ _ c.in_err-check_dump.ensures)

pub returns : goal.returns
returns c = c.table_reading.ensures ∙ reading_table _ _ _ _ _ _ (went_well _ tt c.in_ok-check_dump.ensures).0

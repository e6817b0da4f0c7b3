-- Each public call's promise, as the check reads it from the source, admits one answer per input: it is an equation. Assumes nothing.
use mathlib.Core.Path.{sym, ◌∙◌}
use Rattle.terms.specs.OneAnswer.{OneAnswer}
use Rattle.s2_readings.proofs.reading.rtc_calib_reading.Reads as rtc_calib_reading
use Rattle.s2_readings.proofs.reading.rtc_calib_reading_skipped.Reads as rtc_calib_reading_skipped
use Rattle.s2_readings.proofs.reading.table_reading.Reads as table_reading

pub rtc_calib_reading_one : OneAnswer (λ κs z e. z) rtc_calib_reading.Post
rtc_calib_reading_one κs a z z' e e' p q = p ∙ sym q

pub rtc_calib_reading_skipped_one : OneAnswer (λ κs z e. z) rtc_calib_reading_skipped.Post
rtc_calib_reading_skipped_one κs a z z' e e' p q = p ∙ sym q

pub table_reading_one : OneAnswer (λ κs z e. z) table_reading.Post
table_reading_one κs a z z' e e' p q = p ∙ sym q

-- Each public call's promise, as the check reads it from the source, admits one answer per input: it is an equation. Assumes nothing.
use mathlib.Core.Path.{sym, ◌∙◌}
use Rattle.terms.specs.OneAnswer.{OneAnswer}
use Rattle.s2_codes.proofs.code.rtc_calib_init_code.Reads as rtc_calib_init_code
use Rattle.s2_codes.proofs.code.rtc_calib_cal_code.Reads as rtc_calib_cal_code

pub rtc_calib_init_code_one : OneAnswer (λ κs z e. z) rtc_calib_init_code.Post
rtc_calib_init_code_one κs a z z' e e' p q = p ∙ sym q

pub rtc_calib_cal_code_one : OneAnswer (λ κs z e. z) rtc_calib_cal_code.Post
rtc_calib_cal_code_one κs a z z' e e' p q = p ∙ sym q

-- Each public call's promise, as the check reads it from the source, admits one answer per input: it is an equation.
-- Assumes nothing.
use mathlib.Core.Path.{sym, ◌∙◌}
use Rattle.terms.specs.OneAnswer.{OneAnswer}
use Rattle.esp32c6.proofs.code.rtc_calib_init_code.Reads as rtc_calib_init_code
use Rattle.esp32c6.proofs.code.rtc_calib_cal_code.Reads as rtc_calib_cal_code
use Rattle.esp32c6.proofs.channel.rtc_calib_get_chan_compens.Reads as rtc_calib_get_chan_compens

pub rtc_calib_init_code_one : OneAnswer (λ κs z e. z) rtc_calib_init_code.Post
rtc_calib_init_code_one κs a z z' e e' p q = p ∙ sym q

pub rtc_calib_cal_code_one : OneAnswer (λ κs z e. z) rtc_calib_cal_code.Post
rtc_calib_cal_code_one κs a z z' e e' p q = p ∙ sym q

pub rtc_calib_get_chan_compens_one : OneAnswer (λ κs z e. z) rtc_calib_get_chan_compens.Post
rtc_calib_get_chan_compens_one κs a z z' e e' p q = p ∙ sym q

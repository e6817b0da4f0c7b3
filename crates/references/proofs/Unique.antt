-- Each public call's promise, as the check reads it from the source, admits one answer per input: it is an equation.
-- Assumes nothing.
use mathlib.Core.Path.{sym, ◌∙◌}
use Rattle.terms.specs.OneAnswer.{OneAnswer}
use Rattle.references.proofs.s2.rtc_calib_cal_mv.Reads as s2
use Rattle.references.proofs.c6.rtc_calib_cal_mv.Reads as c6

pub s2_one : OneAnswer (λ κs z e. z) s2.Post
s2_one κs a z z' e e' p q = p ∙ sym q

pub c6_one : OneAnswer (λ κs z e. z) c6.Post
c6_one κs a z z' e e' p q = p ∙ sym q

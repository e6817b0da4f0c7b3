-- Each call's promise, as the check reads it from the source, admits one answer per input: it is an equation. Assumes nothing.
use mathlib.Core.Path.{sym, ◌∙◌}
use Rattle.terms.specs.OneAnswer.{OneAnswer}
use Rattle.capi_curve.proofs.correct.skv_correct.Reads as skv_correct

pub skv_correct_one : OneAnswer (λ κs z e. z) skv_correct.Post
skv_correct_one κs a z z' e e' p q = p ∙ sym q

-- Each public call's promise, as the check reads it from the source, admits one answer per input: it is an equation. Assumes nothing.
use mathlib.Core.Path.{sym, ◌∙◌}
use Rattle.terms.specs.OneAnswer.{OneAnswer}
use Rattle.curves.proofs.error.less_error.Reads as less_error

pub less_error_one : OneAnswer (λ κs z e. z) less_error.Post
less_error_one κs a z z' e e' p q = p ∙ sym q

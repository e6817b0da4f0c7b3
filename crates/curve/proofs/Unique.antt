-- Each public call's promise, as the check reads it from the source, admits one answer per input: it is an equation.
-- Assumes nothing.
use mathlib.Core.Path.{sym, ◌∙◌}
use Rattle.terms.specs.OneAnswer.{OneAnswer}
use Rattle.curve.proofs.correct.correct.Reads as correct

pub correct_one : OneAnswer (λ κs z e. z) correct.Post
correct_one κs a z z' e e' p q = p ∙ sym q

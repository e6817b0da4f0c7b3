-- Each public call's promise, as the check reads it from the source, admits one answer per input: it is an equation. Assumes nothing.
use mathlib.Core.Path.{sym, ◌∙◌}
use Rattle.terms.specs.OneAnswer.{OneAnswer}
use Rattle.vref.proofs.coefficients.vref_line.Reads as vref_line
use Rattle.vref.proofs.coefficients.is_vref_line.Reads as is_vref_line

pub vref_line_one : OneAnswer (λ κs z e. z) vref_line.Post
vref_line_one κs a z z' e e' p q = p ∙ sym q

pub is_vref_line_one : OneAnswer (λ κs z e. z) is_vref_line.Post
is_vref_line_one κs a z z' e e' p q = p ∙ sym q

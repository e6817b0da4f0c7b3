-- Each public call's promise, as the check reads it from the source, admits one answer per input: it is an equation. Assumes nothing.
use mathlib.Core.Path.{sym, ◌∙◌}
use Rattle.terms.specs.OneAnswer.{OneAnswer}
use Rattle.lut.proofs.row.lut_row.Reads as lut_row

pub lut_row_one : OneAnswer (λ κs z e. z) lut_row.Post
lut_row_one κs a z z' e e' p q = p ∙ sym q

-- Each public call's promise, as the check reads it from the source, admits one answer per input: it is an equation. Assumes nothing.
use mathlib.Core.Path.{sym, ◌∙◌}
use Rattle.terms.specs.OneAnswer.{OneAnswer}
use Rattle.line.proofs.convert.convert.Reads as convert
use Rattle.line.proofs.convert.interpolate_two_points.Reads as interpolate_two_points
use Rattle.line.proofs.convert.beyond_line.Reads as beyond_line
use Rattle.line.proofs.lookup.lut_slope.Reads as lut_slope

pub convert_one : OneAnswer (λ κs z e. z) convert.Post
convert_one κs a z z' e e' p q = p ∙ sym q

pub interpolate_two_points_one : OneAnswer (λ κs z e. z) interpolate_two_points.Post
interpolate_two_points_one κs a z z' e e' p q = p ∙ sym q

pub beyond_line_one : OneAnswer (λ κs z e. z) beyond_line.Post
beyond_line_one κs a z z' e e' p q = p ∙ sym q

pub lut_slope_one : OneAnswer (λ κs z e. z) lut_slope.Post
lut_slope_one κs a z z' e e' p q = p ∙ sym q

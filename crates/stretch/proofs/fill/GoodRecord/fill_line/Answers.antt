-- `stretch::GoodRecord::fill_line` meets its contract: the line is a ramp, with b in its sum.
use mathlib.Core.Path.{◌∙◌}
use Rattle.stretch.proofs.Segments.{line_tab}
use Rattle.stretch.proofs.fill.GoodRecord.fill_line.Goals as goal

pub returns : goal.returns
returns c = c.ramp.ensures ∙ line_tab _ _ c.line_slope.ensures _

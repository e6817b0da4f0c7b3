-- `stretch::GoodRecord::fill_segment` meets its contract: the test says which segment it is.
use mathlib.Core.Path.{sym, ◌∙◌}
use Rattle.stretch.proofs.Segments.{in_step, line_answers}
use Rattle.stretch.proofs.fill.GoodRecord.fill_segment.Goals as goal

pub fill_step-requires : goal.fill_step-requires
fill_step-requires c =
    in_step _ _ _ (sym c.beyond_line.ensures ∙ c.if-beyond_line.true) c.requires.0 c.requires.1

pub returns-else-beyond_line : goal.returns-else-beyond_line
returns-else-beyond_line c =
    c.fill_line.ensures ∙ line_answers _ _ _ (sym c.beyond_line.ensures ∙ c.if-beyond_line.false) c.requires.1

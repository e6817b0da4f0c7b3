-- `stretch::GoodRecord::fill_step` meets its contract: up to the next point the lookup is a ramp, and so is the line below it.
use mathlib.Core.Path.{◌∙◌}
use Rattle.stretch.proofs.Segments.{blended, blend_tab, upper_tab}
use Rattle.stretch.proofs.fill.GoodRecord.fill_step.Goals as goal

pub blend_ramps-requires : goal.blend_ramps-requires
blend_ramps-requires c =
    blended _ _ _ c.lut_slope-lut.ensures c.args.self.good c.requires.1 c.line_slope.ensures c.if-first-lt-LUT_HIGH_THRESH.true

pub returns-then-first-lt-LUT_HIGH_THRESH : goal.returns-then-first-lt-LUT_HIGH_THRESH
returns-then-first-lt-LUT_HIGH_THRESH c =
    c.blend_ramps.ensures
    ∙ blend_tab _ _ _ c.lut_slope-lut.ensures c.args.self.good c.requires.1 c.line_slope.ensures c.requires.0 c.if-first-lt-LUT_HIGH_THRESH.true

pub returns-else-first-lt-LUT_HIGH_THRESH : goal.returns-else-first-lt-LUT_HIGH_THRESH
returns-else-first-lt-LUT_HIGH_THRESH c =
    c.ramp.ensures ∙ upper_tab _ _ _ c.lut_slope-lut.ensures c.args.self.good c.requires.1 c.requires.0 c.if-first-lt-LUT_HIGH_THRESH.false

-- Two points and Vref are two sources. Assumes nothing.
use mathlib.Core.Path.{◌≡◌}
use Rattle.line_record.specs.declared.record.Source.TheVariants.{TwoPoint, Vref}

pub two_point_not_vref : TwoPoint ≡ Vref → ⊥
two_point_not_vref e = cc

-- `line::LookupCount::point` meets its contract: by the tables' rules no difference is below zero, and all is small.
use Prim.Native.Nat.{◌+◌, ◌-◌, ◌/◌}
use native.Mathlib.Omega.{arith}
use Rattle.lut.proofs.Points.{Made}
use Rattle.line.proofs.Lookups.{point_row}
use Rattle.line.proofs.lookup.LookupCount.point.Goals as goal
use Rattle.line.proofs.lookup.LookupCount.point.Goals.{After-lut_row-low}

-- the row's two numbers
made : (c : After-lut_row-low)
    → Made c.args.self.cal.unit c.args.self.cal.vref ((c.args.self.raw - 2880) / 64 + c.args.next) c.lut_row-low.result.0 c.lut_row-low.result.1
made c = point_row _ _ c.args.self.has c.requires c.lut_row-low.ensures

pub overflow_sub-rise : goal.overflow_sub-rise
overflow_sub-rise c = (made (goal.at.overflow_sub-rise c).After-lut_row-low).order

pub overflow_mul-result : goal.overflow_mul-result
overflow_mul-result c = let m = made (goal.at.overflow_mul-result c).After-lut_row-low in omega arith

pub overflow_mul-result-2 : goal.overflow_mul-result-2
overflow_mul-result-2 c = let m = made (goal.at.overflow_mul-result-2 c).After-lut_row-low in omega arith

pub overflow_add-result : goal.overflow_add-result
overflow_add-result c = let m = made (goal.at.overflow_add-result c).After-lut_row-low in omega arith

pub overflow_mul-result-3 : goal.overflow_mul-result-3
overflow_mul-result-3 c = let m = made (goal.at.overflow_mul-result-3 c).After-lut_row-low in omega arith

pub overflow_sub-result : goal.overflow_sub-result
overflow_sub-result c = let m = made (goal.at.overflow_sub-result c).After-lut_row-low in omega arith

pub returns : goal.returns
returns c = let m = made (goal.at.returns c).After-lut_row-low in omega arith

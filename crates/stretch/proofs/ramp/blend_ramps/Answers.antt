-- `stretch::blend_ramps` meets its contract: at each turn the blends so far are written, and both sums stand at the next place.
use mathlib.Core.Path.{◌≡◌, ◌∙◌}
use Prim.Native.Nat.{◌+◌, ◌/◌, ◌≤◌, ◌<◌}
use native.Mathlib.Nat.{le_of_lt}
use native.Mathlib.Omega.{arith}
use Rattle.terms.proofs.Tab.{fill_more, fill_done}
use Rattle.line.specs.Convert.{blend_of}
use Rattle.stretch.specs.Private.{along}
use lib.ListN.{length}
use Rattle.line.proofs.Answers.{blend_mean, blend_within}
use Rattle.stretch.proofs.Ramps.{ramp_room}
use Rattle.stretch.proofs.ramp.blend_ramps.Goals as goal
use Rattle.stretch.proofs.ramp.blend_ramps.Goals.{After-interpolate_two_points}

-- the blend's counts
counts : (c : After-interpolate_two_points) → c.args.x + c.loop-k.k < 64
counts c = omega (arith, c.loop-k.invariant.0.same)

-- both sums at the next place are of their ramps
line-room : (c : After-interpolate_two_points) → c.loop-k.line_sum + c.args.line.rise ≤ along c.args.line (length c.args.out.now)
line-room c = ramp_room _ _ _ _ c.loop-k.invariant.1 (omega (arith, c.loop-k.invariant.0.same))

lut-room : (c : After-interpolate_two_points) → c.loop-k.lut_sum + c.args.lut.rise ≤ along c.args.lut (length c.args.out.now)
lut-room c = ramp_room _ _ _ _ c.loop-k.invariant.2 (omega (arith, c.loop-k.invariant.0.same))

-- what is written
blend : (c : After-interpolate_two_points)
    → c.interpolate_two_points.result ≡ blend_of (c.loop-k.line_sum / 65536) (c.loop-k.lut_sum / 12800) (c.args.x + c.loop-k.k)
blend c = c.interpolate_two_points.ensures ∙ blend_mean _ _ _ (le_of_lt (counts c))

pub overflow_cast-place : goal.overflow_cast-place
overflow_cast-place c =
    let at = (goal.at.overflow_cast-place c).After-interpolate_two_points in
    let line : c.loop-k.line_sum / 65536 ≤ 65535 = omega (arith, line-room at) in
    let lut : c.loop-k.lut_sum / 12800 ≤ 65535 = omega (arith, lut-room at) in
    omega (arith, blend at, (blend_within _ _ _ (le_of_lt (counts at)) 0 65535 (omega arith, line) (omega arith, lut)).1)

pub loop-k-preserved : goal.loop-k-preserved
loop-k-preserved c = (
  fill_more _ _ _ _ c.loop-k.invariant.0 (omega arith) (blend (goal.at.loop-k-preserved c).After-interpolate_two_points ∙ rw (c.loop-k.invariant.1, c.loop-k.invariant.2)),
  omega arith,
  omega arith,
)

pub returns : goal.returns
returns c = fill_done _ _ _ c.loop-k.invariant.0 (omega arith)

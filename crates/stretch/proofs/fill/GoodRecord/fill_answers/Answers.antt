-- `stretch::GoodRecord::fill_answers` meets its contract: at each turn the first `at` answers are written, and the turn adds those of one segment.
use mathlib.Core.Path.{ap}
use Prim.Native.Nat.{◌+◌, ◌≤◌}
use native.Mathlib.Omega.{arith}
use lib.ListN.{length-take, length-drop}
use Rattle.terms.proofs.Parts.{fill_part}
use Rattle.terms.proofs.Tab.{fill_start, fill_done}
use Rattle.line.specs.Convert.{answer_at}
use Rattle.stretch.proofs.Segments.{segment_ends}
use Rattle.stretch.proofs.fill.GoodRecord.fill_answers.Goals as goal
use Rattle.stretch.proofs.fill.GoodRecord.fill_answers.Goals.{In-loop-at}

-- a count of the stretch
inside : (c : In-loop-at) → c.args.first + c.loop-at.at ≤ 4095
inside c = omega (arith, c.loop-at.invariant.same)

pub loop-at-init : goal.loop-at-init
loop-at-init c = fill_start _

pub overflow_cast-count : goal.overflow_cast-count
overflow_cast-count c = omega (arith, inside (goal.at.overflow_cast-count c).In-loop-at)

pub overflow_add-count : goal.overflow_add-count
overflow_add-count c = omega (arith, inside (goal.at.overflow_add-count c).In-loop-at)

pub segment_left-requires : goal.segment_left-requires
segment_left-requires c = omega (arith, inside (goal.at.segment_left-requires c).In-loop-at)

pub fill_segment-requires : goal.fill_segment-requires
fill_segment-requires c =
    (inside (goal.at.fill_segment-requires c).In-loop-at, simp (length-take, length-drop) (omega (arith, c.segment_left.ensures)))

pub loop-at-preserved : goal.loop-at-preserved
loop-at-preserved c =
    fill_part _ _ _ _ _ _ c.loop-at.invariant (omega arith) (omega arith) (λ k. ap (answer_at _) (omega arith))
    c.fill_segment.ensures

pub loop-at-smaller : goal.loop-at-smaller
loop-at-smaller c =
    let ends = segment_ends c.args.self.cal (c.args.first + c.loop-at.at) (inside (goal.at.loop-at-smaller c).In-loop-at) in
    omega (arith, (loop-at-preserved c).same, c.loop-at.invariant.same, c.segment_left.ensures)

pub shape_of-out : goal.shape_of-out
shape_of-out c = c.loop-at.invariant.same

pub returns : goal.returns
returns c = fill_done _ _ _ c.loop-at.invariant (omega arith)

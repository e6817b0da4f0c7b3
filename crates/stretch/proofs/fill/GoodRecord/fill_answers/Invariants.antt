use Prim.Native.Nat.{◌+◌, ◌-◌}
use lib.ListN.{length}
use Rattle.terms.proofs.Tab.{Filled}
use Rattle.line.specs.Convert.{answer_at}
use Rattle.stretch.proofs.fill.GoodRecord.fill_answers.Given as goal

abbrev pub invariant-loop-at : goal.invariant-loop-at
invariant-loop-at l = Filled (λ k. answer_at l.self.cal (l.first + k)) l.initial.out l.out l.at

abbrev pub decreases-loop-at : goal.decreases-loop-at
decreases-loop-at l = length l.out - l.at

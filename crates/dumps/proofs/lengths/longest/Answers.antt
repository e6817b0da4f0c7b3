-- `dumps::longest` meets its contract: at each turn it has the largest of the blocks before.
use mathlib.Core.Path.{◌≡◌, ◌∙◌, ap}
use Prim.Native.Nat.{max}
use native.Mathlib.Omega.{arith}
use lib.ListN.{length-take}
use lib.Seq.{get_or-take}
use Rattle.dumps.proofs.Lists.{longest_start, longest_more}
use Rattle.dumps.proofs.lengths.longest.Goals as goal

pub loop-words-init : goal.loop-words-init
loop-words-init c = longest_start _

pub loop-words-preserved : goal.loop-words-preserved
loop-words-preserved c =
    let at = get_or-take 8 c.args.lengths.now c.loop-words.words-index 0 (omega (arith, length-take 8 c.args.lengths.now)) in
    rw (c.max-most.ensures ∙ ap (max _) at) (longest_more _ _ _ c.loop-words.invariant)

pub returns : goal.returns
returns c =
    let all : c.loop-words.words-index ≡ 8 = omega (arith, c.loop-words-test.false, length-take 8 c.args.lengths.now) in
    rw all at c.loop-words.invariant

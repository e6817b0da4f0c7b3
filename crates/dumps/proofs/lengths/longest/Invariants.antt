use Rattle.dumps.specs.Private.{Longest}
use Rattle.dumps.proofs.lengths.longest.Given as goal

abbrev pub invariant-loop-words : goal.invariant-loop-words
invariant-loop-words l = Longest l.lengths l.words-index l.most

use Prim.Native.Nat.{ℕ, ◌+◌, ◌≤◌, ◌<◌}
use Rattle.dumps.specs.Lengths.{words_of}
use Rattle.dumps.proofs.lengths.check_lengths.Given as goal

abbrev pub invariant-loop-words : goal.invariant-loop-words
invariant-loop-words l = (k : ℕ) → k < 8 + l.words-index → words_of l.lengths k ≤ 8

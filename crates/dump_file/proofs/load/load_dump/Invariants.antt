use Rattle.terms.proofs.Tab.{Filled}
use Rattle.dump_file.specs.Load.{word_at}
use Rattle.dump_file.proofs.load.load_dump.Given as goal

abbrev pub invariant-loop-k : goal.invariant-loop-k
invariant-loop-k l = Filled (word_at l.bytes) l.initial.room l.room l.k

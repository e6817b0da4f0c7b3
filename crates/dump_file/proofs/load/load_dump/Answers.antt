-- `dump_file::load_dump` meets its contract: the room is as long as it was, so 88 of its words are all of them.
use native.Mathlib.Omega.{arith}
use Rattle.terms.proofs.Counted.{counted}
use Rattle.dump_file.proofs.load.load_dump.Goals as goal

pub returns-clause-counts : goal.returns-clause-counts
returns-clause-counts c = counted _ _ (omega (arith, c.loop-k.invariant.same))

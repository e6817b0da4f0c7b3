-- `stretch::ramp` meets its contract: at each turn the quotients so far are written, and the sum stands at the next place.
use native.Mathlib.Omega.{arith}
use Rattle.terms.proofs.Tab.{fill_done}
use Rattle.stretch.proofs.ramp.ramp.Goals as goal

pub returns : goal.returns
returns c = fill_done _ _ _ c.loop-place.invariant.0 (omega arith)

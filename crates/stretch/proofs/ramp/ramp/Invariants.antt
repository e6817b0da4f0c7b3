use mathlib.Core.Path.{◌≡◌}
use Prim.Native.Nat.{◌/◌}
use Rattle.terms.proofs.Tab.{Filled}
use Rattle.stretch.specs.Private.{along}
use Rattle.stretch.proofs.ramp.ramp.Given as goal

abbrev pub invariant-loop-place : goal.invariant-loop-place
invariant-loop-place l =
    Filled (λ k. along l.slope k / l.divisor) l.initial.out l.out l.place-index × (l.sum ≡ along l.slope l.place-index)

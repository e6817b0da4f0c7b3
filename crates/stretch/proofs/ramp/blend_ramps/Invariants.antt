use mathlib.Core.Path.{◌≡◌}
use Prim.Native.Nat.{◌+◌, ◌/◌}
use Rattle.terms.proofs.Tab.{Filled}
use Rattle.line.specs.Convert.{blend_of}
use Rattle.stretch.specs.Private.{along}
use Rattle.stretch.proofs.ramp.blend_ramps.Given as goal

abbrev pub invariant-loop-k : goal.invariant-loop-k
invariant-loop-k l =
    Filled (λ k. blend_of (along l.line k / 65536) (along l.lut k / 12800) (l.x + k)) l.initial.out l.out l.k
    × (l.line_sum ≡ along l.line l.k)
    × (l.lut_sum ≡ along l.lut l.k)

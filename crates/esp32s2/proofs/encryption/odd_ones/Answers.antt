-- `esp32s2::odd_ones` meets its contract: the count of ones is the definition's.
use mathlib.Core.Path.{ap}
use Prim.Native.Nat.{ℕ, ◌%◌}
use lib.Dec.{eqb}
use Rattle.esp32s2.specs.Encryption.{odd_ones}
use Rattle.esp32s2.proofs.Ones.{ones_is}
use Rattle.esp32s2.proofs.encryption.odd_ones.Goals as goal

pub returns : goal.returns
unfolding odd_ones
returns c = ap (λ (n : ℕ). eqb (n % 2) 1) (ones_is 8 c.args.count c.ranges.count.fits)

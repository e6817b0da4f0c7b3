-- `efuse::byte_at` meets its contract: eight bits are a byte.
use Prim.Native.Nat.{◌^◌, ◌<◌}
use native.Mathlib.Omega.{arith}
use Rattle.efuse.proofs.Bits.{bits_fit}
use Rattle.efuse.proofs.field.byte_at.Goals as goal

pub overflow_cast-result : goal.overflow_cast-result
overflow_cast-result c =
    let less : c.bits.result < 2 ^ 8 = rw c.bits.ensures (bits_fit _ _ 8 _ _ (omega arith)) in
    omega arith

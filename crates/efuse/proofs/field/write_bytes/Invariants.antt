use Prim.Native.Nat.{◌*◌}
use lib.ListN.{length}
use Rattle.terms.proofs.Tab.{Filled}
use Rattle.efuse.specs.Field.{field_bits, byte_of}
use Rattle.efuse.proofs.field.write_bytes.Given as goal

abbrev pub invariant-loop-i : goal.invariant-loop-i
invariant-loop-i l = Filled (byte_of (field_bits (8 * length l.initial.bytes) l.dump l.field)) l.initial.bytes l.bytes l.i

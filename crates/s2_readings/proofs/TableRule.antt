-- Document 01's rule of the table, by one computed test over all tags. Assumes nothing.
use Prim.Native.Nat.{ℕ, ◌+◌, ◌≤◌}
use native.Mathlib.Omega.{arith}
use Rattle.terms.proofs.Check.{Check, at_most, by, also, rule}
use Rattle.s2_readings.specs.Table.{begin_bit, bit_length, calib_map, entry_at}
use Rattle.s2_readings.specs.Rule.{after_links, TableRule}

abbrev check : (tag : ℕ) → Check (TableRule tag)
check tag =
    by (λ p. record { ends = omega arith; inside = p.1 })
    (also (at_most (after_links 4 tag) 0) (at_most (begin_bit (entry_at tag) + bit_length (entry_at tag)) 256))

pub table_rule : (tag : ℕ) → tag ≤ 32 → TableRule tag
unfolding after_links entry_at calib_map
table_rule tag h = rule check 33 tt tag (omega arith)

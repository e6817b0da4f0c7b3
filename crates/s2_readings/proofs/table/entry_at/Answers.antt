-- `s2_readings::entry_at` meets its contract: each arm is the table's entry, by computing, and what no arm has is past its end.
use lib.IntN.{pos}
use lib.ListN.{get_or-eq_default}
use Prim.Native.Nat.{◌≤◌}
use borrow.Author.Rules.{rules}
use Rattle.terms.proofs.Arms.{never}
use Rattle.terms.proofs.Order.{either}
use Rattle.s2_readings.specs.Table.{entry, calib_map, entry_at}
use Rattle.s2_readings.proofs.table.entry_at.Goals as goal

pub returns-in_default : goal.returns-in_default
unfolding entry_at calib_map
returns-in_default c =
    let past : 33 ≤ c.args.tag = either 33 c.args.tag (λ p. p) (λ below. absurd (never _ 33 c.in_default.in_default-own.rest below)) in
    rw (get_or-eq_default calib_map (entry 0 0 0 (pos 0) 0) past) (search rules)

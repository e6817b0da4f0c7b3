-- `curves::polynomial::step` meets its contract: what the machine reads back of each number is that number, since each fits.
use mathlib.Core.Path.{◌≡◌}
use native.Mathlib.Omega.{arith}
use lib.IntN.{pos, ◌+ℤ◌, ◌*ℤ◌}
use mir.Syntax.{w64}
use mir.Val.{to_z, of_z}
use mir.ValLaws.{to_z-of_z, to_z_pos}
use Rattle.terms.proofs.Machine.{op_fits, op_back}
use Rattle.curves.proofs.polynomial.step.Goals as goal
use Rattle.curves.proofs.polynomial.step.Goals.{Start}

poly-back : (c : Start) → to_z w64 (of_z w64 c.args.poly) ≡ c.args.poly
poly-back c = to_z-of_z w64 _ c.ranges.poly

v-back : (c : Start) → to_z w64 c.args.v ≡ pos c.args.v
v-back c = to_z_pos w64 _ (omega arith)

c-back : (c : Start) → to_z w64 (of_z w64 c.args.c) ≡ c.args.c
c-back c = to_z-of_z w64 _ c.ranges.c

pub overflow_mul-result : goal.overflow_mul-result
overflow_mul-result c = op_fits w64 ◌*ℤ◌ (poly-back (goal.at.overflow_mul-result c).Start) (v-back (goal.at.overflow_mul-result c).Start) c.requires.0

pub overflow_add-result : goal.overflow_add-result
overflow_add-result c = op_fits w64 ◌+ℤ◌ (op_back w64 ◌*ℤ◌ (poly-back (goal.at.overflow_add-result c).Start) (v-back (goal.at.overflow_add-result c).Start) c.requires.0) (c-back (goal.at.overflow_add-result c).Start) c.requires.1

pub returns : goal.returns
returns c = op_back w64 ◌+ℤ◌ (op_back w64 ◌*ℤ◌ (poly-back (goal.at.returns c).Start) (v-back (goal.at.returns c).Start) c.requires.0) (c-back (goal.at.returns c).Start) c.requires.1

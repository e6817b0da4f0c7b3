-- `curves::polynomial::Correction::taken_off` meets its contract: the difference isn't negative and fits 16 bits, so that the casts
-- lose nothing.
use mathlib.Core.Path.{◌≡◌, ◌∙◌, ap}
use mathlib.Core.List.{List, []}
use native.Mathlib.Omega.{arith}
use lib.IntN.{pos, nat_abs, ◌-ℤ◌}
use lib.ListN.{get_or}
use mir.Syntax.{w16, w64}
use mir.Val.{to_z, of_z}
use mir.ValLaws.{to_z-of_z, to_z_pos}
use borrow.Author.Rules.{sfits_of}
use Rattle.terms.proofs.Machine.{op_fits, op_back, cast_fits}
use Rattle.curves.specs.Decimal.{Decimal}
use Rattle.curves.specs.Flat.{curves}
use Rattle.curves.specs.Error.{error_of, corrected_of}
use Rattle.curves.proofs.Answers.{Exact, exact_by}
use Rattle.curves.proofs.polynomial.Correction.taken_off.Goals as goal
use Rattle.curves.proofs.polynomial.Correction.taken_off.Goals.{After-error_of}

abbrev curve : (c : After-error_of) → List Decimal
curve c = get_or curves c.args.self.k []

exact : (c : After-error_of) → Exact c.args.self.v (error_of (curve c) c.args.self.v)
exact c = exact_by c.args.self.k c.args.self.known c.args.self.v c.args.self.inside

v-back : (c : After-error_of) → to_z w64 c.args.self.v ≡ pos c.args.self.v
v-back c = to_z_pos w64 c.args.self.v (omega arith)

error-back : (c : After-error_of) → to_z w64 (of_z w64 c.error_of.result) ≡ error_of (curve c) c.args.self.v
error-back c = to_z-of_z w64 _ (sfits_of c.error_of.type_inv) ∙ c.error_of.ensures

answer_back : (c : After-error_of) → to_z w64 (of_z w64 (to_z w64 c.args.self.v -ℤ to_z w64 (of_z w64 c.error_of.result))) ≡ pos (corrected_of (curve c) c.args.self.v)
unfolding corrected_of
answer_back c = op_back w64 ◌-ℤ◌ (v-back c) (error-back c) (exact c).left_fits ∙ (exact c).whole

pub overflow_sub-result : goal.overflow_sub-result
overflow_sub-result c = op_fits w64 ◌-ℤ◌ (v-back (goal.at.overflow_sub-result c).After-error_of) (error-back (goal.at.overflow_sub-result c).After-error_of) (exact (goal.at.overflow_sub-result c).After-error_of).left_fits

pub overflow_cast-result-2 : goal.overflow_cast-result-2
unfolding corrected_of
overflow_cast-result-2 c = cast_fits w16 _ _ (answer_back (goal.at.overflow_cast-result-2 c).After-error_of) (exact (goal.at.overflow_cast-result-2 c).After-error_of).small

pub returns : goal.returns
returns c = ap nat_abs (answer_back (goal.at.returns c).After-error_of)

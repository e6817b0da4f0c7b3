-- `curves::polynomial::Correction::error_of` meets its contract: where the line answer isn't 0, the error is the polynomial over
-- 2^52, which fits.
use mathlib.Core.Path.{◌≡◌, sym, ◌∙◌}
use mathlib.Core.List.{[]}
use Prim.Native.Nat.{◌^◌}
use native.Mathlib.Omega.{arith}
use lib.IntN.{pos}
use lib.ListN.{get_or}
use lib.Signed.{quot_z}
use mir.Syntax.{w64}
use mir.Val.{to_z, of_z}
use mir.ValLaws.{to_z-of_z}
use borrow.Author.Rules.{sfits_of}
use Rattle.curves.specs.Flat.{curves}
use Rattle.curves.specs.Error.{error_of}
use Rattle.curves.proofs.Answers.{error_zero, error_by, exact_by}
use Rattle.curves.proofs.polynomial.Correction.error_of.Goals as goal
use Rattle.curves.proofs.polynomial.Correction.error_of.Goals.{After-poly_at}

-- what the machine divides is the polynomial
quotient : (c : After-poly_at)
    → quot_z (to_z w64 (of_z w64 c.poly_at.result)) (pos (2 ^ 52)) ≡ error_of (get_or curves c.args.self.k []) c.args.self.v
quotient c =
    error_by _ c.args.self.known _ c.if-self-eq0.false (to_z-of_z w64 _ (sfits_of c.poly_at.type_inv) ∙ c.poly_at.ensures)

pub returns-then-self-eq0 : goal.returns-then-self-eq0
returns-then-self-eq0 c = rw c.if-self-eq0.true (sym (error_zero _))

pub nonzero_div-result : goal.nonzero_div-result
nonzero_div-result c =
    (omega arith, rw (quotient (goal.at.nonzero_div-result c).After-poly_at) (exact_by _ c.args.self.known _ c.args.self.inside).fits)

pub returns : goal.returns
returns c =
    rw (quotient (goal.at.returns c).After-poly_at) (to_z-of_z w64 _ (exact_by _ c.args.self.known _ c.args.self.inside).fits)

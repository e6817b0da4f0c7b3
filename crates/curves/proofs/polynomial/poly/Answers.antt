-- `curves::polynomial::poly` meets its contract: each turn of the walk takes in one coefficient more, and fits.
use mathlib.Core.Path.{◌∙◌}
use mir.Syntax.{w64}
use mir.ValLaws.{to_z-of_z}
use borrow.Author.Rules.{sfits_of, rules}
use Rattle.curves.proofs.Walk.{walk_start, walk_fits, walk_more, walk_end}
use Rattle.curves.proofs.polynomial.poly.Goals as goal

pub loop-c-init : goal.loop-c-init
loop-c-init c = walk_start _ _ _ (cc)

pub step-poly-requires : goal.step-poly-requires
step-poly-requires c =
    walk_fits _ _ _ _ _ _ c.loop-c.invariant _ c.in-Some.ensures.steps (search (rules, to_z-of_z)) c.requires

pub loop-c-preserved : goal.loop-c-preserved
loop-c-preserved c =
    walk_more _ _ _ _ _ _ c.loop-c.invariant _ c.in-Some.ensures.steps (search (rules, to_z-of_z))
    _ (to_z-of_z w64 _ (sfits_of c.step-poly.type_inv) ∙ c.step-poly.ensures)

pub returns : goal.returns
returns c = walk_end _ _ _ _ (search rules) c.loop-c.invariant

-- `curves::polynomial::Correction::part` meets its contract: the part lies within the flat table, and it is the curve's, whose steps fit.
use mathlib.Core.Path.{◌∙◌}
use native.Mathlib.Omega.{arith}
use mir.Syntax.{w64}
use mir.ValLaws.{to_z-of_z}
use borrow.Author.Rules.{sfits_of}
use Rattle.curves.proofs.Parts.{part}
use Rattle.curves.proofs.Sound.{curves_sound}
use Rattle.curves.proofs.polynomial.Correction.part.Goals as goal

pub overflow_add-start : goal.overflow_add-start
overflow_add-start c = omega (arith, (part c.args.self.k _ _ _ c.requires.is_part c.coeffs.ensures).inside)

pub offset_bounds-coeffs-start : goal.offset_bounds-coeffs-start
offset_bounds-coeffs-start c = omega (arith, (part c.args.self.k _ _ _ c.requires.is_part c.coeffs.ensures).inside)

pub slice_bounds-poly-end : goal.slice_bounds-poly-end
slice_bounds-poly-end c = let p = part c.args.self.k c.args.start c.args.len c.coeffs.result.now c.requires.is_part c.coeffs.ensures in omega arith

pub poly-requires : goal.poly-requires
poly-requires c =
    let p = part c.args.self.k c.args.start c.args.len c.coeffs.result.now c.requires.is_part c.coeffs.ensures in
    rw p.is ((curves_sound c.args.self.k p.known).0 c.args.self.v c.requires.least c.args.self.inside)

pub returns : goal.returns
returns c =
    to_z-of_z w64 _ (sfits_of c.poly.type_inv)
    ∙ c.poly.ensures
    ∙ rw (part c.args.self.k c.args.start c.args.len c.coeffs.result.now c.requires.is_part c.coeffs.ensures).is

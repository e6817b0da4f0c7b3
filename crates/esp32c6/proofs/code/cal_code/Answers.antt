-- `esp32c6::cal_code` meets its contract: the sum is at most 511 from the offset, which fits.
use mathlib.Core.Path.{◌≡◌, ◌∙◌}
use native.Mathlib.Omega.{arith}
use lib.IntN.{pos, ◌+ℤ◌}
use lib.Signed.{pos-nat_abs}
use mir.Syntax.{w16, w32}
use mir.Val.{SFits, to_z, of_z}
use mir.ValLaws.{to_z-of_z, to_z_pos}
use borrow.Author.Rules.{sfits_of}
use Rattle.terms.specs.Sign.{sign_magnitude}
use Rattle.terms.proofs.Machine.{op_fits, op_back, cast_fits}
use Rattle.esp32c6.proofs.Codes.{code_whole, code_small, code_fits}
use Rattle.esp32c6.proofs.code.cal_code.Goals as goal
use Rattle.esp32c6.proofs.code.cal_code.Goals.{After-sign_magnitude}

offset : (c : After-sign_magnitude) → to_z w32 c.args.offset ≡ pos c.args.offset
offset c = to_z_pos w32 _ (omega arith)

code : (c : After-sign_magnitude) → to_z w32 (of_z w32 c.sign_magnitude.result) ≡ sign_magnitude 10 c.args.cal_vol
code c = to_z-of_z w32 _ (sfits_of c.sign_magnitude.type_inv) ∙ c.sign_magnitude.ensures

fits : (c : After-sign_magnitude) → SFits w32 (pos c.args.offset +ℤ sign_magnitude 10 c.args.cal_vol)
fits c = code_fits _ _ c.requires.0 c.requires.1 c.requires.2

pub overflow_add-result : goal.overflow_add-result
overflow_add-result c = op_fits w32 ◌+ℤ◌ (offset (goal.at.overflow_add-result c).After-sign_magnitude) (code (goal.at.overflow_add-result c).After-sign_magnitude) (fits (goal.at.overflow_add-result c).After-sign_magnitude)

pub overflow_cast-result-2 : goal.overflow_cast-result-2
overflow_cast-result-2 c =
    let whole = code_whole _ _ c.requires.0 c.requires.1 c.requires.2 in
    cast_fits w16 _ _ (op_back w32 ◌+ℤ◌ (offset (goal.at.overflow_cast-result-2 c).After-sign_magnitude) (code (goal.at.overflow_cast-result-2 c).After-sign_magnitude) (fits (goal.at.overflow_cast-result-2 c).After-sign_magnitude) ∙ whole) (code_small _ _ c.requires.0 c.requires.1 c.requires.2)

pub returns : goal.returns
returns c = pos-nat_abs _ (overflow_cast-result-2 (goal.at.returns c).After-sign_magnitude).0 ∙ op_back w32 ◌+ℤ◌ (offset (goal.at.returns c).After-sign_magnitude) (code (goal.at.returns c).After-sign_magnitude) (fits (goal.at.returns c).After-sign_magnitude)

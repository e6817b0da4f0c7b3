-- `s2_codes::code_of` meets its contract: where nothing is refused before it, the code is the table's reading, which isn't negative and
-- fits 16 bits, or its refusal.
use mathlib.Core.Path.{◌≡◌, sym, ◌∙◌, ap}
use lib.IntN.{ℤ, nat_abs}
use mir.Syntax.{w16, w32}
use mir.ValLaws.{to_z-of_z}
use borrow.Author.Rules.{rules}
use Rattle.std.specs.Prelude.{Ok}
use Rattle.std.proofs.lemmas.Result.{err_from_is_err_and}
use Rattle.terms.specs.Refusal.{unit_refusal}
use Rattle.terms.proofs.Machine.{cast_fits}
use Rattle.terms.proofs.Refusals.{number_is, told_good, told_refused, was_refused, unit_good}
use Rattle.maps.proofs.Told.{told_went_well}
use Rattle.s2_readings.specs.Private.{Ready}
use Rattle.s2_readings.proofs.Chains.{reading_whole}
use Rattle.s2_readings.proofs.Fits.{reading_small}
use Rattle.s2_readings.proofs.Readings.{table_value, table_refused}
use Rattle.s2_readings.proofs.Tags.{tag_in_table}
use Rattle.s2_codes.specs.Code.{version_refusal, code_of}
use Rattle.s2_codes.proofs.Codes.{code_good, code_before, code_table}
use Rattle.s2_codes.proofs.code.code_of.Goals as goal
use Rattle.s2_codes.proofs.code.code_of.Goals.{In_ok-check_version, In_ok-code}

-- past the first check nothing is refused but what the table's fields are
accepted : (c : In_ok-check_version)
    → version_refusal c.args.lengths.now c.args.dump.now c.args.map.now c.args.unit c.args.atten ≡ 0
accepted c = told_went_well _ _ _ c.in_ok-check_version.ensures

-- so that the dump and the list are good, and the unit and the attenuation inside
ready : (c : In_ok-check_version) → Ready c.args.lengths.now c.args.dump.now
ready c = (code_good _ _ _ _ _ (accepted c)).0

unit-there : (c : In_ok-check_version) → unit_refusal c.args.unit c.args.atten ≡ 0
unit-there c = let good = (code_good _ _ _ _ _ (accepted c)).1 in unit_good _ _ good.0 good.1

pub returns-in_err-check_version : goal.returns-in_err-check_version
unfolding code_of
returns-in_err-check_version c =
    let p = err_from_is_err_and c.from_residual.result c.from_residual.ensures.1 in
    let refused = was_refused _ tt c.in_err-check_version.ensures in
    let some : c.in_err-check_version.field-0.0.number ≡ 0 → ⊥ = λ z. refused.0 (sym (number_is refused.1) ∙ z) in
    rw (p.1, p.2) (told_refused _ _ (sym (code_before _ _ _ _ _ _ refused.1 some)) some)

pub returns-in_err-code : goal.returns-in_err-code
unfolding code_of
returns-in_err-code c =
    let here = (goal.at.returns-in_err-code c).In_ok-check_version in
    let p = err_from_is_err_and c.from_residual-in_err-code.result c.from_residual-in_err-code.ensures.1 in
    let five = table_refused _ _ 2 _ _ _ (ready here) (unit-there here) c.in_err-code.ensures in
    rw (p.1, p.2) (told_refused _ _ (five.1 ∙ sym (code_table _ _ _ _ _ _ (accepted here))) (λ z. five.0 (sym (number_is five.1) ∙ z)))

pub overflow_cast-result : goal.overflow_cast-result
overflow_cast-result c =
    let here = (goal.at.overflow_cast-result c).In_ok-check_version in
    let good = (code_good _ _ _ _ _ (accepted here)).1 in
    let v = table_value _ _ 2 _ _ _ (ready here) (unit-there here) c.in_ok-code.ensures in
    let h = tag_in_table 2 _ _ _ good.0 good.1 in
    cast_fits w16 _ _ (to_z-of_z w32 _ (search rules) ∙ v.1 ∙ reading_whole _ _ _ h) (reading_small _ _ _ h)

pub returns : goal.returns
unfolding code_of
returns c =
    let here = (goal.at.returns c).In_ok-check_version in
    let v = table_value _ _ 2 _ _ _ (ready here) (unit-there here) c.in_ok-code.ensures in
    told_good _ _ (number_is (code_table _ _ _ _ _ _ (accepted here)) ∙ v.0)
    (ap (λ (z : ℤ). Ok (nat_abs z)) (to_z-of_z w32 _ (search rules) ∙ v.1))

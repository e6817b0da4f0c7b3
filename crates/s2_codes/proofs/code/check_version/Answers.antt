-- `s2_codes::check_version` meets its contract: at each `return` the tests that led there say which case of the definition holds.
use mathlib.Core.Path.{◌≡◌, refl, ◌∙◌, ap}
use lib.Dec.{lit≤}
use native.Mathlib.Omega.{arith}
use Prim.Native.Nat.{ℕ}
use Rattle.std.proofs.lemmas.Result.{err_from_is_err_and}
use Rattle.terms.specs.declared.chip.MapChip.TheVariants.{S2}
use Rattle.terms.specs.Refusal.{outcome_told}
use Rattle.terms.proofs.Refusals.{answered_refused}
use Rattle.maps.specs.Told.{told_of}
use Rattle.maps.proofs.Told.{told_before, told_went_well, outcome_plain}
use Rattle.inputs.proofs.Inputs.{decoding_good}
use Rattle.esp32s2.specs.Version.{version_of}
use Rattle.esp32s2.proofs.Fields.{field_is}
use Rattle.s2_codes.specs.Code.{version_refusal}
use Rattle.s2_codes.proofs.Codes.{code_twelve, code_given}
use Rattle.s2_codes.proofs.code.check_version.Goals as goal
use Rattle.s2_codes.proofs.code.check_version.Goals.{After-record_value}

version : (c : After-record_value) → c.record_value.result ≡ version_of c.args.dump.now c.args.map.now
version c = field_is _ _ _ (decoding_good _ _ _ _ _ _ (told_went_well _ _ _ c.in_ok-check_decoding.ensures)).0 0 (lit≤ tt) c.record_value.ensures

pub returns-in_err-check_decoding : goal.returns-in_err-check_decoding
unfolding version_refusal
returns-in_err-check_decoding c =
    let p = err_from_is_err_and c.from_residual.result c.from_residual.ensures.1 in
    rw (p.1, p.2) (told_before _ _ _ _ _ c.in_err-check_decoding.ensures)

pub returns-then-record_value : goal.returns-then-record_value
returns-then-record_value c =
    answered_refused _ tt c.plain.ensures refl (λ z. omega arith)
    ∙ outcome_plain c.args.lengths.now c.args.map.now S2 12 refl
    ∙ ap (λ (n : ℕ). outcome_told (told_of c.args.lengths.now S2 c.args.map.now n))
    (code_twelve _ _ _ _ _ refl (told_went_well _ _ _ c.in_ok-check_decoding.ensures) (version (goal.at.returns-then-record_value c).After-record_value) c.if-record_value.true)

pub returns : goal.returns
returns c =
    outcome_plain c.args.lengths.now c.args.map.now S2 0 refl
    ∙ ap (λ (n : ℕ). outcome_told (told_of c.args.lengths.now S2 c.args.map.now n))
    (code_given _ _ _ _ _ refl (told_went_well _ _ _ c.in_ok-check_decoding.ensures) (version (goal.at.returns c).After-record_value) c.if-record_value.false)

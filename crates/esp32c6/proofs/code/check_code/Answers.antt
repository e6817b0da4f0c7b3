-- `esp32c6::check_code` meets its contract: the input's refusal comes first, where it has one.
use Rattle.std.proofs.lemmas.Result.{err_from_is_err_and}
use Rattle.maps.proofs.Told.{told_before, told_after}
use Rattle.esp32c6.specs.Code.{code_refusal}
use Rattle.esp32c6.proofs.Codes.{version_plain}
use Rattle.esp32c6.proofs.code.check_code.Goals as goal

pub returns-in_err-check_decoding : goal.returns-in_err-check_decoding
unfolding code_refusal
returns-in_err-check_decoding c =
    let p = err_from_is_err_and c.from_residual.result c.from_residual.ensures.1 in
    rw (p.1, p.2) (told_before _ _ _ _ _ c.in_err-check_decoding.ensures)

pub returns : goal.returns
unfolding code_refusal
returns c = told_after _ _ _ _ _ c.in_ok-check_decoding.ensures (version_plain _) c.check_version.ensures

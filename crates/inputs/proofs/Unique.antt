-- Each public call's promise, as the check reads it from the source, admits one answer per input: it is an equation.
-- Assumes nothing.
use mathlib.Core.Path.{sym, ◌∙◌}
use Rattle.terms.specs.OneAnswer.{OneAnswer}
use Rattle.inputs.proofs.input.check_fields.Reads as check_fields
use Rattle.inputs.proofs.input.check_decoding.Reads as check_decoding

pub check_fields_one : OneAnswer (λ κs z e. z) check_fields.Post
check_fields_one κs a z z' e e' p q = p ∙ sym q

pub check_decoding_one : OneAnswer (λ κs z e. z) check_decoding.Post
check_decoding_one κs a z z' e e' p q = p ∙ sym q

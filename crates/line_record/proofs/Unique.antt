-- Each public call's promise, as the check reads it from the source, admits one answer per input: it is an equation. Assumes nothing.
use mathlib.Core.Path.{sym, ◌∙◌}
use Rattle.terms.specs.OneAnswer.{OneAnswer}
use Rattle.line_record.proofs.decoded.refusal_of.Reads as refusal_of
use Rattle.line_record.proofs.record.converter_in_ranges.Reads as converter_in_ranges
use Rattle.line_record.proofs.record.good_record.Reads as good_record
use Rattle.line_record.proofs.record.check_record.Reads as check_record
use Rattle.line_record.proofs.record.uses_lookup.Reads as uses_lookup

pub converter_in_ranges_one : OneAnswer (λ κs z e. z) converter_in_ranges.Post
converter_in_ranges_one κs a z z' e e' p q = p ∙ sym q

pub good_record_one : OneAnswer (λ κs z e. z) good_record.Post
good_record_one κs a z z' e e' p q = p ∙ sym q

pub check_record_one : OneAnswer (λ κs z e. z) check_record.Post
check_record_one κs a z z' e e' p q = p ∙ sym q

pub uses_lookup_one : OneAnswer (λ κs z e. z) uses_lookup.Post
uses_lookup_one κs a z z' e e' p q = p ∙ sym q

pub refusal_of_one : OneAnswer (λ κs z e. z) refusal_of.Post
refusal_of_one κs a z z' e e' p q = p ∙ sym q

-- Each public call's promise, as the check reads it from the source, admits one answer per input: it is an equation.
-- Assumes nothing.
use mathlib.Core.Path.{sym, ◌∙◌}
use Rattle.terms.specs.OneAnswer.{OneAnswer}
use Rattle.maps.proofs.map.check_map_only.Reads as check_map_only
use Rattle.maps.proofs.map.check_map.Reads as check_map
use Rattle.maps.proofs.value.record_value.Reads as record_value

pub check_map_only_one : OneAnswer (λ κs z e. z) check_map_only.Post
check_map_only_one κs a z z' e e' p q = p ∙ sym q

pub check_map_one : OneAnswer (λ κs z e. z) check_map.Post
check_map_one κs a z z' e e' p q = p ∙ sym q

pub record_value_one : OneAnswer (λ κs z e. z) record_value.Post
record_value_one κs a z z' e e' p q = p ∙ sym q

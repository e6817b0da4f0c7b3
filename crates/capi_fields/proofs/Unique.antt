-- Each call's promise, as the check reads it from the source, admits one answer and one content of lent memory per input: it is an
-- equation. Assumes nothing.
use mathlib.Core.Path.{sym, ◌∙◌}
use mathlib.Core.List.{List}
use Prim.Native.Nat.{ℕ}
use Rattle.terms.specs.OneAnswer.{OneAnswer}
use Rattle.capi.specs.declared.answer.SkvOutcome.{SkvOutcome}
use Rattle.capi_fields.proofs.field.skv_read_field_u8.Reads as skv_read_field_u8
use Rattle.capi_fields.proofs.field.skv_read_field_u16.Reads as skv_read_field_u16
use Rattle.capi_fields.proofs.field.skv_read_field_u32.Reads as skv_read_field_u32
use Rattle.capi_fields.proofs.field.skv_read_field_le.Reads as skv_read_field_le
use Rattle.capi_fields.proofs.view.skv_view.Reads as skv_view
use Rattle.capi_fields.proofs.map.skv_check_map.Reads as skv_check_map
use Rattle.capi_fields.proofs.field.EfuseFieldFromSkvField.from.Reads as field_from
use Rattle.capi_fields.proofs.field.SkvReadFromResultU32Refusal.from.Reads as read_c

pub skv_read_field_u8_one : OneAnswer (λ κs z e. z) skv_read_field_u8.Post
skv_read_field_u8_one κs a z z' e e' p q = p ∙ sym q

pub skv_read_field_u16_one : OneAnswer (λ κs z e. z) skv_read_field_u16.Post
skv_read_field_u16_one κs a z z' e e' p q = p ∙ sym q

pub skv_read_field_u32_one : OneAnswer (λ κs z e. z) skv_read_field_u32.Post
skv_read_field_u32_one κs a z z' e e' p q = p ∙ sym q

-- of a reading into lent bytes, the fourth parameter, there is to see the outcome and what they are at exit
pub skv_read_field_le_one : OneAnswer {X = SkvOutcome × List ℕ} (λ κs z e. (z, e.1.1.1.0.now)) skv_read_field_le.Post
skv_read_field_le_one κs a z z' e e' p q = λ i. ((p.0 ∙ sym q.0) i, (p.1 ∙ sym q.1) i)

pub skv_view_one : OneAnswer (λ κs z e. z) skv_view.Post
skv_view_one κs a z z' e e' p q = p.0 ∙ sym q.0

pub skv_check_map_one : OneAnswer (λ κs z e. z) skv_check_map.Post
skv_check_map_one κs a z z' e e' p q = p ∙ sym q

pub field_from_one : OneAnswer (λ κs z e. z) field_from.Post
field_from_one κs a z z' e e' p q = p ∙ sym q

pub read_c_one : OneAnswer (λ κs z e. z) read_c.Post
read_c_one κs a z z' e e' p q = p ∙ sym q

-- Each call's promise, as the check reads it from the source, admits one answer and one content of lent memory per input: it is an
-- equation. Assumes nothing.
use mathlib.Core.Path.{sym, ◌∙◌}
use mathlib.Core.List.{List}
use Prim.Native.Nat.{ℕ}
use Rattle.terms.specs.OneAnswer.{OneAnswer}
use Rattle.capi.specs.declared.answer.SkvOutcome.{SkvOutcome}
use Rattle.capi_line.proofs.record.skv_check_record.Reads as skv_check_record
use Rattle.capi_line.proofs.decode.skv_decode.Reads as skv_decode
use Rattle.capi_line.proofs.convert.skv_convert.Reads as skv_convert
use Rattle.capi_line.proofs.fill.skv_fill.Reads as skv_fill
use Rattle.capi_line.proofs.decode.SkvDecodedFromResultLineRecordRefusal.from.Reads as decoded_c
use Rattle.capi_line.proofs.record.LineRecordTryFromSkvLineRecord.try_from.Reads as handed
use Rattle.capi_line.proofs.record.SkvLineRecordFromLineRecord.from.Reads as record_c

pub skv_check_record_one : OneAnswer (λ κs z e. z) skv_check_record.Post
skv_check_record_one κs a z z' e e' p q = p ∙ sym q

pub skv_decode_one : OneAnswer (λ κs z e. z) skv_decode.Post
skv_decode_one κs a z z' e e' p q = p ∙ sym q

pub skv_convert_one : OneAnswer (λ κs z e. z) skv_convert.Post
skv_convert_one κs a z z' e e' p q = p ∙ sym q

-- of a fill there is to see the outcome and what the lent list, the third parameter, is at exit
pub skv_fill_one : OneAnswer {X = SkvOutcome × List ℕ} (λ κs z e. (z, e.1.1.0.now)) skv_fill.Post
skv_fill_one κs a z z' e e' p q = λ i. ((p.0 ∙ sym q.0) i, (p.1 ∙ sym q.1) i)

pub decoded_c_one : OneAnswer (λ κs z e. z) decoded_c.Post
decoded_c_one κs a z z' e e' p q = p ∙ sym q

pub handed_one : OneAnswer (λ κs z e. z) handed.Post
handed_one κs a z z' e e' p q = p ∙ sym q

pub record_c_one : OneAnswer (λ κs z e. z) record_c.Post
record_c_one κs a z z' e e' p q = p ∙ sym q

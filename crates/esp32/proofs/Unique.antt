-- Each public call's promise, as the check reads it from the source, admits one answer per input: it is an equation. Assumes nothing.
use Rattle.std.proofs.Common.{sym, ◌∙◌}
use Rattle.terms.specs.OneAnswer.{OneAnswer}
use Rattle.esp32.proofs.decode.decode.Reads as decode
use Rattle.esp32.proofs.decode.SourceFromBasis.from.Reads as source_of

pub decode_one : OneAnswer (λ κs z e. z) decode.Post
decode_one κs a z z' e e' p q = p ∙ sym q

pub source_of_one : OneAnswer (λ κs z e. z) source_of.Post
source_of_one κs a z z' e e' p q = p ∙ sym q

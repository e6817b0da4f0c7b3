-- The public call's promise, as the check reads it from the source, admits one answer and one content of lent memory per input: it is an
-- equation. Assumes nothing.
use mathlib.Core.Path.{sym, ◌∙◌}
use mathlib.Core.List.{List}
use Prim.Native.Nat.{ℕ}
use Rattle.terms.specs.OneAnswer.{OneAnswer}
use Rattle.bad_record.proofs.told.put_bad_record.Reads as put_bad_record

-- there is to see the place past the words, and what the lent bytes, the first parameter, hold at exit
pub put_bad_record_one : OneAnswer {X = ℕ × List ℕ} (λ κs z e. (z, e.0.now)) put_bad_record.Post
put_bad_record_one κs a z z' e e' p q = λ i. ((p.0 ∙ sym q.0) i, (p.1.0 ∙ sym q.1.0) i)

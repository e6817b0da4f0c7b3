-- The public call's promise, as the check reads it from the source, admits one answer and one content of lent memory per input: it is an
-- equation. Assumes nothing.
use mathlib.Core.Path.{sym, ◌∙◌}
use mathlib.Core.List.{List}
use Prim.Native.Nat.{ℕ}
use Rattle.terms.specs.OneAnswer.{OneAnswer}
use Rattle.fault_words.proofs.told.put_fault.Reads as put_fault

-- of a fault's line there is to see its length, and what the lent bytes, the first parameter, hold at exit
pub put_fault_one : OneAnswer {X = ℕ × List ℕ} (λ κs z e. (z, e.0.now)) put_fault.Post
put_fault_one κs a z z' e e' p q = λ i. ((p.0.past ∙ sym q.0.past) i, (p.0.content ∙ sym q.0.content) i)

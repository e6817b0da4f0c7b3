-- Each public call's promise, as the check reads it from the source, admits one answer and one content of lent memory per input:
-- it is an equation. Assumes nothing.
use mathlib.Core.Path.{sym, ◌∙◌}
use mathlib.Core.List.{List}
use Prim.Native.Nat.{ℕ}
use Rattle.terms.specs.OneAnswer.{OneAnswer}
use Rattle.dump_file.proofs.load.load_dump.Reads as load_dump

-- of a load there is to see how many words, and what the room, the second parameter, holds at exit
pub load_dump_one : OneAnswer {X = ℕ × List ℕ} (λ κs z e. (z, e.1.0.now)) load_dump.Post
load_dump_one κs a z z' e e' p q = λ i. ((p.0 ∙ sym q.0) i, (p.1.0 ∙ sym q.1.0) i)

-- The fill's promise, as the check reads it from the source, admits one answer and one content of lent memory per input: it is an
-- equation. Assumes nothing.
use mathlib.Core.Path.{sym, ◌∙◌}
use mathlib.Core.List.{List}
use Prim.Native.Nat.{ℕ}
use Rattle.std.specs.Prelude.{Result}
use Rattle.terms.specs.declared.refusal.Refusal.{Refusal}
use Rattle.terms.specs.OneAnswer.{OneAnswer}
use Rattle.stretch.proofs.fill.fill.Reads as fill

-- of a fill there is to see the outcome and what the lent list, the third parameter, is at exit
pub fill_one : OneAnswer {X = Result Unit Refusal × List ℕ} (λ κs z e. (z, e.1.1.0.now)) fill.Post
fill_one κs a z z' e e' p q = λ i. ((p.0 ∙ sym q.0) i, (p.1 ∙ sym q.1) i)

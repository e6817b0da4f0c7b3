-- Each public call's promise, as the check reads it from the source, admits one answer and one content of lent memory per input:
-- it is an equation. Assumes nothing.
use mathlib.Core.Path.{sym, ◌∙◌}
use mathlib.Core.List.{List}
use Prim.Native.Nat.{ℕ}
use Rattle.terms.specs.OneAnswer.{OneAnswer}
use Rattle.words.proofs.put.has_room.Reads as has_room
use Rattle.words.proofs.put.put_decimal.Reads as put_decimal
use Rattle.words.proofs.put.put_word.Reads as put_word

pub has_room_one : OneAnswer (λ κs z e. z) has_room.Post
has_room_one κs a z z' e e' p q = p ∙ sym q

-- of what puts a text there is to see the place past it, and what the lent bytes, the first parameter, hold at exit
pub put_word_one : OneAnswer {X = ℕ × List ℕ} (λ κs z e. (z, e.0.now)) put_word.Post
put_word_one κs a z z' e e' p q = λ i. ((p.0 ∙ sym q.0) i, (p.1.0 ∙ sym q.1.0) i)

pub put_decimal_one : OneAnswer {X = ℕ × List ℕ} (λ κs z e. (z, e.0.now)) put_decimal.Post
put_decimal_one κs a z z' e e' p q = λ i. ((p.0 ∙ sym q.0) i, (p.1.0 ∙ sym q.1.0) i)

-- Each public call's promise, as the check reads it from the source, admits one answer per input: it is an equation. Assumes nothing.
use mathlib.Core.Path.{sym, ◌∙◌}
use Rattle.terms.specs.OneAnswer.{OneAnswer}
use Rattle.dumps.specs.View.{seen}
use Rattle.dumps.proofs.dump.check_dump.Reads as check_dump
use Rattle.dumps.proofs.lengths.check_lengths.Reads as check_lengths
use Rattle.dumps.proofs.lengths.words_of.Reads as words_of
use Rattle.dumps.proofs.view.board_dump.Reads as board_dump
use Rattle.dumps.proofs.view.check_view.Reads as check_view
use Rattle.dumps.proofs.view.view.Reads as view

pub check_dump_one : OneAnswer (λ κs z e. z) check_dump.Post
check_dump_one κs a z z' e e' p q = p ∙ sym q

pub check_lengths_one : OneAnswer (λ κs z e. z) check_lengths.Post
check_lengths_one κs a z z' e e' p q = p ∙ sym q

pub words_of_one : OneAnswer (λ κs z e. z) words_of.Post
words_of_one κs a z z' e e' p q = p ∙ sym q

-- of a board's dump, and of a view, there is to see where it lies and what is there
pub board_dump_one : OneAnswer (λ κs z e. seen z) board_dump.Post
board_dump_one κs a z z' e e' p q = p ∙ sym q

pub check_view_one : OneAnswer (λ κs z e. z) check_view.Post
check_view_one κs a z z' e e' p q = p ∙ sym q

pub view_one : OneAnswer (λ κs z e. seen z) view.Post
view_one κs a z z' e e' p q = p ∙ sym q

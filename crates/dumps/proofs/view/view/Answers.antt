-- `dumps::view` meets its contract: where nothing is refused the block is one of the board's dump.
use mathlib.Core.Path.{refl}
use Rattle.terms.proofs.Refusals.{went_well}
use Rattle.dumps.proofs.Views.{board_good}
use Rattle.dumps.proofs.view.view.Goals as goal

pub block_words-requires : goal.block_words-requires
block_words-requires c = board_good _ _ _ _ c.board_dump.result _ c.board_dump.ensures refl (went_well _ tt c.in-Ok.ensures).0

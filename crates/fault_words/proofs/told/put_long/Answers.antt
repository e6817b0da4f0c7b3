-- `fault_words::put_long` meets its contract: the place between two words.
use borrow.Author.Rules.{rules}
use Rattle.terms.proofs.Puts.{put_more}
use Rattle.fault_words.proofs.told.put_long.Goals as goal

pub returns : goal.returns
returns c = (
  put_more (put_more (c.put_word-next.ensures.put (search rules)) (c.put_decimal-next.ensures.put (search rules))) (c.put_word.ensures.put (search rules)),
  search rules,
)

-- `bad_record::put_wrong_byte` meets its contract: three texts, one after the other.
use borrow.Author.Rules.{rules}
use Rattle.terms.proofs.Puts.{put_more}
use Rattle.bad_record.proofs.told.put_wrong_byte.Goals as goal

pub returns : goal.returns
returns c = (
  put_more (put_more (c.put_word-next.ensures.put (search rules)) (c.put_decimal-next.ensures.put (search rules))) (c.put_word.ensures.put (search rules)),
  search rules,
)

-- `bad_record::put_place` meets its contract: five texts, one after the other.
use borrow.Author.Rules.{rules}
use Rattle.terms.proofs.Puts.{put_more}
use Rattle.bad_record.proofs.told.put_place.Goals as goal

pub returns : goal.returns
returns c = (
  put_more (put_more (put_more (put_more (c.put_word-next.ensures.put (search rules)) (c.put_decimal-next.ensures.put (search rules))) (c.put_word-next-2.ensures.put (search rules))) c.put_id-next.ensures.0) (c.put_word.ensures.put (search rules)),
  search rules,
)

-- `fault_words::put_end` meets its contract: where there is a number, it stands between two words.
use borrow.Author.Tests.{ne_eqb}
use borrow.Author.Rules.{rules}
use Rattle.terms.proofs.Puts.{put_more}
use Rattle.fault_words.proofs.told.put_end.Goals as goal

pub returns : goal.returns
returns c =
    rw (ne_eqb _ _ c.if-number-eq-NONE.false)
    (put_more (put_more (c.put_word-next.ensures.put (search rules)) (c.put_decimal-next.ensures.put (search rules))) (c.put_word-2.ensures.put (search rules)))

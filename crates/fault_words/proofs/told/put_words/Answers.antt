-- `fault_words::put_words` meets its contract: in each arm the number is known.
use borrow.Author.Rules.{rules}
use Rattle.fault_words.proofs.told.put_words.Goals as goal

pub returns-in-1 : goal.returns-in-1
returns-in-1 c = rw c.in-1.is (c.put_word.ensures.put (search rules), search rules)

pub returns-in-2 : goal.returns-in-2
returns-in-2 c = rw c.in-2.is (c.put_word-in-2.ensures.put (search rules), search rules)

pub returns-in-20 : goal.returns-in-20
returns-in-20 c = rw c.in-20.is (c.put_word-in-20.ensures.put (search rules), search rules)

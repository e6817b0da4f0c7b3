-- `bad_record::put_wrong` meets its contract: in each arm the number is known, or that it is none of those named.
use borrow.Author.Tests.{ne_eqb}
use borrow.Author.Rules.{rules}
use Rattle.bad_record.proofs.told.put_wrong.Goals as goal

pub returns-in-4 : goal.returns-in-4
returns-in-4 c = rw c.in-4.is (c.put_word.ensures.put (search rules), search rules)

pub returns-in-5 : goal.returns-in-5
returns-in-5 c = rw c.in-5.is (c.put_word-in-5.ensures.put (search rules), search rules)

pub returns-in_default : goal.returns-in_default
returns-in_default c =
    simp (ne_eqb _ _ c.in_default.in_default-own.rest.0.0.0.1, ne_eqb _ _ c.in_default.in_default-own.rest.0.0.1, ne_eqb _ _ c.in_default.in_default-own.rest.0.1, ne_eqb _ _ c.in_default.in_default-own.rest.1)
    (c.put_word-in_default.ensures.put (search rules), search rules)

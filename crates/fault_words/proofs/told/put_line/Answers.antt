-- `fault_words::put_line` meets its contract: the words for a refusal, and its number, stand behind the file's name.
use Rattle.terms.proofs.Puts.{put_more}
use Rattle.fault_words.specs.Told.{fault_text}
use Rattle.fault_words.proofs.told.put_line.Goals as goal

pub returns-in-Refused : goal.returns-in-Refused
unfolding fault_text
returns-in-Refused c =
    rw (c.in-Some.is, c.in-Refused.is)
    (put_more (put_more c.put_name-next.ensures.0 c.put_words-next.ensures.0) c.put_end-in-Refused.ensures)

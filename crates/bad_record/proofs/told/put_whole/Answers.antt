-- `bad_record::put_whole` meets its contract: which record it is comes before what is wrong with it.
use native.Mathlib.Omega.{arith}
use Rattle.terms.proofs.Puts.{put_more}
use Rattle.bad_record.specs.Told.{bad_text}
use Rattle.bad_record.proofs.told.put_whole.Goals as goal

pub returns : goal.returns
unfolding bad_text
returns c =
    (put_more c.put_place-next.ensures.0 c.put_wrong.ensures.0, omega arith)

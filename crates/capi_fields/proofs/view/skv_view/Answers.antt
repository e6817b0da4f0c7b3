-- `capi_fields::view::skv_view` meets its contract: what it tells is the place of the library's view.
use Rattle.terms.proofs.Refusals.{went_well, was_refused}
use Rattle.dumps.proofs.Views.{view_part, view_none}
use Rattle.capi_fields.proofs.Places.{place_good, place_refused}
use Rattle.capi_fields.proofs.view.skv_view.Goals as goal

pub returns-in-Err-clause-answer : goal.returns-in-Err-clause-answer
returns-in-Err-clause-answer c = rw c.into-in-Err.ensures (place_refused _ _ _ _ _ c.in-Err.ensures)

pub returns-in-Err-clause-part : goal.returns-in-Err-clause-part
returns-in-Err-clause-part c = view_none _ _ _ _ _ (was_refused _ tt c.in-Err.ensures).0

pub returns-in-Ok-clause-answer : goal.returns-in-Ok-clause-answer
returns-in-Ok-clause-answer c = rw (c.into.ensures, c.plain.ensures, c.words_of.ensures) (place_good _ _ _ _ _ c.in-Ok.ensures)

pub returns-in-Ok-clause-part : goal.returns-in-Ok-clause-part
returns-in-Ok-clause-part c = rw c.words_of.ensures (view_part _ _ _ _ _ (went_well _ tt c.in-Ok.ensures).0)

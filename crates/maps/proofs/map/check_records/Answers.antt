-- `maps::check_records` meets its contract: at each turn the first k records have passed.
use mathlib.Core.Path.{sym, ◌∙◌, ap}
use native.Mathlib.Omega.{arith}
use Rattle.terms.specs.Refusal.{outcome_told}
use Rattle.terms.proofs.Refusals.{first_pass, went_well, was_refused, number_is}
use Rattle.maps.proofs.Told.{told_stop}
use Rattle.maps.proofs.map.check_records.Goals as goal

pub returns-in-Err : goal.returns-in-Err
returns-in-Err c =
    let why = was_refused _ tt c.in-Err.ensures in
    c.outcome_of.ensures
    ∙ ap outcome_told
    (told_stop _ _ _ _ _ (omega arith) c.loop-k.invariant (number_is why.1) (λ z. why.0 (sym (number_is why.1) ∙ z)) c.told_place.ensures)

pub loop-k-preserved : goal.loop-k-preserved
loop-k-preserved c = first_pass _ _ _ (omega arith) c.loop-k.invariant (went_well _ tt c.in_default.ensures).0

-- `s2_readings::check_chain` meets its contract: at each turn the links before have passed.
use mathlib.Core.Path.{◌≡◌, refl, sym, ◌∙◌, ap}
use Prim.Native.Nat.{ℕ}
use native.Mathlib.Omega.{arith}
use Rattle.std.proofs.lemmas.Result.{err_from_is_err_and}
use Rattle.terms.proofs.Refusals.{first_start, first_pass, first_stop, first_none, went_well, was_refused, answered_refused, answered_good}
use Rattle.efuse.specs.Field.{place_refusal}
use Rattle.s2_readings.specs.Chain.{field_of, link_field, chain_refusal}
use Rattle.s2_readings.specs.Rule.{after_links}
use Rattle.s2_readings.specs.Table.{depends, entry_at}
use Rattle.s2_readings.proofs.Links.{link_more}
use Rattle.s2_readings.proofs.reading.check_chain.Goals as goal
use Rattle.s2_readings.proofs.reading.check_chain.Goals.{After-check_place}

-- the number of the link at hand
link : (c : After-check_place)
    → place_refusal c.args.lengths.now c.field_of.result ≡ place_refusal c.args.lengths.now (link_field c.args.tag c.loop.counter)
link c =
    ap (place_refusal _)
    (c.field_of.ensures ∙ ap field_of c.entry_at-entry.ensures ∙ ap (λ (tag : ℕ). field_of (entry_at tag)) c.loop.invariant.1)

pub loop-init : goal.loop-init
unfolding after_links
loop-init c = (first_start _ _, refl)

pub returns-in_err-check_place : goal.returns-in_err-check_place
unfolding chain_refusal
returns-in_err-check_place c =
    let p = err_from_is_err_and c.from_residual.result c.from_residual.ensures.1 in
    let refused = was_refused _ tt c.in_err-check_place.ensures in
    let stop = first_stop _ _ _ (omega arith) c.loop.invariant.0 (sym (link (goal.at.returns-in_err-check_place c).After-check_place)) refused.0 in
    rw (p.1, p.2) (answered_refused _ tt refused.1 (sym stop.0) refused.0)

pub loop-preserved : goal.loop-preserved
loop-preserved c = (
  first_pass _ _ _ (omega arith) c.loop.invariant.0
      (sym (link (goal.at.loop-preserved c).After-check_place) ∙ (went_well _ tt c.in_ok-check_place.ensures).0),
  ap depends c.entry_at-entry.ensures ∙ ap (λ (tag : ℕ). depends (entry_at tag)) c.loop.invariant.1 ∙ sym (link_more _ _),
)

pub returns : goal.returns
unfolding chain_refusal
returns c = answered_good _ tt (first_none _ _ _ (omega arith) c.loop.invariant.0) refl

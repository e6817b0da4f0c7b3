-- `s2_readings::check_table` meets its contract: the tests that lead to each `return` say which case it is.
use mathlib.Core.Path.{refl, sym, ◌∙◌, ap}
use native.Mathlib.Omega.{arith}
use Rattle.std.proofs.lemmas.Result.{err_from_is_err_and}
use Rattle.terms.specs.Refusal.{outcome_of}
use Rattle.terms.proofs.Refusals.{answered_refused, went_well, was_refused, unit_inside}
use Rattle.s2_readings.specs.Chain.{chain_refusal}
use Rattle.s2_readings.specs.Private.{Ready}
use Rattle.s2_readings.proofs.Readings.{chosen_unit, chosen_chain, table_chosen}
use Rattle.s2_readings.proofs.reading.check_table.Goals as goal

pub returns-in_err-check_unit : goal.returns-in_err-check_unit
returns-in_err-check_unit c =
    -- that block 2's own length is at most 8 goes by no name of its test, so that a wrong test is refused for what it lets through
    let ready : Ready c.args.lengths.now c.args.dump.now = record { whole = c.if-dump-ne-DUMP_WORDS.false; room = omega (arith, c.words_of.ensures) } in
    let p = err_from_is_err_and c.from_residual.result c.from_residual.ensures.1 in
    let refused = was_refused _ tt c.in_err-check_unit.ensures in
    rw (p.1, p.2)
    (answered_refused _ tt refused.1 (chosen_unit _ _ _ _ _ refl refused.0 ∙ sym (table_chosen _ _ _ _ _ _ ready)) refused.0)

pub rtc_calib_tag-requires : goal.rtc_calib_tag-requires
rtc_calib_tag-requires c = unit_inside _ _ (went_well _ tt c.in_ok-check_unit.ensures).0

pub returns : goal.returns
returns c =
    let ready : Ready c.args.lengths.now c.args.dump.now = record { whole = c.if-dump-ne-DUMP_WORDS.false; room = omega (arith, c.words_of.ensures) } in
    let u = (went_well _ tt c.in_ok-check_unit.ensures).0 in
    c.check_chain.ensures
    ∙ ap outcome_of (ap (chain_refusal _) c.rtc_calib_tag.ensures ∙ sym (table_chosen _ _ _ _ _ _ ready ∙ chosen_chain _ _ _ _ _ u))

-- Laws of converting: which case a conversion is, and that no answer is above 12,285. Assumes nothing.
use mathlib.Core.Path.{◌≡◌, refl, sym, ◌∙◌}
use mathlib.Core.Bool.{Bool, true}
use Prim.Native.Nat.{ℕ, ◌+◌, ◌*◌, ◌≤◌}
use native.Mathlib.Omega.{arith}
use lib.Dec.{eqb}
use borrow.Author.Tests.{eqb-true}
use Rattle.terms.specs.declared.quantity.Millivolt.{Millivolt}
use Rattle.terms.specs.declared.refusal.Refusal.{Refusal}
use Rattle.std.specs.Prelude.{Ok, Err}
use Rattle.terms.specs.Refusal.{plain, outcome_of, value_of}
use Rattle.terms.proofs.Order.{either, zero_or}
use Rattle.terms.proofs.Refusals.{by_number_refused, answered_good, answered_refused, was_refused, or_else_some, raw_good, raw_above}
use Rattle.line_record.specs.declared.record.LineRecord.{LineRecord}
use Rattle.line_record.specs.Record.{record_refusal}
use Rattle.line_record.proofs.Records.{record_sound}
use Rattle.line.specs.Lookup.{lookup_voltage}
use Rattle.line.specs.Convert.{line_voltage, beyond_line, answer_at, convert_refusal, convert_of}
use Rattle.line.proofs.Answers.{beyond_line_lem, line_sum_most, line_most, lookup_most, answer_most}
use Rattle.line.proofs.Exactly.{convert_good}
use Rattle.line.proofs.Says.{convert_says}

module _ (r : LineRecord) (raw : ℕ) where
  -- which case a conversion is, as a `return` asks it
  pub convert_voltage : {mv : ℕ} → convert_refusal r raw ≡ 0 → mv ≡ answer_at r raw → Ok (record { 0 = mv }) ≡ convert_of r raw
  unfolding convert_of
  convert_voltage e v = answered_good _ _ e (rw v)

  pub refused_record : {why : Refusal} → Err why ≡ outcome_of (record_refusal r) → Err why ≡ convert_of r raw
  unfolding convert_of convert_refusal
  refused_record e =
      let was = was_refused (plain (record_refusal r)) tt e in
      answered_refused _ _ was.1 (sym (or_else_some _ _ was.0)) was.0

  pub refused_raw : record_refusal r ≡ 0 → (convert_refusal r raw ≡ 0 → ⊥) → Err (plain 8) ≡ convert_of r raw
  unfolding convert_of convert_refusal
  refused_raw good some =
      either raw 4095
      (λ h. absurd (some (rw (good, raw_good raw h))))
      (λ h. answered_refused _ _ refl (rw (good, raw_above raw h)) (omega arith))

  pub accepted : {t : Bool} → t ≡ eqb (convert_refusal r raw) 0 → t ≡ true → convert_refusal r raw ≡ 0
  accepted e h = eqb-true _ _ (sym e ∙ h)

  -- where nothing is refused the line's sum is small, and so are line, lookup and answer
  module _ (e : convert_refusal r raw ≡ 0) where
    good : (record_refusal r ≡ 0) × (raw ≤ 4095)
    good = convert_good r raw e

    pub line_room : r.coeff_a * raw + 32768 + 65536 * r.coeff_b ≤ 805269504
    line_room = line_sum_most r (record_sound r good.0) raw (omega (arith, good.1))

    pub line_small : line_voltage r raw ≤ 12285
    line_small = line_most r (record_sound r good.0) raw good.1

    pub lookup_small : beyond_line r raw ≡ true → lookup_voltage r raw ≤ 12285
    lookup_small past = lookup_most r (record_sound r good.0) raw (beyond_line_lem r raw past).1 good.1

    pub answer_small : answer_at r raw ≤ 12285
    answer_small = answer_most r (record_sound r good.0) raw good.1

  -- no answer is above 12,285
  pub convert_most : (value_of (record { 0 = 0 }) (convert_of r raw)).0 ≤ 12285
  convert_most =
      rw (convert_says r raw).value_is
      (zero_or (convert_refusal r raw)
      (λ e. rw e (answer_small e))
      (λ some. rw (by_number_refused {A = Millivolt} (convert_refusal r raw) _ (record { 0 = 0 }) some) (omega arith)))

-- Laws of the fill: which case a fill is. Assumes nothing.
use mathlib.Core.Path.{◌≡◌, sym}
use mathlib.Core.List.{List}
use Prim.Native.Nat.{ℕ, ◌+◌, ◌≤◌, ◌<◌}
use lib.ListN.{length}
use Rattle.terms.specs.declared.refusal.Refusal.{Refusal}
use Rattle.std.specs.Prelude.{Ok, Err}
use Rattle.terms.specs.Refusal.{plain, outcome_of}
use Rattle.terms.proofs.Refusals.{by_number_good, by_number_refused, answered_refused, or_else_some, was_refused, went_well}
use Rattle.line_record.specs.declared.record.LineRecord.{LineRecord}
use Rattle.line_record.specs.Record.{record_refusal}
use Rattle.line_record.proofs.Exactly.{record_exactly}
use Rattle.stretch.specs.When.{bad_stretch, good_stretch}
use Rattle.stretch.proofs.Exactly.{fill_exactly, fill_good}
use Rattle.stretch.specs.Fill.{fill_refusal, answers_from, filled}

-- what a fill leaves in the lent list, by what its check says
module _ (r : LineRecord) (first : ℕ) (lent : List ℕ) where
  pub filled_good : Ok tt ≡ outcome_of (fill_refusal r first (length lent)) → answers_from r first (length lent) ≡ filled r first lent
  unfolding filled
  filled_good e = sym (by_number_good _ _ _ (went_well (plain (fill_refusal r first (length lent))) tt e).0)

  pub filled_refused : {why : Refusal} → Err why ≡ outcome_of (fill_refusal r first (length lent)) → lent ≡ filled r first lent
  unfolding filled
  filled_refused e = sym (by_number_refused _ _ _ (was_refused (plain (fill_refusal r first (length lent))) tt e).0)

-- what is known where nothing is refused
pub accepted : (r : LineRecord) (first n : ℕ) → Ok tt ≡ outcome_of (fill_refusal r first n) → (record_refusal r ≡ 0) × (first + n ≤ 4096)
accepted r first n e = fill_good r first n (went_well (plain (fill_refusal r first n)) tt e).0

-- a stretch's refusal, where the record has none
module _ (r : LineRecord) (first n : ℕ) (good : Ok tt ≡ outcome_of (record_refusal r)) where
  pub stretch_good : first + n ≤ 4096 → Ok tt ≡ outcome_of (fill_refusal r first n)
  stretch_good h = rw ((fill_exactly r first n 0).1 (good_stretch ((record_exactly r 0).0 (went_well (plain (record_refusal r)) tt good).0) h))

  pub stretch_refused : 4096 < first + n → Err (plain 11) ≡ outcome_of (fill_refusal r first n)
  stretch_refused h = rw ((fill_exactly r first n 11).1 (bad_stretch ((record_exactly r 0).0 (went_well (plain (record_refusal r)) tt good).0) h))

pub record_refused : (r : LineRecord) (first n : ℕ) {why : Refusal} → Err why ≡ outcome_of (record_refusal r)
    → Err why ≡ outcome_of (fill_refusal r first n)
unfolding fill_refusal
record_refused r first n e =
    let was = was_refused (plain (record_refusal r)) tt e in
    answered_refused _ _ was.1 (sym (or_else_some _ _ was.0)) was.0

-- Each number of filling is given exactly when: the record's laws come first, then one test. Assumes nothing.
use mathlib.Core.Path.{◌≡◌}
use Prim.Native.Nat.{ℕ, ◌+◌, ◌≤◌}
use borrow.Author.Tests.{lt-ltb, le-ltb}
use Rattle.terms.specs.Exactly.{Exactly}
use Rattle.terms.proofs.Exactly.{Some, exactly, case}
use Rattle.terms.proofs.Order.{either}
use Rattle.line_record.specs.declared.record.LineRecord.{LineRecord}
use Rattle.line_record.specs.Record.{record_refusal}
use Rattle.line_record.specs.When.{RecordWhen, bad_record_case, good_record_case}
use Rattle.line_record.proofs.Exactly.{record_exactly}
use Rattle.stretch.specs.Fill.{fill_refusal}
use Rattle.stretch.specs.When.{FillWhen, fill_record, bad_stretch, good_stretch}

module _ (r : LineRecord) (first n : ℕ) where
  fill_gives : (m : ℕ) → FillWhen r first n m → fill_refusal r first n ≡ m
  unfolding fill_refusal
  fill_gives _ (fill_record w) = rw ((record_exactly r 10).1 w)
  fill_gives _ (bad_stretch w h) = rw ((record_exactly r 0).1 w, lt-ltb _ _ h)
  fill_gives _ (good_stretch w h) = rw ((record_exactly r 0).1 w, le-ltb _ _ h)

  fill_by : (m : ℕ) → RecordWhen r m → Some (FillWhen r first n)
  fill_by _ (bad_record_case out) = (10, fill_record (bad_record_case out))
  fill_by _ (good_record_case h) =
      either (first + n) 4096 (λ u. (0, good_stretch (good_record_case h) u)) (λ u. (11, bad_stretch (good_record_case h) u))

  pub fill_exactly : Exactly (fill_refusal r first n) (FillWhen r first n)
  fill_exactly = exactly fill_gives (fill_by _ (case (record_exactly r)))

  fill_none : FillWhen r first n 0 → (record_refusal r ≡ 0) × (first + n ≤ 4096)
  fill_none (good_stretch w h) = ((record_exactly r 0).1 w, h)

  pub fill_good : fill_refusal r first n ≡ 0 → (record_refusal r ≡ 0) × (first + n ≤ 4096)
  fill_good e = fill_none ((fill_exactly 0).0 e)

-- The record check's number is given exactly when: a record is good or it isn't. Assumes nothing.
use mathlib.Core.Path.{◌≡◌}
use mathlib.Core.Logic.{⊎_elim}
use Prim.Native.Nat.{ℕ}
use native.Mathlib.Omega.{arith}
use Rattle.terms.specs.Exactly.{Exactly}
use Rattle.terms.proofs.Exactly.{Some, exactly}
use Rattle.line_record.specs.declared.record.LineRecord.{LineRecord}
use Rattle.line_record.specs.Record.{record_refusal}
use Rattle.line_record.specs.When.{RecordWhen, bad_record_case, good_record_case}
use Rattle.line_record.proofs.Records.{record_whole, record_good, record_number}

module _ (r : LineRecord) where
  record_gives : (n : ℕ) → RecordWhen r n → record_refusal r ≡ n
  record_gives _ (bad_record_case out) = ⊎_elim (λ none. absurd (out (record_whole r none))) (λ ten. ten) (record_number r)
  record_gives _ (good_record_case h) = record_good r h

  record_some : Some (RecordWhen r)
  record_some =
      ⊎_elim
      (λ none. (0, good_record_case (record_whole r none)))
      (λ ten. (10, bad_record_case (λ h. absurd (omega (arith, ten, record_good r h)))))
      (record_number r)

  pub record_exactly : Exactly (record_refusal r) (RecordWhen r)
  record_exactly = exactly record_gives record_some

-- Each number of converting is given exactly when: the record's laws come first, then the count's. Assumes nothing.
use mathlib.Core.Path.{◌≡◌}
use mathlib.Core.Bool.{◌&&◌}
use Prim.Native.Nat.{ℕ, ◌≤◌}
use lib.Dec.{leb, eqb}
use borrow.Author.Tests.{le-leb, lt-leb, le-ltb, lt-ltb}
use Rattle.terms.specs.Exactly.{Exactly}
use Rattle.terms.specs.Refusal.{raw_refusal}
use Rattle.terms.proofs.Exactly.{Some, exactly, case, raw_exactly}
use Rattle.terms.proofs.Order.{either, whether}
use Rattle.terms.proofs.Refusals.{raw_inside}
use Rattle.line_record.specs.declared.record.LineRecord.{LineRecord}
use Rattle.line_record.specs.Record.{good_record, record_refusal}
use Rattle.line_record.specs.When.{RecordWhen, bad_record_case, good_record_case}
use Rattle.line_record.proofs.Exactly.{record_exactly}
use Rattle.line.specs.Convert.{convert_refusal}
use Rattle.line.specs.When.{ConvertWhen, convert_record, convert_raw}

module _ (r : LineRecord) (raw : ℕ) where
  convert_gives : (n : ℕ) → ConvertWhen r raw n → convert_refusal r raw ≡ n
  unfolding convert_refusal
  convert_gives _ (convert_record w) = rw ((record_exactly r 10).1 w)
  convert_gives n (convert_raw w h) = rw ((record_exactly r 0).1 w) ((raw_exactly raw n).1 h)

  convert_by : (n : ℕ) → RecordWhen r n → Some (ConvertWhen r raw)
  convert_by _ (bad_record_case out) = (10, convert_record (bad_record_case out))
  convert_by _ (good_record_case h) = (_, convert_raw (good_record_case h) (case (raw_exactly raw)))

  pub convert_exactly : Exactly (convert_refusal r raw) (ConvertWhen r raw)
  convert_exactly = exactly convert_gives (convert_by _ (case (record_exactly r)))

  -- whether nothing is refused, by one test
  pub convert_test : good_record r && leb raw 4095 ≡ eqb (convert_refusal r raw) 0
  unfolding convert_refusal record_refusal raw_refusal
  convert_test =
      whether (good_record r)
      (λ good. either raw 4095 (λ h. simp (good, le-leb _ _ h, le-ltb _ _ h)) (λ h. simp (good, lt-leb _ _ h, lt-ltb _ _ h)))
      (λ bad. simp bad)

  -- what is known where nothing is refused
  convert_none : ConvertWhen r raw 0 → (record_refusal r ≡ 0) × (raw ≤ 4095)
  convert_none (convert_raw w h) = ((record_exactly r 0).1 w, raw_inside raw ((raw_exactly raw 0).1 h))

  pub convert_good : convert_refusal r raw ≡ 0 → (record_refusal r ≡ 0) × (raw ≤ 4095)
  convert_good e = convert_none ((convert_exactly 0).0 e)

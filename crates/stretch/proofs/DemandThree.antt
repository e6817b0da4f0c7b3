-- Demand 3 as one theorem: the laws of stretches and of rising answers, said of `convert`'s own answer. Assumes nothing.
use mathlib.Core.Path.{◌≡◌, refl, sym, ◌∙◌, ap}
use Prim.Native.Nat.{ℕ, ◌≤◌}
use native.Mathlib.Omega.{arith}
use Rattle.std.specs.Prelude.{Result, Ok}
use Rattle.terms.specs.declared.quantity.Millivolt.{Millivolt}
use Rattle.terms.specs.declared.refusal.Refusal.{Refusal}
use Rattle.terms.specs.Refusal.{value_of}
use Rattle.terms.specs.When.{good_raw}
use Rattle.line_record.specs.declared.record.LineRecord.{LineRecord}
use Rattle.line_record.specs.Record.{record_refusal}
use Rattle.line.specs.Convert.{answer_at, convert_of}
use Rattle.stretch.specs.DemandThree.{millivolts, DemandThree}
use Rattle.line.specs.When.{convert_raw}
use Rattle.line.proofs.Conversions.{convert_voltage}
use Rattle.line.proofs.Exactly.{convert_exactly}
use Rattle.line_record.proofs.Exactly.{record_exactly}
use Rattle.line_record.proofs.Records.{record_sound}
use Rattle.line.proofs.Rising.{lookup_rises, blend_between, blend_starts, blend_ends, plain_rises}
use Rattle.stretch.proofs.Stretches.{covered_below, walked_length, walked_at}

module _ (cal : LineRecord) (accepted : record_refusal cal ≡ 0) where
  -- a count up to 4095 isn't refused
  voltage : {mv : ℕ} (k : ℕ) → k ≤ 4095 → mv ≡ answer_at cal k → convert_of cal k ≡ Ok (record { 0 = mv })
  voltage k h e = sym (convert_voltage cal k ((convert_exactly cal k 0).1 (convert_raw ((record_exactly cal 0).0 accepted) (good_raw h))) e)

  answer_is : (k : ℕ) → k ≤ 4095 → millivolts cal k ≡ answer_at cal k
  answer_is k h = ap (λ (v : Result Millivolt Refusal). (value_of (record { 0 = 0 }) v).0) (voltage k h refl)

  pub demand_three : DemandThree cal
  demand_three =
      record {
        long = walked_length cal accepted;
        filled_in = λ ss table full k c. voltage k (covered_below ss k c) (walked_at cal accepted ss table full k ∙ rw c);
        left_alone = λ ss table full k c. walked_at cal accepted ss table full k ∙ rw c;
        lookup_rises = λ uses. lookup_rises cal (record_sound cal accepted);
        blend_between = λ uses c l u. rw (answer_is c (omega arith)) (blend_between cal uses c l u);
        blend_starts = λ uses. answer_is 2880 (omega arith) ∙ blend_starts cal uses;
        blend_ends = λ uses. answer_is 2944 (omega arith) ∙ blend_ends cal uses;
        plain_rises = λ plain c d h u. rw (answer_is c (omega arith), answer_is d u) (plain_rises cal plain c d h);
      }

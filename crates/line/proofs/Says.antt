-- The refusal and the value of a conversion are document 01's. Assumes nothing.
use Prim.Native.Nat.{ℕ}
use Rattle.terms.specs.Refusal.{plain}
use Rattle.terms.specs.Says.{Says}
use Rattle.terms.proofs.Says.{says}
use Rattle.line_record.specs.declared.record.LineRecord.{LineRecord}
use Rattle.line.specs.Convert.{answer_at, convert_refusal, convert_of}

pub convert_says : (r : LineRecord) (raw : ℕ)
    → Says (record { 0 = 0 }) (convert_of r raw) (plain (convert_refusal r raw)) (record { 0 = answer_at r raw })
unfolding convert_of
convert_says r raw = says (record { 0 = 0 }) _ _

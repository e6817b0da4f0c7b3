-- The refusal of a fill is document 01's; what it writes is its only value. Assumes nothing.
use mathlib.Core.Path.{◌≡◌}
use Prim.Native.Nat.{ℕ}
use Rattle.terms.specs.Refusal.{plain, outcome_of, refusal_of}
use Rattle.terms.proofs.Says.{outcome_says}
use Rattle.line_record.specs.declared.record.LineRecord.{LineRecord}
use Rattle.stretch.specs.Fill.{fill_refusal}

pub fill_says : (r : LineRecord) (first n : ℕ) → refusal_of (outcome_of (fill_refusal r first n)) ≡ plain (fill_refusal r first n)
fill_says r first n = outcome_says _

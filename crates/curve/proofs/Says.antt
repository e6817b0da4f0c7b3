-- The refusal and the value of the answer are document 01's. Assumes nothing.
use Prim.Native.Nat.{ℕ}
use Rattle.terms.specs.declared.chip.Chip.{Chip}
use Rattle.terms.specs.declared.quantity.Millivolt.{Millivolt}
use Rattle.terms.specs.Refusal.{plain}
use Rattle.terms.specs.Says.{Says}
use Rattle.terms.proofs.Says.{says}
use Rattle.curve.specs.Table.{table_of}
use Rattle.curves.specs.Curves.{curve_in}
use Rattle.curves.specs.Error.{corrected_of}
use Rattle.curve.specs.Correct.{correct_refusal, correct_of}

-- `correct`
pub correct_says : (chip : Chip) (unit atten : ℕ) (line : Millivolt)
    → Says (record { 0 = 0 })
    (correct_of chip unit atten line) (plain (correct_refusal chip unit atten line))
    (record { 0 = corrected_of (curve_in (table_of chip unit) atten) line.0 })
unfolding correct_of
correct_says chip unit atten line = says _ _ _

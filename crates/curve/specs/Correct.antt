-- Document 01, "S2, C6 and curves": the curve's correction of a line answer, with its refusals "Curve: 7, 14, 13".
-- In esp-hal: `adc_val` of `AdcCalCurve`, calibration/curve.rs.
use Rattle.std.specs.Prelude.{ℕ, ltb, Result}
use Rattle.terms.specs.declared.chip.Chip.{Chip}
use Rattle.terms.specs.declared.quantity.Millivolt.{Millivolt}
use Rattle.terms.specs.declared.refusal.Refusal.{Refusal}
use Rattle.terms.specs.Refusal.{refuse, or_else, answered, unit_refusal}
use Rattle.curves.specs.Curves.{curve_in}
use Rattle.curves.specs.Error.{corrected_of}
use Rattle.curve.specs.Table.{missing, table_of}

-- 7: unit above 1 or attenuation above 3
-- 14: no curve for that chip and unit
-- 13: line answer above 4095 given to the curve
unfoldable pub correct_refusal : Chip → ℕ → ℕ → Millivolt → ℕ
correct_refusal chip unit atten line =
    or_else (unit_refusal unit atten)
    (refuse (missing (table_of chip unit)) 14
    (refuse (ltb 4095 line.0) 13 0))

-- the corrected line answer, or its refusal
unfoldable pub correct_of : Chip → ℕ → ℕ → Millivolt → Result Millivolt Refusal
correct_of chip unit atten line =
    answered (correct_refusal chip unit atten line) (record { 0 = corrected_of (curve_in (table_of chip unit) atten) line.0 })

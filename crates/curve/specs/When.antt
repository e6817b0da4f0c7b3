-- Document 01, "Numbers given when a call is turned down": when the curve gives each number: "Curve: 7, 14, 13".
-- A case says too that nothing before it is given; 0 is given where the call isn't turned down.
use Rattle.std.specs.Prelude.{◌≡◌, true, false, ℕ, ◌≤◌, ◌<◌}
use Rattle.terms.specs.declared.chip.Chip.{Chip}
use Rattle.terms.specs.declared.quantity.Millivolt.{Millivolt}
use Rattle.terms.specs.When.{UnitWhen}
use Rattle.curve.specs.Table.{missing, table_of}

-- 7: "unit above 1 or attenuation above 3"
-- 14: "no curve for that chip and unit"
-- 13: "line answer above 4095 given to the curve"
pub data CorrectWhen (chip : Chip) (unit atten : ℕ) (line : Millivolt) : ℕ → Type 0 where
  correct_unit : UnitWhen unit atten 7 → CorrectWhen chip unit atten line 7
  no_curve : UnitWhen unit atten 0 → missing (table_of chip unit) ≡ true → CorrectWhen chip unit atten line 14
  line_above : UnitWhen unit atten 0 → missing (table_of chip unit) ≡ false → 4095 < line.0 → CorrectWhen chip unit atten line 13
  corrected : UnitWhen unit atten 0 → missing (table_of chip unit) ≡ false → line.0 ≤ 4095 → CorrectWhen chip unit atten line 0

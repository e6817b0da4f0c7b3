-- Document 01, "S2, C6 and curves": which table a chip's unit has. In esp-hal: `curves_coeffs` of `AdcHasCurveCal`,
-- calibration/curve.rs.
use Rattle.std.specs.Prelude.{Bool, true, false, cond, ℕ, eqb}
use Rattle.std.proofs.Math.Option.{Option, none, some}
use Rattle.terms.specs.declared.chip.Chip.{Chip}
use Rattle.terms.specs.declared.chip.Chip.TheVariants.{Esp32, S2, C3, C5, C6, C61, H2, P4, S3}
use Rattle.terms.specs.C6Version.{version_of}
use Rattle.curves.specs.Curves.{Table}
use Rattle.curves.specs.Curves.{c3_coeffs1, c5_coeffs1, c6_coeffs1, c61_coeffs1, c6_coeffs1_v2, h2_coeffs1, p4_coeffs1, p4_coeffs2, s3_coeffs1, s3_coeffs2}

-- "ESP32 and S2 have no curve. A C6 takes its second table if its version by the rule above is 2, else its first"
abbrev pub unit0_table : Chip → Option Table
unit0_table Esp32 = none
unit0_table S2 = none
unit0_table C3 = some c3_coeffs1
unit0_table C5 = some c5_coeffs1
unit0_table (C6 minor) = some (cond (eqb (version_of minor) 2) c6_coeffs1_v2 c6_coeffs1)
unit0_table C61 = some c61_coeffs1
unit0_table H2 = some h2_coeffs1
unit0_table P4 = some p4_coeffs1
unit0_table S3 = some s3_coeffs1

-- "Unit 1 exists for C3 (unit 0's table), P4 and S3"
abbrev pub unit1_table : Chip → Option Table
unit1_table Esp32 = none
unit1_table S2 = none
unit1_table C3 = some c3_coeffs1
unit1_table C5 = none
unit1_table (C6 minor) = none
unit1_table C61 = none
unit1_table H2 = none
unit1_table P4 = some p4_coeffs2
unit1_table S3 = some s3_coeffs2

unfoldable pub table_of : Chip → ℕ → Option Table
table_of chip unit = cond (eqb unit 0) (unit0_table chip) (unit1_table chip)

-- whether there is a table
abbrev pub missing : Option Table → Bool
missing none = true
missing (some t) = false

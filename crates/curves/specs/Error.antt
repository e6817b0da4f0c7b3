-- Document 01, "S2, C6 and curves": the error of a line answer by a curve, and the line answer less it.
-- In esp-hal: `adc_val` of `AdcCalCurve`, calibration/curve.rs.
use Rattle.std.specs.Prelude.{◌&&◌, ◌||◌, cond, List, [], ◌∷◌, map, ℕ, ◌^◌, leb, eqb, ℤ, pos, nat_abs, ◌+ℤ◌, ◌-ℤ◌, ◌*ℤ◌, length}
use Rattle.std.specs.Int.Signed.{quot_z}
use Rattle.curves.specs.Decimal.{Decimal, coefficient}
use Rattle.curves.specs.Curves.{curve_in}
use Rattle.curves.specs.Curves.{numbered}

-- the error polynomial by Horner's rule, as esp-hal has it: from the last coefficient to the first, `poly = poly * val + coeff`
unfoldable pub horner : List ℤ → ℕ → ℤ
horner [] v = pos 0
horner (c ∷ cs) v = horner cs v *ℤ pos v +ℤ c

-- "division by 2^52 cuts toward zero; a line answer of 0 or an empty table means error 0"
unfoldable pub error_of : List Decimal → ℕ → ℤ
error_of curve line =
    cond (eqb line 0 || eqb (length curve) 0) (pos 0)
    (quot_z (horner (map coefficient curve) line) (pos (2 ^ 52)))

-- the line answer less its error. That is never negative, so that its size is all of it: curve's `Corrections.nothing_lost`
unfoldable pub corrected_of : List Decimal → ℕ → ℕ
corrected_of curve line = nat_abs (pos line -ℤ error_of curve line)

-- the same by a table's number, for line answers up to 4095; 0 for whatever a caller refuses before
unfoldable pub less_error_of : ℕ → ℕ → ℕ → ℕ
less_error_of table atten v =
    cond (leb table 9 && (leb atten 3 && leb v 4095))
    (corrected_of (curve_in (numbered table) atten) v)
    0

-- Document 01, "S2, C6 and curves": "Nothing overflows up to 4095 and the answer fits 16 bits; both are to be proved".
use Rattle.std.specs.Prelude.{◌≡◌, List, map, ℕ, suc, ◌<◌, ◌^◌, ℤ, pos, ◌-ℤ◌, ◌*ℤ◌, length, drop}
use Rattle.std.specs.Int.{w64}
use Rattle.std.proofs.Common.{SFits}
use Rattle.curves.specs.Decimal.{Decimal, coefficient}
use Rattle.curves.specs.Error.{horner, error_of, corrected_of}

-- "Horner in 64 bits": of each step the product and the sum fit 64 bits with sign
abbrev pub Steps : List ℤ → ℕ → Type 0
Steps cs v = (i : ℕ) → i < length cs → SFits w64 (horner (drop (suc i) cs) v *ℤ pos v) × SFits w64 (horner (drop i cs) v)

-- of a curve and a line answer; at 0 no polynomial is worked out
pub record NothingLost (curve : List Decimal) (line : ℕ) : Type 0 where
  pub steps : 0 < line → Steps (map coefficient curve) line
  -- the line answer less its error isn't negative, so that it is the answer
  pub whole : pos (corrected_of curve line) ≡ pos line -ℤ error_of curve line
  pub small : corrected_of curve line < 2 ^ 16

-- Document 01, "S2, C6 and curves": a coefficient "is its decimal's nearest double (ties to even) times 2^52, cut toward zero, stated
-- over whole numbers". In esp-hal: `($val as f64 * COEFF_MUL as f64) as CurveCoeff` of calibration/curve.rs.
use Rattle.std.specs.Prelude.{cond, ℕ, zero, suc, ◌+◌, ◌*◌, ◌/◌, ◌%◌, ◌^◌, leb, ltb, ℤ, pos, neg_ℤ}

-- a decimal, by its digits and how many of them are places: `minus 225966470500043 15` is -0.225966470500043
pub data Decimal : Type 0 where
  plus : ℕ → ℕ → Decimal
  minus : ℕ → ℕ → Decimal

-- the whole number nearest to n / d, "ties to even"
unfoldable pub nearest : ℕ → ℕ → ℕ
nearest n d =
    cond (ltb (2 * (n % d)) d) (n / d)
    (cond (ltb d (2 * (n % d))) (n / d + 1)
    (n / d + n / d % 2))

-- a double has 53 bits: it is q / 2^e, with q from 2^52 to 2^53. For n / d, below 2^53, this e is the number of doublings that bring
-- it to 2^52; no more than `most` are tried
unfoldable pub doublings : ℕ → ℕ → ℕ → ℕ
doublings zero n d = 0
doublings (suc most) n d = cond (leb (2 ^ 52 * d) n) 0 (suc (doublings most (2 * n) d))

-- with that e: the "nearest double", which is q / 2^e, "times 2^52, cut"
unfoldable pub scaled : ℕ → ℕ → ℕ → ℕ
scaled n d e = nearest (n * 2 ^ e) d * 2 ^ 52 / 2 ^ e

unfoldable pub magnitude : ℕ → ℕ → ℕ
magnitude n d = scaled n d (doublings 128 n d)

unfoldable pub coefficient : Decimal → ℤ
coefficient (plus digits places) = pos (magnitude digits (10 ^ places))
coefficient (minus digits places) = neg_ℤ (pos (magnitude digits (10 ^ places)))

-- Document 01, "S2, C6 and curves": "Each is its decimal's nearest double (ties to even) times 2^52, cut toward zero, stated over whole
-- numbers and proved once for all". What that means of one decimal.
use Rattle.std.specs.Prelude.{◌≡◌, ℕ, ◌+◌, ◌*◌, ◌/◌, ◌%◌, ◌^◌, ◌≤◌, ◌<◌, ℤ, pos, neg_ℤ}
use Rattle.curves.specs.Decimal.{Decimal, plus, minus, nearest, doublings, coefficient}

-- q is within a half of n / d, and even where it is a half away
pub record Nearest (n d q : ℕ) : Type 0 where
  pub not_low : 2 * n ≤ 2 * (d * q) + d
  pub not_high : 2 * (d * q) ≤ 2 * n + d
  pub even_low : 2 * n ≡ 2 * (d * q) + d → q % 2 ≡ 0
  pub even_high : 2 * (d * q) ≡ 2 * n + d → q % 2 ≡ 0

-- the size of a decimal is digits / tens, and its double's is doubled / 2 ^ power
abbrev pub digits : Decimal → ℕ
digits (plus n places) = n
digits (minus n places) = n

abbrev pub tens : Decimal → ℕ
tens (plus n places) = 10 ^ places
tens (minus n places) = 10 ^ places

abbrev pub power : Decimal → ℕ
power x = doublings 128 (digits x) (tens x)

abbrev pub doubled : Decimal → ℕ
doubled x = nearest (digits x * 2 ^ power x) (tens x)

-- a size with the decimal's sign
abbrev pub signed : Decimal → ℕ → ℤ
signed (plus n places) size = pos size
signed (minus n places) size = neg_ℤ (pos size)

-- a coefficient and its decimal: the double has 53 bits, is the nearest to the decimal, even at a tie, and is cut
pub record FromDouble (x : Decimal) : Type 0 where
  pub bits : (2 ^ 52 ≤ doubled x) × (doubled x < 2 ^ 53)
  pub double : Nearest (digits x * 2 ^ power x) (tens x) (doubled x)
  pub cut : coefficient x ≡ signed x (doubled x * 2 ^ 52 / 2 ^ power x)

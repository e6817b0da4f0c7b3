-- Document 01, "What must change shape": "Coefficient slices of unequal length become one flat table with starts and lengths". This is
-- that table as the decimals make it, for the private functions that read it; no public promise goes by it.
use Rattle.std.specs.Prelude.{Bool, ◌&&◌, List, [], map, ℕ, eqb, ltb, ℤ, length, get_or, take}
use Rattle.std.specs.List.{flat_map}
use Rattle.curves.specs.Decimal.{Decimal, coefficient}
use Rattle.curves.specs.Curves.{by_atten, tables}

-- the curves of all tables: that of table t at attenuation a is curve 4 t + a
unfoldable pub curves : List (List Decimal)
curves = flat_map by_atten tables

unfoldable pub curve_of : ℕ → List ℤ
curve_of k = map coefficient (get_or curves k [])

-- curves' decimals, one curve after the other
abbrev pub joined : List (List Decimal) → List Decimal
joined cs = flat_map (λ c. c) cs

unfoldable pub decimals : List Decimal
decimals = joined curves

-- and their coefficients
unfoldable pub flat : List ℤ
flat = map coefficient decimals

-- whether curve k is one of the forty, begins at `start` among them and has `len`
abbrev pub is_part : ℕ → ℕ → ℕ → Bool
is_part k start len = ltb k 40 && (eqb start (length (joined (take k curves))) && eqb len (length (get_or curves k [])))

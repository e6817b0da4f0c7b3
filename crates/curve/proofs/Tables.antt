-- Each chip's table, where it has one, is one of the ten. Assumes nothing.
use mathlib.Core.Path.{◌≡◌, refl}
use mathlib.Core.Bool.{Bool, true, false, cond}
use mathlib.Core.List.{List, [], ◌∷◌, map}
use mathlib.Core.Option.{Option, none, some}
use Prim.Native.Nat.{ℕ, zero, suc, ◌≤◌, ◌<◌}
use native.Mathlib.Omega.{arith}
use lib.Dec.{eqb}
use lib.ListN.{length, get_or}
use Rattle.terms.specs.declared.chip.Chip.{Chip}
use Rattle.terms.specs.declared.chip.Chip.TheVariants.{Esp32, S2, C3, C5, C6, C61, H2, P4, S3}
use Rattle.terms.proofs.Order.{either}
use Rattle.terms.specs.C6Version.{version_of}
use Rattle.curves.specs.Curves.{Table, c6_coeffs1, c6_coeffs1_v2}
use Rattle.curve.specs.Table.{unit0_table, unit1_table, table_of, missing}
use Rattle.curves.specs.Curves.{tables, numbered}

some_before : (ts : List Table) (t : ℕ) → t < length ts → missing (get_or (map some ts) t none) ≡ false
some_before [] t h = absurd (omega arith)
some_before (x ∷ ts) zero h = refl
some_before (x ∷ ts) (suc t) h = some_before ts t (omega arith)

none_after : (ts : List Table) (t : ℕ) → length ts ≤ t → missing (get_or (map some ts) t none) ≡ true
none_after [] t h = refl
none_after (x ∷ ts) zero h = absurd (omega arith)
none_after (x ∷ ts) (suc t) h = none_after ts t (omega arith)

pub numbered_some : (t : ℕ) → t < 10 → missing (numbered t) ≡ false
numbered_some t h = some_before tables t h

pub numbered_none : (t : ℕ) → 10 ≤ t → missing (numbered t) ≡ true
numbered_none t h = none_after tables t h

-- a table has a number
abbrev pub Number : Option Table → Type 0
Number o = (t : ℕ) × (numbered t ≡ o)

c6_number : (second : Bool) → Number (some (cond second c6_coeffs1_v2 c6_coeffs1))
c6_number true = (4, refl)
c6_number false = (2, refl)

unit0_number : (chip : Chip) → Number (unit0_table chip)
unit0_number Esp32 = (10, refl)
unit0_number S2 = (10, refl)
unit0_number C3 = (0, refl)
unit0_number C5 = (1, refl)
unit0_number (C6 minor) = c6_number (eqb (version_of minor) 2)
unit0_number C61 = (3, refl)
unit0_number H2 = (5, refl)
unit0_number P4 = (6, refl)
unit0_number S3 = (8, refl)

unit1_number : (chip : Chip) → Number (unit1_table chip)
unit1_number Esp32 = (10, refl)
unit1_number S2 = (10, refl)
unit1_number C3 = (0, refl)
unit1_number C5 = (10, refl)
unit1_number (C6 minor) = (10, refl)
unit1_number C61 = (10, refl)
unit1_number H2 = (10, refl)
unit1_number P4 = (7, refl)
unit1_number S3 = (9, refl)

pub table_number : (chip : Chip) (unit : ℕ) → Number (table_of chip unit)
unfolding table_of
table_number chip unit = of (eqb unit 0)
  where
    of : (first : Bool) → Number (cond first (unit0_table chip) (unit1_table chip))
    of true = unit0_number chip
    of false = unit1_number chip

pub number_below : (t : ℕ) → missing (numbered t) ≡ false → t < 10
number_below t found =
    either 10 t
    (λ past. let e = numbered_none t past in let z : ◌≡◌ {A = ℕ} 0 1 = cc in absurd (omega arith))
    (λ h. h)

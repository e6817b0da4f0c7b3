-- The flat table's layout: curve 4 t + a is that of table t at attenuation a, and a curve's part of the table has its coefficients.
-- Assumes nothing.
use mathlib.Core.Path.{◌≡◌, refl, ◌∙◌, ap}
use mathlib.Core.Bool.{true}
use mathlib.Core.List.{List, [], ◌∷◌, map}
use mathlib.Core.Option.{none, some}
use Prim.Native.Nat.{ℕ, zero, suc, ◌+◌, ◌-◌, ◌*◌, ◌≤◌, ◌<◌}
use native.Mathlib.Nat.{zero-add}
use native.Mathlib.Omega.{arith}
use lib.IntN.{ℤ}
use lib.ListN.{length, get_or, take, drop, get_or-append, length-append}
use lib.Seq.{get_or-append-add}
use borrow.Author.Tests.{ltb-true, eqb-true}
use Rattle.std.proofs.Math.Seq.{take-append_seam, drop-append-add}
use Rattle.std.proofs.lemmas.List.{take-map, drop-map}
use Rattle.terms.proofs.Refusals.{and_true}
use Rattle.curves.specs.Decimal.{Decimal, coefficient}
use Rattle.curves.specs.Curves.{Table, by_atten, curve_in, tables, numbered}
use Rattle.curves.specs.Flat.{curves, curve_of, joined, decimals, flat, is_part}
use Rattle.std.specs.List.{flat_map}

-- four curves a table
by_fours : (ts : List Table) (t a : ℕ) → a < 4 → get_or (flat_map by_atten ts) (4 * t + a) [] ≡ curve_in (get_or (map some ts) t none) a
by_fours [] t a h = refl
by_fours (x ∷ ts) zero a h = rw zero-add (get_or-append (by_atten x) (flat_map by_atten ts) [] a h)
by_fours (x ∷ ts) (suc t) a h =
    let next : 4 * suc t + a ≡ 4 + (4 * t + a) = omega arith in
    rw next (get_or-append-add (by_atten x) (flat_map by_atten ts) (4 * t + a) [] ∙ by_fours ts t a h)

pub curve_lem : (t a : ℕ) → a < 4 → get_or curves (4 * t + a) [] ≡ curve_in (numbered t) a
unfolding curves
curve_lem t a h = by_fours tables t a h

pub curve_of_lem : (t a : ℕ) → a < 4 → curve_of (4 * t + a) ≡ map coefficient (curve_in (numbered t) a)
unfolding curve_of
curve_of_lem t a h = ap (map coefficient) (curve_lem t a h)

-- curve k among all, laid end to end
abbrev start_of : List (List Decimal) → ℕ → ℕ
start_of cs k = length (joined (take k cs))

within : (cs : List (List Decimal)) (k : ℕ) → k < length cs → start_of cs k + length (get_or cs k []) ≤ length (joined cs)
within [] k h = absurd (omega arith)
within (c ∷ cs) zero h = omega (arith, length-append c (joined cs))
within (c ∷ cs) (suc k) h =
    omega (arith, length-append c (joined cs), length-append c (joined (take k cs)), within cs k (omega arith))

here : (cs : List (List Decimal)) (k : ℕ) → k < length cs → take (length (get_or cs k [])) (drop (start_of cs k) (joined cs)) ≡ get_or cs k []
here [] k h = absurd (omega arith)
here (c ∷ cs) zero h = take-append_seam c (joined cs)
here (c ∷ cs) (suc k) h =
    rw (length-append c (joined (take k cs)), drop-append-add c (joined cs) (start_of cs k))
    (here cs k (omega arith))

all_curves : length curves ≡ 40
unfolding curves
all_curves = refl

all_decimals : length (joined curves) ≡ 109
unfolding curves
all_decimals = refl

pub all_coefficients : length flat ≡ 109
unfolding flat decimals curves
all_coefficients = refl

-- what `is_part` says, of the flat table as the code has it
pub record Part (k start len : ℕ) (table : List ℤ) : Type 0 where
  pub known : k < 40
  pub inside : start + len ≤ 109
  pub all : length table ≡ 109
  pub is : take (start + len - start) (drop start table) ≡ curve_of k

pub part : (k start len : ℕ) (table : List ℤ) → is_part k start len ≡ true → table ≡ flat → Part k start len table
unfolding flat decimals curve_of
part k start len table t e =
    let both = and_true _ _ t in
    let places = and_true _ _ both.1 in
    let known : k < 40 = ltb-true _ _ both.0 in
    let from : start ≡ start_of curves k = eqb-true _ _ places.0 in
    let many : len ≡ length (get_or curves k []) = eqb-true _ _ places.1 in
    let few : k < length curves = omega (arith, all_curves) in
    let counted : start + len - start ≡ len = omega arith in
    record {
      known = known;
      inside = omega (arith, within curves k few, all_decimals);
      all = rw e all_coefficients;
      is = rw (counted, e, from, many, drop-map, take-map) (ap (map coefficient) (here curves k few));
    }

-- The error and the answer, from the polynomial's bounds: nothing overflows, the answer isn't negative and it fits 16 bits, so that no
-- cast loses anything. Assumes nothing.
use mathlib.Core.Path.{◌≡◌, refl, sym, ◌∙◌, ap}
use mathlib.Core.List.{List, [], ◌∷◌, map}
use Prim.Native.Nat.{ℕ, zero, suc, ◌+◌, ◌*◌, ◌/◌, ◌≤◌, ◌<◌, ◌^◌}
use native.Mathlib.Omega.{arith}
use lib.IntN.{ℤ, pos, negsuc, neg_ℤ, nat_abs, ◌-ℤ◌}
use lib.ListN.{length, get_or}
use lib.Signed.{quot_z}
use mir.Syntax.{w64}
use mir.Val.{SFits}
use borrow.Author.Tests.{ne_eqb, le-leb}
use Rattle.terms.proofs.Whole.{up, dn, sum_is, up_neg, dn_neg, up_quot, dn_quot, not_negative, fits_by}
use Rattle.curves.specs.Decimal.{Decimal, coefficient}
use Rattle.curves.specs.Curves.{curve_in}
use Rattle.curves.specs.Error.{horner, error_of, corrected_of, less_error_of}
use Rattle.curves.specs.Curves.{numbered}
use Rattle.curves.specs.Flat.{curves, curve_of}
use Rattle.curves.specs.NothingLost.{Steps}
use Rattle.curves.proofs.Parts.{curve_lem, curve_of_lem}
use Rattle.curves.proofs.Sound.{curves_sound}

-- the error of a line answer of 0, and of any other: an empty table's polynomial is 0
pub error_zero : (curve : List Decimal) → error_of curve 0 ≡ pos 0
unfolding error_of
error_zero curve = refl

error_quot : (curve : List Decimal) (v : ℕ) → (v ≡ 0 → ⊥)
    → error_of curve v ≡ quot_z (horner (map coefficient curve) v) (pos (2 ^ 52))
unfolding error_of horner
error_quot [] v h = rw (ne_eqb v 0 h)
error_quot (d ∷ ds) v h = rw (ne_eqb v 0 h, ne_eqb (length (d ∷ ds)) 0 (λ e. omega arith))

-- an error that is taken off a line answer without loss: what is left isn't negative and fits 16 bits
pub record Exact (v : ℕ) (error : ℤ) : Type 0 where
  pub fits : SFits w64 error
  pub left_fits : SFits w64 (pos v -ℤ error)
  pub whole : pos v -ℤ error ≡ pos (nat_abs (pos v -ℤ error))
  pub small : nat_abs (pos v -ℤ error) < 2 ^ 16

exact : (v : ℕ) (e : ℤ) → v ≤ 4095 → up e ≤ v → dn e ≤ 2 ^ 11 → Exact v e
exact v e most above below =
    let z : ℤ = pos v -ℤ e in
    let is = sum_is (pos v) (neg_ℤ e) in
    let same : z ≡ pos (up z) = not_negative z (omega (arith, is, up_neg e, dn_neg e)) in
    let size : nat_abs z ≡ up z = ap nat_abs same in
    let small : up z < 2 ^ 16 = omega (arith, is, up_neg e, dn_neg e, ap dn same) in
    record {
      fits = fits_by w64 e (omega arith) (omega arith);
      left_fits = fits_by w64 z (omega arith) (omega (arith, ap dn same));
      whole = same ∙ ap pos (sym size);
      small = omega arith;
    }

-- the sizes of a quotient by 2^52
up_bound : (v : ℕ) (p : ℤ) → up p < dn p + (v + 1) * 2 ^ 52 → up p / 2 ^ 52 ≤ v
up_bound v (pos n) h = omega arith
up_bound v (negsuc n) h = omega arith

dn_bound : (p : ℤ) → SFits w64 p → dn p / 2 ^ 52 ≤ 2 ^ 11
dn_bound (pos n) f = omega arith
dn_bound (negsuc n) f = omega (arith, f.sfits)

exact_quot : (v : ℕ) (p : ℤ) → v ≤ 4095 → SFits w64 p → up p < dn p + (v + 1) * 2 ^ 52 → Exact v (quot_z p (pos (2 ^ 52)))
exact_quot v p most f h =
    exact v _ most
    (omega (arith, up_quot p (2 ^ 52), up_bound v p h))
    (omega (arith, dn_quot p (2 ^ 52), dn_bound p f))

-- the polynomial of any curve
poly_fits : (cs : List ℤ) (v : ℕ) → Steps cs v → SFits w64 (horner cs v)
unfolding horner
poly_fits [] v steps = record { sfits = omega arith }
poly_fits (c ∷ cs) v steps = (steps 0 (omega arith)).1

-- a curve: its polynomial, which the code works out, and its error
module _ (k : ℕ) (known : k < 40) where
  pub error_by : (v : ℕ) {p : ℤ} → (v ≡ 0 → ⊥) → p ≡ horner (curve_of k) v → quot_z p (pos (2 ^ 52)) ≡ error_of (get_or curves k []) v
  unfolding curve_of
  error_by v some is = rw is (sym (error_quot (get_or curves k []) v some))

  pub exact_by : (v : ℕ) → v ≤ 4095 → Exact v (error_of (get_or curves k []) v)
  exact_by zero most = rw (error_zero (get_or curves k [])) (exact 0 (pos 0) (omega arith) (omega arith) (omega arith))
  exact_by (suc n) most =
      let cs : List ℤ = curve_of k in
      let sound = curves_sound k known in
      rw (← error_by (suc n) {p = horner cs (suc n)} (λ e. omega arith) refl)
      (exact_quot (suc n) (horner cs (suc n)) most
      (poly_fits cs (suc n) (sound.0 (suc n) (omega arith) most))
      (sound.1 (suc n) (omega arith) most))

-- the same of a table's curve at an attenuation
module _ (table atten : ℕ) (known : table < 10) (inside : atten ≤ 3) where
  abbrev curve : List Decimal
  curve = curve_in (numbered table) atten

  pub curve_steps : (v : ℕ) → 0 < v → v ≤ 4095 → Steps (map coefficient curve) v
  curve_steps v some most = rw (← curve_of_lem table atten (omega arith)) ((curves_sound (4 * table + atten) (omega arith)).0 v some most)

  pub error_exact : (v : ℕ) → v ≤ 4095 → Exact v (error_of curve v)
  error_exact v most = rw (← curve_lem table atten (omega arith)) (exact_by (4 * table + atten) (omega arith) v most)

-- for a caller that has checked its input
pub less_error_in : (table atten v : ℕ) → table ≤ 9 → atten ≤ 3 → v ≤ 4095
    → less_error_of table atten v ≡ corrected_of (curve_in (numbered table) atten) v
unfolding less_error_of
less_error_in table atten v t a h = simp (le-leb _ _ t, le-leb _ _ a, le-leb _ _ h)

-- and for the call itself, which goes by the curve's number
pub less_error_by : (table atten v : ℕ) → table ≤ 9 → atten ≤ 3 → v ≤ 4095
    → less_error_of table atten v ≡ corrected_of (get_or curves (4 * table + atten) []) v
less_error_by table atten v t a h = rw (curve_lem table atten (omega arith)) (less_error_in table atten v t a h)

-- Laws of the line by Vref: the tables' entries and the largest of them, that its a and b are inside a record's ranges, and when a line is
-- the one that Vref gives. Assumes nothing.
use mathlib.Core.Path.{◌≡◌, refl, sym}
use mathlib.Core.Bool.{Bool, true, false, ◌&&◌}
use Prim.Native.Nat.{ℕ, ◌+◌, ◌*◌, ◌%◌, ◌≤◌}
use native.Mathlib.Nat.{div-le_of_le-mul, mul-le-mul}
use native.Mathlib.Omega.{arith}
use lib.Dec.{leb, eqb}
use borrow.Author.Tests.{leb-true, le-leb}
use Rattle.terms.specs.Refusal.{unit_refusal}
use Rattle.terms.proofs.Refusals.{and_true, by_number_good, unit_good}
use Rattle.terms.proofs.Units.{unit_most, entry_at_lem}
use Rattle.vref.specs.Coefficients.{adc1_vref_scale, adc2_vref_scale, adc1_vref_offset, adc2_vref_offset, vref_scale, vref_offset, vref_line}
use Rattle.vref.specs.Coefficients.{coefficients_for, is_vref_line}
use Rattle.vref.specs.Private.{packed_of}

module _ (unit atten : ℕ) where
  -- the largest entries, of either unit at any attenuation
  pub vref_most : (vref_scale unit atten ≤ 197170) × (vref_offset unit atten ≤ 142)
  unfolding vref_scale vref_offset
  vref_most = (unit_most unit atten _ _ _ tt tt, unit_most unit atten _ _ _ tt tt)

  -- the entry at unit × 4 + attenuation is both of its numbers
  pub packed_is : unit ≤ 1 → atten ≤ 3 → packed_of ((4 * unit + atten) % 8) ≡ vref_offset unit atten * 4294967296 + vref_scale unit atten
  unfolding vref_scale vref_offset
  packed_is u h =
      let at : (4 * unit + atten) % 8 ≡ 4 * unit + atten = omega arith in
      rw (at, entry_at_lem 4 adc1_vref_scale adc2_vref_scale refl unit atten u (omega arith), entry_at_lem 4 adc1_vref_offset adc2_vref_offset refl unit atten u (omega arith))

  module _ (vref : ℕ) where
    -- a and b are inside a record's ranges
    pub vref_ranges : vref ≤ 1205 → ((vref_line unit atten vref).a ≤ 131071) × ((vref_line unit atten vref).b ≤ 4095)
    vref_ranges v =
        let most = vref_most in
        (div-le_of_le-mul 4096 (omega (arith, mul-le-mul v most.0)), omega arith)

    -- for a unit and an attenuation that there are it is the line
    line_good : unit_refusal unit atten ≡ 0 → vref_line unit atten vref ≡ coefficients_for unit atten vref
    unfolding coefficients_for
    line_good e = sym (by_number_good _ _ _ e)

    pub line_is : unit ≤ 1 → atten ≤ 3 → coefficients_for unit atten vref ≡ vref_line unit atten vref
    line_is u h = sym (line_good (unit_good unit atten u h))

    -- by a Vref of its code a product is small
    pub product_small : vref ≤ 1205 → vref * vref_scale unit atten ≤ 1205 * 197170
    product_small v = mul-le-mul v vref_most.0

    -- whether a line is Vref's: where there is such a unit, attenuation and Vref, by a and b alone
    abbrev there : Bool
    there = leb unit 1 && leb atten 3 && leb vref 1205

    pub there_is : there ≡ true → (unit ≤ 1) × (atten ≤ 3) × (vref ≤ 1205)
    there_is e =
        let p = and_true (leb unit 1 && leb atten 3) (leb vref 1205) e in
        let q = and_true (leb unit 1) (leb atten 3) p.0 in
        (leb-true _ _ q.0, leb-true _ _ q.1, leb-true _ _ p.1)

    pub there_test : unit ≤ 1 → atten ≤ 3 → vref ≤ 1205 → there ≡ true
    there_test u h v = simp (le-leb _ _ u, le-leb _ _ h, le-leb _ _ v)

    module _ (a b : ℕ) where
      pub by_line : there ≡ true
          → is_vref_line unit atten vref a b ≡ eqb a (vref_line unit atten vref).a && eqb b (vref_line unit atten vref).b
      unfolding is_vref_line
      by_line e = rw e

      pub no_line : there ≡ false → is_vref_line unit atten vref a b ≡ false
      unfolding is_vref_line
      no_line e = rw e

-- Signed numbers as the machine has them, in their bits: what an operation on two of them gives back, what a code in sign and
-- magnitude is, and a cast to an unsigned width. Assumes nothing.
use mathlib.Core.Path.{◌≡◌, sym, ◌∙◌}
use Prim.Native.Nat.{ℕ, ◌*◌, ◌-◌, ◌%◌, ◌^◌, ◌≤◌, ◌<◌, min}
use native.Mathlib.Nat.{one-mul, lt_of_lt_of_le}
use native.Mathlib.Omega.{arith}
use lib.Dec.{T}
use lib.IntN.{ℤ, pos, nat_abs, neg_ℤ, ◌-ℤ◌, +ℤ_idl}
use lib.Pow.{pow_mono, shl_exact}
use lib.Signed.{non_neg}
use mir.Syntax.{Width, w16, w32}
use mir.Val.{SFits, Fits, bits, to_z, of_z}
use mir.ValLaws.{to_z-of_z, to_z_pos}
use Rattle.terms.specs.Sign.{sign_magnitude}
use Rattle.terms.proofs.Order.{either}
use Rattle.terms.proofs.Sign.{sign_plus, sign_minus}
use Rattle.terms.proofs.Whole.{up_neg, dn_neg, fits_by}

-- a sum, a difference or a product of two numbers, where it fits
module _ (w : Width) (op : ℤ → ℤ → ℤ) {m n x y : ℤ} (a : m ≡ x) (b : n ≡ y) (fits : SFits w (op x y)) where
  pub op_fits : SFits w (op m n)
  op_fits = rw (a, b) fits

  pub op_back : to_z w (of_z w (op m n)) ≡ op x y
  op_back = to_z-of_z w _ op_fits ∙ (λ i. op (a i) (b i))

-- a number that isn't negative, cast to an unsigned width that holds it
pub cast_fits : (w : Width) (z : ℤ) (n : ℕ) → z ≡ pos n → n < 2 ^ bits w → T (non_neg z) × Fits w (nat_abs z)
cast_fits w z n e h = rw e (tt, record { fits = h })

-- a number of 16 bits, cast to 32
module _ (z : ℤ) (h : SFits w16 z) where
  pub wider_fits : SFits w32 (to_z w16 (of_z w16 z))
  wider_fits = rw (to_z-of_z w16 z h) (record { sfits = omega (arith, h.sfits) })

  pub wider_back : to_z w32 (of_z w32 (to_z w16 (of_z w16 z))) ≡ z
  wider_back = to_z-of_z w32 _ wider_fits ∙ to_z-of_z w16 z h

-- one, shifted by less than the width; in 32 bits
pub one_shifted_in : (width s : ℕ) → s < width → (1 * 2 ^ s) % 2 ^ width ≡ 2 ^ s
one_shifted_in width s h = shl_exact 1 s width (omega arith) (omega arith) ∙ one-mul _

pub one_shifted : (s : ℕ) → s ≤ 31 → (1 * 2 ^ s) % 2 ^ 32 ≡ 2 ^ s
one_shifted s h = one_shifted_in 32 s (omega arith)

-- what 31 bits hold, negated
module _ (m : ℕ) (less : m < 2 ^ 31) where
  minus : SFits w32 (pos 0 -ℤ pos m)
  minus = rw +ℤ_idl (fits_by w32 (neg_ℤ (pos m)) (omega (arith, up_neg (pos m))) (omega (arith, dn_neg (pos m))))

  pub neg_fits : SFits w32 (pos 0 -ℤ to_z w32 m)
  neg_fits = rw (to_z_pos w32 m less) minus

  pub neg_back : to_z w32 (of_z w32 (pos 0 -ℤ to_z w32 m)) ≡ neg_ℤ (pos m)
  neg_back = to_z-of_z w32 _ neg_fits ∙ rw (to_z_pos w32 m less) (+ℤ_idl (neg_ℤ (pos m)))

-- a code of up to 31 bits in sign and magnitude, by the place of its sign, which is no higher than what no code has
module _ (most width code : ℕ) (few : most ≤ 31) (fits : code < 2 ^ most) {place : ℕ} (at : place ≡ min (width - 1) most)
    {sign : ℕ} (e : sign ≡ 2 ^ place) where
  small : code < 2 ^ 31
  small = lt_of_lt_of_le fits (pow_mono few)

  pub plus_back : code < sign → to_z w32 code ≡ sign_magnitude width code
  plus_back h =
      let below : 2 ^ place ≤ 2 ^ (width - 1) = pow_mono (omega arith) in
      to_z_pos w32 code small ∙ sym (sign_plus width code (omega arith))

  pub minus_back : sign ≤ code → to_z w32 (of_z w32 (pos 0 -ℤ to_z w32 (code - sign))) ≡ sign_magnitude width code
  minus_back h =
      neg_back (code - sign) (omega (arith, small))
      ∙ either most (width - 1)
      (λ past.
      let last : place ≡ most = omega arith in
      let high : sign ≡ 2 ^ most = rw last at e in absurd (omega arith))
      (λ near.
      let own : place ≡ width - 1 = omega arith in
      let top : sign ≡ 2 ^ (width - 1) = rw own at e in
      rw top (sym (sign_minus width code (rw top at h))))

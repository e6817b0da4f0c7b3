-- Laws of the signed codes: a base with steps of a code added isn't negative, so that it has the code's two cases and its range;
-- of a unit's two points, the high one is at least 1713 above the low one. Assumes nothing.
use Rattle.std.proofs.Common.{◌≡◌, ℕ, ◌+◌, ◌-◌, ◌*◌, ◌%◌, ◌^◌, ◌<◌, ◌≤◌, Bool, true, false, cond, eqb, ℤ, pos, ◌+ℤ◌, ◌*ℤ◌, neg_ℤ, nat_abs, sym, refl, ap, ◌∙◌, mod-lt, mul_comm, arith, lit≤, pow_pos, pow_mono, le-ltb, lt-ltb}
use lib.IntN.{*ℤ_comm}
use Rattle.terms.specs.Sign.{sign_magnitude}
use Rattle.terms.proofs.Order.{either}
use Rattle.terms.proofs.Sign.{sign_plus, sign_minus, sign_fits}
use Rattle.terms.proofs.Whole.{up, dn, sum_is, up_neg, dn_neg, up_times, dn_times, not_negative}
use Rattle.esp32.specs.Code.{stepped, vref_of, wrapped, two_point_code, point_of, low_of, high_of}
use Rattle.esp32.specs.Private.{Coded, Apart}

-- base + step × code, where it isn't negative
module _ (base step : ℕ) (code : ℤ) (room : step * dn code ≤ base) where
  stepped_is : pos base +ℤ pos step *ℤ code ≡ pos (base + step * up code - step * dn code)
  stepped_is =
      let steps : ℤ = pos step *ℤ code in
      let sum : ℤ = pos base +ℤ steps in
      let u : up steps ≡ step * up code = ap up (*ℤ_comm (pos step) code) ∙ up_times code step ∙ mul_comm (up code) step in
      let d : dn steps ≡ step * dn code = ap dn (*ℤ_comm (pos step) code) ∙ dn_times code step ∙ mul_comm (dn code) step in
      let s : up sum + dn steps ≡ base + up steps + dn sum = omega (arith, sum_is (pos base) steps) in
      let whole : sum ≡ pos (up sum) = not_negative sum (omega arith) in
      whole ∙ ap pos (omega (arith, ap dn whole))

  -- no sign is lost
  pub stepped_whole : pos (stepped base step code) ≡ pos base +ℤ pos step *ℤ code
  stepped_whole = ap (λ (z : ℤ). pos (nat_abs z)) stepped_is ∙ sym stepped_is

  pub stepped_natural : stepped base step code ≡ base + step * up code - step * dn code
  stepped_natural = ap nat_abs stepped_is

-- its case of a negative code
stepped_minus : (base step n : ℕ) → step * n ≤ base → base - step * n ≡ stepped base step (neg_ℤ (pos n))
stepped_minus base step n h =
    let u : up (neg_ℤ (pos n)) ≡ 0 = up_neg (pos n) in
    let d : dn (neg_ℤ (pos n)) ≡ n = dn_neg (pos n) in
    sym (stepped_natural base step (neg_ℤ (pos n)) (rw d h) ∙ rw (u, d) (omega arith))

-- Vref by its five bits: its two cases, as a test of the sign bit gives them, and its range
module _ {bits : ℕ} (five : bits < 32) where
  module _ {sign : ℕ} (worth : sign ≡ 16) where
    pub vref_plus : bits < sign → 1100 + 7 * bits ≡ vref_of bits
    unfolding vref_of
    vref_plus h = rw (sign_plus 5 bits (omega arith))

    pub vref_minus : sign ≤ bits → 1100 - 7 * (bits - sign) ≡ vref_of bits
    unfolding vref_of
    vref_minus h = rw (worth, sign_minus 5 bits (omega arith)) (stepped_minus 1100 7 (bits - 16) (omega arith))

  vref_room : 7 * dn (sign_magnitude 5 bits) ≤ 1100
  vref_room = omega (arith, sign_fits 5 bits (omega arith) five)

  pub vref_whole : pos (vref_of bits) ≡ pos 1100 +ℤ pos 7 *ℤ sign_magnitude 5 bits
  unfolding vref_of
  vref_whole = stepped_whole 1100 7 (sign_magnitude 5 bits) vref_room

  pub vref_range : (995 ≤ vref_of bits) × (vref_of bits ≤ 1205)
  unfolding vref_of
  vref_range =
      let fits = sign_fits 5 bits (omega arith) five in
      rw (stepped_natural 1100 7 (sign_magnitude 5 bits) vref_room) (omega arith, omega arith)

-- a two-point code, over the width
module _ (width bits : ℕ) where
  pub code_plus : bits < 2 ^ (width - 1) → two_point_code width bits ≡ pos bits
  unfolding two_point_code
  code_plus h = rw (lt-ltb _ _ h)

  pub code_minus : 2 ^ (width - 1) ≤ bits → two_point_code width bits ≡ neg_ℤ (pos (wrapped bits % 2 ^ (width - 1)))
  unfolding two_point_code
  code_minus h = rw (le-ltb _ _ h)

  pub code_fits : (up (two_point_code width bits) < 2 ^ (width - 1)) × (dn (two_point_code width bits) < 2 ^ (width - 1))
  code_fits =
      let some : 0 < 2 ^ (width - 1) = pow_pos (width - 1) in
      either (2 ^ (width - 1)) bits
      (λ minus.
      let n : ℕ = wrapped bits % 2 ^ (width - 1) in
      rw (code_minus minus) (omega (arith, up_neg (pos n), dn_neg (pos n), mod-lt (wrapped bits) some)))
      (λ plus. rw (code_plus plus) (omega arith))

-- the count that it stands for, where the base has room for the lowest code
module _ (base width bits : ℕ) (room : 4 * 2 ^ (width - 1) ≤ base) where
  code_room : 4 * dn (two_point_code width bits) ≤ base
  code_room = omega (arith, code_fits width bits)

  pub point_whole : pos (point_of base width bits) ≡ pos base +ℤ pos 4 *ℤ two_point_code width bits
  unfolding point_of
  point_whole = stepped_whole base 4 (two_point_code width bits) code_room

  pub point_range : (base + 4 ≤ point_of base width bits + 4 * 2 ^ (width - 1))
      × (point_of base width bits + 4 ≤ base + 4 * 2 ^ (width - 1))
  unfolding point_of
  point_range =
      let fits = code_fits width bits in
      rw (stepped_natural base 4 (two_point_code width bits) code_room) (omega (arith, code_room), omega (arith, code_room))

-- its two cases, as a test of the sign bit and a wrapping subtraction from zero give them
module _ {base width bits sign : ℕ} (k : Coded base width bits) (worth : sign ≡ 2 ^ (width - 1)) where
  pub sign_some : 0 < sign
  sign_some = rw worth (pow_pos (width - 1))

  pub cut_room : (r : ℕ) → 4 * (r % sign) ≤ base
  cut_room r = omega (arith, mod-lt r sign_some)

  pub point_plus : bits < sign → base + 4 * bits ≡ point_of base width bits
  unfolding point_of
  point_plus h = rw (code_plus width bits (omega arith))

  pub point_minus : sign ≤ bits → {r : ℕ} → r < 2 ^ 32 → (r + bits) % 2 ^ 32 ≡ 0 → base - 4 * (r % sign) ≡ point_of base width bits
  unfolding point_of
  point_minus h {r} less e =
      let small : 2 ^ width ≤ 2 ^ 9 = pow_mono k.short in
      let same : r ≡ wrapped bits = omega arith in
      rw (same, code_minus width bits (omega arith), ← worth)
      (stepped_minus base 4 (wrapped bits % sign) (cut_room (wrapped bits)))

-- "d = high − low (never below 1713)"
pub points_apart : (unit low high : ℕ) → Apart (low_of unit low) (high_of unit high)
unfolding low_of high_of
points_apart unit low high = by (eqb unit 0)
  where
    by : (t : Bool) → Apart (point_of (cond t 278 421) 7 low) (point_of (cond t 3265 3406) 9 high)
    by true =
        let l = point_range 278 7 low (lit≤ tt) in
        let h = point_range 3265 9 high (lit≤ tt) in
        record { least = omega arith; most = omega arith }
    by false =
        let l = point_range 421 7 low (lit≤ tt) in
        let h = point_range 3406 9 high (lit≤ tt) in
        record { least = omega arith; most = omega arith }

-- d is 1713 at unit 1, low code 63, high code −255
pub points_nearest : low_of 1 0x3F + 1713 ≡ high_of 1 0x101
unfolding low_of high_of point_of two_point_code
points_nearest = refl

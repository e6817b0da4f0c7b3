-- Laws of the C6's channel compensation: it is at most 28 from 0, which 32 bits hold. Assumes nothing.
use Prim.Native.Nat.{ℕ, ◌-◌, ◌^◌, ◌≤◌, ◌<◌}
use native.Mathlib.Nat.{mul-le-mul}
use native.Mathlib.Omega.{arith}
use mir.Syntax.{w32}
use mir.Val.{SFits}
use Rattle.terms.specs.Sign.{sign_magnitude}
use Rattle.terms.proofs.Sign.{sign_fits}
use Rattle.terms.proofs.Whole.{up, dn, up_times, dn_times, fits_by}
use Rattle.esp32c6.specs.Channel.{compens_of}

module _ (atten bits : ℕ) (few : bits < 2 ^ 4) where
  pub compens_range : (up (compens_of atten bits) ≤ 28) × (dn (compens_of atten bits) ≤ 28)
  unfolding compens_of
  compens_range =
      let s = sign_fits 4 bits (omega arith) few in
      let plus : up (sign_magnitude 4 bits) ≤ 7 = omega arith in
      let minus : dn (sign_magnitude 4 bits) ≤ 7 = omega arith in
      let weight : 4 - atten ≤ 4 = omega arith in
      (rw up_times (mul-le-mul plus weight), rw dn_times (mul-le-mul minus weight))

  pub compens_fits : SFits w32 (compens_of atten bits)
  compens_fits = fits_by w32 (compens_of atten bits) (omega (arith, compens_range)) (omega (arith, compens_range))

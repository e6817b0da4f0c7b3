-- Laws of tags: a first tag is at most 25, so that every tag is in the table. Assumes nothing.
use mathlib.Core.Path.{◌≡◌}
use Prim.Native.Nat.{ℕ, ◌+◌, ◌*◌, ◌≤◌, ◌<◌}
use native.Mathlib.Omega.{arith}
use lib.Dec.{eqb}
use borrow.Author.Tests.{eq-eqb, ne_eqb}
use Rattle.terms.proofs.Order.{picked}
use Rattle.s2_readings.specs.declared.tag.RtcCalibParam.{RtcCalibParam}
use Rattle.s2_readings.specs.declared.tag.RtcCalibParam.TheVariants.{Vlow, Vhigh, Vinit}
use Rattle.s2_readings.specs.Tag.{by_version, first_tag, tag_of}

version_most : (version one two : ℕ) → one ≤ 25 → two ≤ 25 → by_version version one two ≤ 25
unfolding by_version
version_most version one two h k =
    picked (λ n. n ≤ 25) (eqb version 1) h (picked (λ n. n ≤ 25) (eqb version 2) k (omega arith))

pub first_most : (version : ℕ) (param : RtcCalibParam) → first_tag version param ≤ 25
first_most version Vlow = version_most version 1 0 (omega arith) (omega arith)
first_most version Vhigh = version_most version 9 17 (omega arith) (omega arith)
first_most version Vinit = version_most version 0 25 (omega arith) (omega arith)

module _ (version unit atten : ℕ) (param : RtcCalibParam) where
  pub tag_in_table : unit ≤ 1 → atten ≤ 3 → tag_of version unit atten param < 33
  unfolding tag_of
  tag_in_table u a =
      picked (λ n. n < 33) (eqb (first_tag version param) 0) (omega arith) (omega (arith, first_most version param))

  -- it stands after a first tag, by unit and attenuation
  pub tag_is : {first : ℕ} → first_tag version param ≡ first → 0 < first → tag_of version unit atten param ≡ first + (unit * 4 + atten)
  unfolding tag_of
  tag_is {first} e some = rw (e, ne_eqb first 0 (λ z. omega arith)) (omega arith)

  -- it is tag 0 where version and parameter don't pair, and only there
  pub tag_none : first_tag version param ≡ 0 → tag_of version unit atten param ≡ 0
  unfolding tag_of
  tag_none e = rw (eq-eqb _ _ e)

  pub tag_some : (first_tag version param ≡ 0 → ⊥) → tag_of version unit atten param ≡ 0 → ⊥
  unfolding tag_of
  tag_some h e = let sum = rw (ne_eqb _ _ h) at e in h (omega arith)

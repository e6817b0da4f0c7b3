-- The C6's versions one by one. Assumes nothing.
use mathlib.Core.Path.{◌≡◌, refl}
use Prim.Native.Nat.{ℕ, ◌≤◌}
use native.Mathlib.Omega.{arith}
use borrow.Author.Tests.{ne_eqb, le-leb}
use Rattle.terms.specs.C6Version.{version_of}

pub version_zero : version_of 0 ≡ 0
unfolding version_of
version_zero = refl

pub version_one : version_of 1 ≡ 1
unfolding version_of
version_one = refl

pub version_two : (minor : ℕ) → 2 ≤ minor → version_of minor ≡ 2
unfolding version_of
version_two minor h = simp (ne_eqb minor 1 (λ e. omega arith), le-leb 2 minor h)

-- Whole numbers as differences of naturals: sums and products of these are differences again, so that an equation over whole numbers
-- becomes one over naturals, which `omega` reads. Assumes nothing.
use mathlib.Core.Path.{◌≡◌, ap}
use Prim.Native.Nat.{ℕ, ◌+◌, ◌*◌, ◌≤◌, ◌<◌, zero-le}
use native.Mathlib.Omega.{arith}
use lib.Dec.{le→leb}
use lib.IntN.{ℤ, pos, negsuc, neg_ℤ, ◌+ℤ◌, ◌-ℤ◌, ◌*ℤ◌, *ℤ_comm}
use lib.Signed.{◌≤ℤ◌, ◌<ℤ◌, le_z_yes, lt_z_yes}
use Rattle.terms.proofs.Whole.{up, dn, sum_is, up_neg, dn_neg, up_times, dn_times}

-- z is a less b
pub record Difference (z : ℤ) (a b : ℕ) : Type 0 where
  pub is : up z + b ≡ a + dn z

pub itself : (a : ℕ) → Difference (pos a) a 0
itself a = record { is = omega arith }

pub less : (a b : ℕ) → Difference (pos a -ℤ pos b) a b
less a b = record { is = omega (arith, sum_is (pos a) (neg_ℤ (pos b)), up_neg (pos b), dn_neg (pos b)) }

pub minus : (z : ℤ) (n : ℕ) → Difference (z -ℤ pos n) (up z) (dn z + n)
minus z n = record { is = omega (arith, sum_is z (neg_ℤ (pos n)), up_neg (pos n), dn_neg (pos n)) }

pub plus : {y z : ℤ} {a b c d : ℕ} → Difference y a b → Difference z c d → Difference (y +ℤ z) (a + c) (b + d)
plus {y} {z} p q = record { is = omega (arith, sum_is y z) }

pub times : {z : ℤ} {a b : ℕ} → Difference z a b → (n : ℕ) → Difference (z *ℤ pos n) (a * n) (b * n)
times {z} p n = record { is = omega (arith, up_times z n, dn_times z n, ap (λ (m : ℕ). m * n) p.is) }

pub times_left : {z : ℤ} {a b : ℕ} (n : ℕ) → Difference z a b → Difference (pos n *ℤ z) (a * n) (b * n)
times_left {z} n p = rw *ℤ_comm (times p n)

-- a difference that isn't negative
pub natural : {z : ℤ} {a b : ℕ} → Difference z a b → {n : ℕ} → a ≡ n + b → z ≡ pos n
natural {z = pos m} p e = ap pos (omega arith)
natural {z = negsuc m} p e = absurd (omega arith)

-- its sign: a difference is negative exactly if what is taken off is the larger
pub below_zero : {z : ℤ} {a b : ℕ} → Difference z a b → a < b → z <ℤ pos 0
below_zero {z = pos m} p h = absurd (omega arith)
below_zero {z = negsuc m} p h = lt_z_yes tt

pub from_zero : {z : ℤ} {a b : ℕ} → Difference z a b → b ≤ a → pos 0 ≤ℤ z
from_zero {z = pos m} p h = le_z_yes (le→leb 0 m zero-le)
from_zero {z = negsuc m} p h = absurd (omega arith)

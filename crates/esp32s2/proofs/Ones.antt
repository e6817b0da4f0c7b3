-- The language's count of ones is the sum of the bits. Assumes nothing.
use mathlib.Core.Path.{◌≡◌, ◌∙◌, ap}
use Prim.Native.Nat.{ℕ, zero, suc, ◌+◌, ◌/◌, ◌%◌, ◌^◌, ◌<◌}
use native.Mathlib.Nat.{pow-succ'}
use native.Mathlib.Omega.{arith}
use lib.Count.{ones, ones_step, ones_in}
use Rattle.esp32s2.specs.Encryption.{ones_of}

pub ones_is : (n number : ℕ) → number < 2 ^ n → ones number ≡ ones_of n number
unfolding ones_of ones ones_in
ones_is zero number h = let e : number ≡ 0 = omega arith in rw e
ones_is (suc n) number h =
    ones_step number ∙ ap (λ (m : ℕ). number % 2 + m) (ones_is n (number / 2) (omega (arith, pow-succ' 2 n)))

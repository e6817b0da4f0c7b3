-- A law of a sum that grows by one step a place. Assumes nothing.
use mathlib.Core.Path.{◌≡◌}
use Prim.Native.Nat.{ℕ, ◌+◌, ◌*◌, ◌≤◌, ◌<◌}
use native.Mathlib.Nat.{mul-le-mul_left}
use native.Mathlib.Omega.{arith}

-- before the end, one place on is at most what the sum is at the end
pub ramp_room : (from rise i n : ℕ) {sum : ℕ} → sum ≡ from + rise * i → i < n → sum + rise ≤ from + rise * n
ramp_room from rise i n e h = omega (arith, mul-le-mul_left rise h)

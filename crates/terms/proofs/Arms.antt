-- The last arm of a `match` on 0, 1, .., n - 1 is never reached by a number below n, and by one below n + 1 it is for n. Assumes
-- nothing.
use mathlib.Core.Path.{◌≡◌}
use mathlib.Core.Logic.{⊎_elim}
use Prim.Native.Nat.{ℕ, zero, suc, ◌<◌}
use native.Mathlib.Nat.{eq-or-lt_of_le, le_of_suc-le-suc, not-suc-le-zero}

-- what that arm knows of k
abbrev pub NoArm : ℕ → ℕ → Type 0
NoArm k zero = Unit
NoArm k (suc n) = NoArm k n × (k ≡ n → ⊥)

pub never : (k n : ℕ) → NoArm k n → k < n → ⊥
never k zero r h = not-suc-le-zero h
never k (suc n) r h = ⊎_elim (λ e. r.1 e) (λ l. never k n r.0 l) (eq-or-lt_of_le (le_of_suc-le-suc h))

pub last_arm : (k n : ℕ) → NoArm k n → k < suc n → k ≡ n
last_arm k n r h = ⊎_elim (λ e. e) (λ l. absurd (never k n r l)) (eq-or-lt_of_le (le_of_suc-le-suc h))

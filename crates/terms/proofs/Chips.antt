-- Laws of the chips' numbers: one that names no chip has no curve. Assumes nothing.
use mathlib.Core.Path.{◌≡◌, refl}
use mathlib.Core.List.{List, [], ◌∷◌}
use Prim.Native.Nat.{ℕ, zero, suc, ◌≤◌}
use native.Mathlib.Omega.{arith}
use lib.ListN.{length, get_or}
use Rattle.terms.specs.declared.chip.Chip.TheVariants.{Esp32}
use Rattle.terms.proofs.Arms.{NoArm, never}
use Rattle.terms.proofs.Order.{either}
use Rattle.terms.specs.Chip.{chips, numbered}

-- past a list's end stands what was asked for in its stead
get_d_past : {A : Type 0} (l : List A) (i : ℕ) (d : A) → length l ≤ i → d ≡ get_or l i d
get_d_past [] i d h = refl
get_d_past (a ∷ l) zero d h = absurd (omega arith)
get_d_past (a ∷ l) (suc i) d h = get_d_past l i d (omega arith)

-- the last arm of a `match` on the nine numbers
pub no_chip : (chip minor : ℕ) → NoArm chip 9 → Esp32 ≡ numbered chip minor
no_chip chip minor h =
    either 9 chip (λ past. get_d_past (chips minor) chip Esp32 past) (λ below. absurd (never chip 9 h below))

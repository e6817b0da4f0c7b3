-- A number that is at most a list's length counts entries at its start: what `&list[..n]` asks, and what the kit's `Counts` says.
-- Assumes nothing.
use mathlib.Core.Path.{◌≡◌, sym}
use mathlib.Core.List.{List}
use Prim.Native.Nat.{ℕ, ◌≤◌}
use lib.ListN.{length, take}
use lib.Seq.{length-take-le}

pub counted : (n : ℕ) (list : List ℕ) → n ≤ length list → (n ≤ length list) × (n ≡ length (take n list))
counted n list h = (h, sym (length-take-le n list h))

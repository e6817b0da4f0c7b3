-- A text written into lent memory, with its room.
use Rattle.std.specs.Prelude.{◌≡◌, List, ℕ, ◌+◌, ◌≤◌, length}
use Rattle.terms.specs.Table.{written}

-- a list became another by writing t at a place, inside it; next is the place past t
pub record Put (before : List ℕ) (at : ℕ) (t : List ℕ) (next : ℕ) (after : List ℕ) : Type 0 where
  pub past : next ≡ at + length t
  pub within : next ≤ length before
  pub same : length after ≡ length before
  pub content : after ≡ written before at t

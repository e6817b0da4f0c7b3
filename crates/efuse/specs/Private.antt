-- What private functions ask of their arguments. No public promise cites it.
use Rattle.std.specs.Prelude.{◌≡◌, List, ℕ, ◌+◌, ◌≤◌, length}

-- n bits from start on in the room that a whole dump has for a block, which is eight words: 256 bits
pub record InRoom (dump : List ℕ) (block start n : ℕ) : Type 0 where
  pub whole : length dump ≡ 88
  pub is_block : block ≤ 10
  pub begin : start ≤ 255
  pub end : start + n ≤ 256

-- Document 01, "Numbers given when a call is turned down", and document 02, #109: when a list of block lengths, a dump and the view give
-- each number. A case says too that nothing before it in the call's order is given; 0 is given where the call isn't turned down.
use Rattle.std.specs.Prelude.{◌≡◌, List, ℕ, ◌≤◌, ◌<◌, length}
use Rattle.dumps.specs.Lengths.{words_of}
use Rattle.dumps.specs.View.{Lent, board_dump}

-- a list of block lengths
-- 20: "a list that isn't eleven lengths of at most 8"
pub data LengthsWhen (lengths : List ℕ) : ℕ → Type 0 where
  not_eleven : (length lengths ≡ 11 → ⊥) → LengthsWhen lengths 20
  above_eight : length lengths ≡ 11 → (block : ℕ) → block ≤ 10 → 8 < words_of lengths block → LengthsWhen lengths 20
  good_lengths : length lengths ≡ 11 → ((block : ℕ) → block ≤ 10 → words_of lengths block ≤ 8) → LengthsWhen lengths 0

-- a dump and its list: 1, then 20
-- 1: "the dump hasn't 88 words"
pub data DumpWhen (lengths dump : List ℕ) : ℕ → Type 0 where
  bad_dump : (length dump ≡ 88 → ⊥) → DumpWhen lengths dump 1
  dump_lengths : {n : ℕ} → length dump ≡ 88 → LengthsWhen lengths n → DumpWhen lengths dump n

-- the view: "Refusals in order 15, 1, 4; only the chosen dump is checked", and 20 after 1
-- 15: "board above 1"
-- 4: "block above 10"
pub data ViewWhen (lengths : List ℕ) (field reference : Lent) (board block : ℕ) : ℕ → Type 0 where
  view_board : 1 < board → ViewWhen lengths field reference board block 15
  view_dump : {n : ℕ} → board ≤ 1 → DumpWhen lengths (board_dump field reference board).now n → (n ≡ 0 → ⊥)
      → ViewWhen lengths field reference board block n
  view_block : board ≤ 1 → DumpWhen lengths (board_dump field reference board).now 0 → 10 < block
      → ViewWhen lengths field reference board block 4
  good_view : board ≤ 1 → DumpWhen lengths (board_dump field reference board).now 0 → block ≤ 10
      → ViewWhen lengths field reference board block 0

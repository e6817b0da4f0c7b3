-- What a private function promises. No public promise cites it.
use Rattle.std.specs.Prelude.{◌≡◌, ◌⊎◌, List, ℕ, ◌≤◌, ◌<◌}
use Rattle.dumps.specs.Lengths.{words_of}

-- the largest of a list's first n lengths, or 0 where there is none
pub record Longest (lengths : List ℕ) (n words : ℕ) : Type 0 where
  pub each : (block : ℕ) → block < n → words_of lengths block ≤ words
  pub one : (words ≡ 0) ⊎ ((block : ℕ) × (block < n) × (words_of lengths block ≡ words))

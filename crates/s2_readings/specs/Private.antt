-- What private functions ask of their arguments. No public promise cites it.
use Rattle.std.specs.Prelude.{◌≡◌, List, ℕ, ◌≤◌, length}
use Rattle.dumps.specs.Lengths.{words_of}
use Rattle.efuse.specs.declared.field.EfuseField.{EfuseField}
use Rattle.efuse.specs.Field.{place_refusal}
use Rattle.s2_readings.specs.Chain.{link_field}

-- a whole dump, and a list that has no more words for block 2 than there is room for
pub record Ready (lengths dump : List ℕ) : Type 0 where
  pub whole : length dump ≡ 88
  pub room : words_of lengths 2 ≤ 8

-- a field of block 2 can be read
abbrev pub Readable : List ℕ → List ℕ → EfuseField → Type 0
Readable lengths dump f = Ready lengths dump × (place_refusal lengths f ≡ 0)

-- so can each of a tag's chain
abbrev pub ChainReadable : List ℕ → List ℕ → ℕ → Type 0
ChainReadable lengths dump tag = (k : ℕ) → Readable lengths dump (link_field tag k)

-- Document 01, "The desk program": dump files. A file is the list of its bytes.
use Rattle.std.specs.Prelude.{Bool, cond, ◌&&◌, List, [], ℕ, ◌+◌, ◌*◌, length, get_or, eqb}
use Rattle.terms.specs.Table.{tab}

-- "each word low byte first"
abbrev pub word_at : List ℕ → ℕ → ℕ
word_at bytes k =
    get_or bytes (4 * k) 0 + 256 * get_or bytes (4 * k + 1) 0
    + 65536 * get_or bytes (4 * k + 2) 0 + 16777216 * get_or bytes (4 * k + 3) 0

-- "A dump file is 352 bytes"; "one of another length is a dump without 88 words", and has none
unfoldable pub dump_words : List ℕ → List ℕ
dump_words bytes = cond (eqb (length bytes) 352) (tab (word_at bytes) 88) []

-- a dump file, and room for its words
abbrev pub fits : List ℕ → List ℕ → Bool
fits bytes room = eqb (length bytes) 352 && eqb (length room) 88

-- how many words are put into the room, and what it holds then
unfoldable pub loaded_count : List ℕ → List ℕ → ℕ
loaded_count bytes room = cond (fits bytes room) 88 0

unfoldable pub loaded_into : List ℕ → List ℕ → List ℕ
loaded_into bytes room = cond (fits bytes room) (tab (word_at bytes) 88) room

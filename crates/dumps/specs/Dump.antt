-- Document 01, "Dumps, maps and logs": a dump, with its refusal 1, and by document 02, #109, that of its list of block lengths, 20, which
-- "comes right after 1". A dump is the list of its words.
use Rattle.std.specs.Prelude.{not, List, ℕ, length, eqb}
use Rattle.terms.specs.Refusal.{refuse}
use Rattle.dumps.specs.Lengths.{lengths_refusal}

-- what every call that takes a dump checks of it, and of the list
-- 1: the dump hasn't 88 words
-- then 20 for the list
unfoldable pub dump_refusal : List ℕ → List ℕ → ℕ
dump_refusal lengths dump = refuse (not (eqb (length dump) 88)) 1 (lengths_refusal lengths)

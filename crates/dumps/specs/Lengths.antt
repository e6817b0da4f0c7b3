-- Document 02, #109: "the list of eleven block lengths in words, each 0 to 8", with its refusal 20. A list is that of its bytes.
use Rattle.std.specs.Prelude.{Bool, true, not, ◌&&◌, List, [], ◌∷◌, ℕ, length, get_or, leb, eqb}
use Rattle.terms.specs.Refusal.{refuse}

-- a block's own length, in words; one that the list hasn't has none
abbrev pub words_of : List ℕ → ℕ → ℕ
words_of lengths block = get_or lengths block 0

-- "eleven eights"
abbrev pub eights : List ℕ
eights = 8 ∷ 8 ∷ 8 ∷ 8 ∷ 8 ∷ 8 ∷ 8 ∷ 8 ∷ 8 ∷ 8 ∷ 8 ∷ []

-- whether each of a list is at most that
unfoldable pub each_at_most : ℕ → List ℕ → Bool
each_at_most most [] = true
each_at_most most (n ∷ ns) = leb n most && each_at_most most ns

-- 20: "a list that isn't eleven lengths of at most 8"
unfoldable pub lengths_refusal : List ℕ → ℕ
lengths_refusal lengths = refuse (not (eqb (length lengths) 11 && each_at_most 8 lengths)) 20 0

-- Laws of loading: what a room holds that a loop has filled; the words in front are the dump. Assumes nothing.
use mathlib.Core.Path.{◌≡◌, refl, ◌∙◌, ap}
use mathlib.Core.Bool.{Bool, true, false, cond, ◌&&◌}
use mathlib.Core.List.{List, []}
use Prim.Native.Nat.{ℕ, ◌≤◌}
use native.Mathlib.Omega.{arith}
use lib.ListN.{length, take}
use lib.Seq.{take_all}
use lib.Dec.{eqb}
use borrow.Author.Tests.{eq-eqb}
use Rattle.terms.specs.Table.{tab}
use Rattle.terms.proofs.Tab.{Filled, fill_done, tab_length}
use Rattle.dump_file.specs.Load.{word_at, dump_words, loaded_count, loaded_into}

module _ (bytes room : List ℕ) where
  -- a room that is filled to its end is loaded
  pub load_all : (after : List ℕ) (k : ℕ) → length bytes ≡ 352 → length room ≡ 88 → Filled (word_at bytes) room after k → 88 ≤ k
      → after ≡ loaded_into bytes room
  unfolding loaded_into
  load_all after k b h p e =
      simp (eq-eqb _ _ b, eq-eqb _ _ h) (fill_done (word_at bytes) after k p (omega (arith, p.same)) ∙ ap (tab (word_at bytes)) h)

  -- the words in front are the dump, whatever the file's length
  front : (t : Bool) → let words = tab (word_at bytes) 88 in take (cond (t && true) 88 0) (cond (t && true) words room) ≡ cond t words []
  front true = take_all 88 (tab (word_at bytes) 88) (omega (arith, tab_length (word_at bytes) 88))
  front false = refl

  pub load_front : length room ≡ 88 → take (loaded_count bytes room) (loaded_into bytes room) ≡ dump_words bytes
  unfolding dump_words loaded_count loaded_into
  load_front h = simp (eq-eqb _ _ h) (front (eqb (length bytes) 352))

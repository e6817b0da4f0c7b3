-- Laws of dumps and their lists: one that isn't refused has 88 words, and its list is good; and the other way round. Assumes nothing.
use mathlib.Core.Path.{◌≡◌}
use mathlib.Core.Bool.{not}
use mathlib.Core.List.{List}
use Prim.Native.Nat.{ℕ}
use lib.ListN.{length}
use lib.Dec.{eqb}
use borrow.Author.Tests.{eqb-true, not-false, eq-eqb}
use Rattle.terms.proofs.Refusals.{refuse_none}
use Rattle.dumps.specs.Dump.{dump_refusal}
use Rattle.dumps.specs.Lengths.{lengths_refusal}

module _ (lengths dump : List ℕ) where
  pub dump_whole : dump_refusal lengths dump ≡ 0 → (length dump ≡ 88) × (lengths_refusal lengths ≡ 0)
  unfolding dump_refusal
  dump_whole e =
      let p = refuse_none (not (eqb (length dump) 88)) 0 (lengths_refusal lengths) e in
      (eqb-true _ _ (not-false _ p.0), p.1)

  pub whole_dump : length dump ≡ 88 → dump_refusal lengths dump ≡ lengths_refusal lengths
  unfolding dump_refusal
  whole_dump d = simp (eq-eqb _ _ d)

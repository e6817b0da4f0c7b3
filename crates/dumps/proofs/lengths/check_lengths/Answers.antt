-- `dumps::check_lengths` meets its contract: the first eight are at most 8 exactly if the largest of them is, and at each turn the blocks
-- before are.
use mathlib.Core.Path.{◌≡◌, ◌∙◌}
use Prim.Native.Nat.{ℕ, ◌+◌, ◌-◌, ◌≤◌, ◌<◌}
use lib.ListN.{length, get_or, take, drop}
use lib.Seq.{get_or-take, get_or-drop}
use mathlib.Core.List.{List}
use native.Mathlib.Nat.{add_assoc}
use native.Mathlib.Omega.{arith}
use borrow.Author.Count.{below_more}
use Rattle.dumps.specs.Lengths.{words_of}
use Rattle.dumps.specs.When.{not_eleven, above_eight, good_lengths}
use Rattle.dumps.proofs.Lists.{lengths_exactly, longest_above}
use Rattle.dumps.proofs.lengths.check_lengths.Goals as goal

pub returns-then-lengths-ne-BLOCKS : goal.returns-then-lengths-ne-BLOCKS
returns-then-lengths-ne-BLOCKS c = rw (c.plain.ensures, (lengths_exactly _ 20).1 (not_eleven c.if-lengths-ne-BLOCKS.true))

pub returns-then-longest-gt-MOST_WORDS : goal.returns-then-longest-gt-MOST_WORDS
returns-then-longest-gt-MOST_WORDS c =
    rw (c.plain-then-longest-gt-MOST_WORDS.ensures, longest_above _ 8 _ (omega arith) c.if-lengths-ne-BLOCKS.false c.longest.ensures c.if-longest-gt-MOST_WORDS.true)

-- what the loop looks at
looked : (lengths : List ℕ) (k : ℕ) → length lengths ≡ 11 → k < 3 → get_or (take (length lengths - 8) (drop 8 lengths)) k 0 ≡ words_of lengths (8 + k)
looked lengths k e h = get_or-take _ _ k 0 (omega arith) ∙ get_or-drop 8 lengths k 0

pub returns-then-words-gt-MOST_WORDS : goal.returns-then-words-gt-MOST_WORDS
returns-then-words-gt-MOST_WORDS c =
    let block : ℕ = 8 + c.loop-words.words-index in
    let above : 8 < words_of c.args.lengths.now block =
    omega (arith, c.if-words-gt-MOST_WORDS.true, looked c.args.lengths.now c.loop-words.words-index c.if-lengths-ne-BLOCKS.false (omega arith))
    in
    rw (c.plain-then-words-gt-MOST_WORDS.ensures, (lengths_exactly _ 20).1 (above_eight c.if-lengths-ne-BLOCKS.false block (omega arith) above))

pub loop-words-init : goal.loop-words-init
loop-words-init c = λ k h. omega (arith, c.longest.ensures.each k (omega arith), c.if-longest-gt-MOST_WORDS.false)

pub loop-words-preserved : goal.loop-words-preserved
loop-words-preserved c =
    let lengths : List ℕ = c.args.lengths.now in
    let block : ℕ = 8 + c.loop-words.words-index in
    let here : words_of lengths block ≤ 8 =
    omega (arith, c.if-words-gt-MOST_WORDS.false, looked lengths c.loop-words.words-index c.if-lengths-ne-BLOCKS.false (omega arith))
    in
    rw add_assoc at (below_more (λ (k : ℕ). words_of lengths k ≤ 8) block c.loop-words.invariant here)

pub returns : goal.returns
returns c =
    rw ((lengths_exactly _ 0).1 (good_lengths c.if-lengths-ne-BLOCKS.false (λ k h. c.loop-words.invariant k (omega (arith, c.loop-words-test.false)))))

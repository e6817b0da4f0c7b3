-- `dumps::block_words` meets its contract: the part of a slice lies where the slice does, four bytes a word on.
use mathlib.Core.Path.{◌≡◌}
use Prim.Native.Nat.{ℕ, ◌+◌, ◌*◌, ◌-◌, ◌≤◌}
use native.Mathlib.Omega.{arith}
use Rattle.dumps.specs.Lengths.{words_of}
use Rattle.dumps.proofs.Lists.{lengths_good}
use Rattle.dumps.proofs.view.block_words.Goals as goal
use Rattle.dumps.proofs.view.block_words.Goals.{After-words_of-words}

-- how many words there are, which are no more than the block has room for
words-most : (c : After-words_of-words) → c.words_of-words.result ≤ 8
words-most c = rw c.words_of-words.ensures ((lengths_good _ c.requires.1).1 _ c.requires.2)

pub slice_bounds-result-end : goal.slice_bounds-result-end
slice_bounds-result-end c = omega (arith, words-most (goal.at.slice_bounds-result-end c).After-words_of-words)

pub returns : goal.returns
returns c =
    let from : ℕ = 8 * c.args.block in
    let words : ℕ = words_of c.args.lengths.now c.args.block in
    let is : c.words_of-words.result ≡ words = c.words_of-words.ensures in
    let count : from + words - from ≡ words = omega arith in
    let place : from * 4 + c.args.dump.ref_ptr.1 ≡ c.args.dump.ref_ptr.1 + 4 * from = omega arith in
    simp (is, count, place)

-- `efuse::bits` meets its contract: the bits are cut from two words, or from the dump's last one, which then has them all.
use mathlib.Core.Path.{◌∙◌}
use Prim.Native.Nat.{ℕ, ◌^◌, ◌<◌}
use native.Mathlib.Omega.{arith}
use lib.ListN.{get_or}
use Rattle.efuse.proofs.Bits.{cut_one, cut_two}
use Rattle.efuse.proofs.field.bits.Goals as goal
use Rattle.efuse.proofs.field.bits.Goals.{then-at-lt-LAST_WORD, else-at-lt-LAST_WORD}

pub returns : goal.returns
returns c =
    let fits : (k : ℕ) → get_or c.args.dump.now k 0 < 2 ^ 32 = λ k. (c.type_inv.dump k).fits in
    c.cut.ensures
    ∙ elim c.if-at-lt-LAST_WORD.branch [
      | then-at-lt-LAST_WORD w ↦ cut_two _ _ fits _ _ c.word_at-at.ensures (w.words-is ∙ w.two_words-words.ensures) (omega arith)
      | else-at-lt-LAST_WORD w ↦ cut_one _ _ fits _ _ {at = 87} (omega (arith, w.if-at-lt-LAST_WORD.false)) w.words-is (omega (arith, w.if-at-lt-LAST_WORD.false))
    ]

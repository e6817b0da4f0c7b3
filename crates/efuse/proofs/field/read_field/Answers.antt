-- `efuse::read_field` meets its contract, over the width. A word of the dump other than the last is of one of the eleven blocks, and a
-- field that isn't refused and begins in none of them begins in the last.
use mathlib.Core.Path.{◌≡◌, sym, ◌∙◌, ap}
use mathlib.Core.Logic.{inr}
use Prim.Native.Nat.{ℕ, ◌+◌, ◌%◌, ◌^◌, ◌≤◌, ◌<◌, min}
use native.Mathlib.Omega.{arith}
use lib.ListN.{length, get_or}
use Rattle.std.specs.Prelude.{Ok}
use Rattle.std.proofs.lemmas.Result.{err_from_is_err_and}
use Rattle.terms.proofs.Refusals.{went_well}
use Rattle.dumps.specs.Dump.{dump_refusal}
use Rattle.dumps.specs.Lengths.{words_of}
use Rattle.dumps.proofs.Dumps.{dump_whole}
use Rattle.dumps.proofs.Lists.{lengths_good}
use Rattle.efuse.specs.declared.field.EfuseField.{EfuseField}
use Rattle.efuse.specs.Field.{bits_of, field_bits, read_of}
use Rattle.efuse.specs.When.{Inside, bad_bits}
use Rattle.efuse.proofs.Bits.{cut_one, cut_two}
use Rattle.efuse.proofs.Exactly.{place_exactly}
use Rattle.efuse.proofs.Places.{place_inside, inside_place, read_dump, read_placed, read_good, read_value, read_refused}
use Rattle.efuse.proofs.field.read_field.Given.{Over}
use Rattle.efuse.proofs.field.read_field.Goals as goal
use Rattle.efuse.proofs.field.read_field.Goals.{After-cut, In_ok-check_dump, Then-at-lt-LAST_WORD}
use Rattle.efuse.proofs.field.read_field.Goals.{then-start-le-LAST_START+then-at-lt-LAST_WORD+else-lengths-block, else-start-le-LAST_START+in_ok-check_place, else-start-le-LAST_START-via-then-start-le-LAST_START+else-at-lt-LAST_WORD, else-start-le-LAST_START-via-else-start-le-LAST_START}

-- the dump and its list are good
good : (g : Over) (c : In_ok-check_dump g) → dump_refusal c.args.lengths.now c.args.dump.now ≡ 0
good g c = (went_well _ tt c.in_ok-check_dump.ensures).0

whole : (g : Over) (c : In_ok-check_dump g) → length c.args.dump.now ≡ 88
whole g c = (dump_whole c.args.lengths.now c.args.dump.now (good g c)).0

list : (g : Over) (c : In_ok-check_dump g) → (length c.args.lengths.now ≡ 11) × ((block : ℕ) → block ≤ 10 → words_of c.args.lengths.now block ≤ 8)
list g c = lengths_good c.args.lengths.now (dump_whole c.args.lengths.now c.args.dump.now (good g c)).1

-- a field that begins before the dump's last word
before_last : (g : Over) (c : Then-at-lt-LAST_WORD g) → c.word_at-at.result < 87
before_last g c = c.if-at-lt-LAST_WORD.true

is_block : (g : Over) (c : Then-at-lt-LAST_WORD g) → c.args.field.block ≤ 10
is_block g c = omega (arith, c.word_at-at.ensures, before_last g c)

-- what is given back is of a field inside its block, and cut from its words
abbrev here : (g : Over) (c : After-cut g) → EfuseField
here g c = c.args.field

value : (g : Over) (c : After-cut g) → dump_refusal c.args.lengths.now c.args.dump.now ≡ 0 → Inside c.args.lengths.now (here g c)
    → c.cut.result ≡ bits_of c.args.dump.now (here g c).block (here g c).bit_start c.min-2.result
    → Ok c.cut.result ≡ read_of (min g.row.BITS 32) c.args.lengths.now c.args.dump.now (here g c)
unfolding field_bits
value g c d i e =
    let most : c.min-2.result ≡ min (here g c).bit_count (min g.row.BITS 32) = omega (arith, c.min.ensures, c.min-2.ensures) in
    read_value _ _ _ _ (read_good _ _ _ d (inside_place _ _ i)) (e ∙ ap (bits_of _ _ _) most)

pub returns-in_err-check_dump : goal.returns-in_err-check_dump
returns-in_err-check_dump g c =
    let p = err_from_is_err_and c.from_residual.result c.from_residual.ensures.1 in
    rw (p.1, p.2) (read_refused _ _ _ _ (read_dump _ _ _ c.in_err-check_dump.ensures))

pub bounds-lengths-block : goal.bounds-lengths-block
bounds-lengths-block g c =
    omega (arith, is_block g (goal.at.bounds-lengths-block g c).Then-at-lt-LAST_WORD, (list g (goal.at.bounds-lengths-block g c).In_ok-check_dump).0)

pub returns-then-lengths-block : goal.returns-then-lengths-block
returns-then-lengths-block g c =
    let five = (place_exactly c.args.lengths.now c.args.field 5).1
    (bad_bits (is_block g (goal.at.returns-then-lengths-block g c).Then-at-lt-LAST_WORD) (inr c.if-lengths-block.true))
    in
    read_refused _ _ _ _ (read_placed _ _ _ c.in_ok-check_dump.ensures (rw (c.plain.ensures, five)))

pub two_words-words-requires : goal.two_words-words-requires
two_words-words-requires g c =
    omega (arith, whole g (goal.at.two_words-words-requires g c).In_ok-check_dump, before_last g (goal.at.two_words-words-requires g c).Then-at-lt-LAST_WORD)

pub returns-in_err-check_place : goal.returns-in_err-check_place
returns-in_err-check_place g c =
    let p = err_from_is_err_and c.from_residual-in_err-check_place.result c.from_residual-in_err-check_place.ensures.1 in
    rw (p.1, p.2) (read_refused _ _ _ _ (read_placed _ _ _ c.in_ok-check_dump.ensures c.in_err-check_place.ensures))

pub bounds-dump-87 : goal.bounds-dump-87
bounds-dump-87 g c = omega (arith, whole g (goal.at.bounds-dump-87 g c).In_ok-check_dump)

pub returns : goal.returns
returns g c =
    let d = good g (goal.at.returns g c).In_ok-check_dump in
    let fits : (k : ℕ) → get_or c.args.dump.now k 0 < 2 ^ 32 = λ k. (c.type_inv.dump k).fits in
    elim c.if-start-le-LAST_START.branch [
      | then-start-le-LAST_START+then-at-lt-LAST_WORD+else-lengths-block w ↦
          value g (goal.at.returns g c).After-cut d
          (record {
            block = omega (arith, c.word_at-at.ensures, w.if-at-lt-LAST_WORD.true);
            start = w.if-start-le-LAST_START.true;
            end = w.if-lengths-block.false;
          })
          (c.cut.ensures ∙ cut_two _ _ fits _ _ c.word_at-at.ensures (w.words-is ∙ w.two_words-words.ensures) (omega arith))
      | else-start-le-LAST_START+in_ok-check_place w ↦
          let i : Inside c.args.lengths.now c.args.field = place_inside _ _ (went_well _ tt w.in_ok-check_place.ensures).0 in
          -- it lies inside its block, and begins in no word before the dump's last: so in that
          let at : c.word_at-at.result ≡ 87 =
          elim w.else-start-le-LAST_START.branch [
            | else-start-le-LAST_START-via-then-start-le-LAST_START+else-at-lt-LAST_WORD far ↦
                omega (arith, c.word_at-at.ensures, i.block, i.start, far.if-at-lt-LAST_WORD.false)
            | else-start-le-LAST_START-via-else-start-le-LAST_START late ↦ absurd (omega (arith, i.start, late.if-start-le-LAST_START.false))
          ] in
          let room : c.args.field.bit_start % 32 + c.min-2.result ≤ 32 =
          omega (arith, i.end, (list g (goal.at.returns g c).In_ok-check_dump).1 _ i.block, c.min.ensures, c.min-2.ensures, at, c.word_at-at.ensures, i.start) in
          value g (goal.at.returns g c).After-cut d i (c.cut.ensures ∙ cut_one _ _ fits _ _ (sym at ∙ c.word_at-at.ensures) w.words-is room)
    ]

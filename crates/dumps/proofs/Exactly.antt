-- Each number of a dump and of the view is given exactly when: each case gives its number by the laws of the refusals, and the tests leave
-- no other case. Assumes nothing.
use mathlib.Core.Path.{◌≡◌, ◌∙◌}
use mathlib.Core.List.{List}
use Prim.Native.Nat.{ℕ}
use lib.ListN.{length}
use borrow.Author.Tests.{ne_eqb, lt-ltb, le-ltb}
use Rattle.terms.specs.Exactly.{Exactly}
use Rattle.terms.proofs.Exactly.{Some, exactly, case, by_first}
use Rattle.terms.proofs.Order.{either, equal_or}
use Rattle.terms.proofs.Refusals.{or_else_given}
use Rattle.dumps.specs.Dump.{dump_refusal}
use Rattle.dumps.specs.View.{Lent, board_dump, block_refusal, view_refusal}
use Rattle.dumps.specs.When.{DumpWhen, bad_dump, dump_lengths}
use Rattle.dumps.specs.When.{ViewWhen, view_board, view_dump, view_block, good_view}
use Rattle.dumps.proofs.Dumps.{whole_dump}
use Rattle.dumps.proofs.Lists.{lengths_exactly}

module _ (lengths : List ℕ) where
  -- a dump
  module _ (dump : List ℕ) where
    dump_gives : (n : ℕ) → DumpWhen lengths dump n → dump_refusal lengths dump ≡ n
    unfolding dump_refusal
    dump_gives _ (bad_dump d) = simp (ne_eqb _ _ d)
    dump_gives n (dump_lengths d l) = whole_dump lengths dump d ∙ (lengths_exactly lengths n).1 l

    dump_some : Some (DumpWhen lengths dump)
    dump_some =
        equal_or (length dump) 88
        (λ d. (_, dump_lengths d (case (lengths_exactly lengths))))
        (λ d. (1, bad_dump d))

    pub dump_exactly : Exactly (dump_refusal lengths dump) (DumpWhen lengths dump)
    dump_exactly = exactly dump_gives dump_some

  -- a view
  module _ (field reference : Lent) (board block : ℕ) where
    abbrev chosen : Exactly (dump_refusal lengths (board_dump field reference board).now) (DumpWhen lengths (board_dump field reference board).now)
    chosen = dump_exactly (board_dump field reference board).now

    view_gives : (n : ℕ) → ViewWhen lengths field reference board block n → view_refusal lengths field reference board block ≡ n
    unfolding view_refusal block_refusal
    view_gives _ (view_board b) = simp (lt-ltb _ _ b)
    view_gives n (view_dump b d some) = rw (le-ltb _ _ b) (or_else_given _ _ ((chosen n).1 d) some)
    view_gives _ (view_block b d h) = rw (le-ltb _ _ b, (chosen 0).1 d, lt-ltb _ _ h)
    view_gives _ (good_view b d h) = rw (le-ltb _ _ b, (chosen 0).1 d, le-ltb _ _ h)

    view_some : Some (ViewWhen lengths field reference board block)
    view_some =
        either board 1
        (λ b.
        by_first chosen
        (λ d. either block 10 (λ h. (0, good_view b d h)) (λ h. (4, view_block b d h)))
        (λ n d some. (n, view_dump b d some)))
        (λ b. (15, view_board b))

    pub view_exactly : Exactly (view_refusal lengths field reference board block) (ViewWhen lengths field reference board block)
    view_exactly = exactly view_gives view_some

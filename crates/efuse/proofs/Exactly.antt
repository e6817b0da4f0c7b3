-- Each number of field reading is given exactly when: each case gives its number by the laws of the refusals,
-- and the tests leave no other case. Assumes nothing.
use mathlib.Core.Path.{◌≡◌}
use mathlib.Core.Logic.{inl, inr}
use mathlib.Core.List.{List}
use Prim.Native.Nat.{ℕ, ◌+◌, ◌*◌}
use borrow.Author.Tests.{lt-ltb, le-ltb}
use Rattle.terms.specs.Exactly.{Exactly}
use Rattle.terms.proofs.Exactly.{Some, exactly, case, by_first}
use Rattle.terms.proofs.Order.{either}
use Rattle.terms.proofs.Refusals.{or_else_given}
use Rattle.dumps.specs.Lengths.{words_of}
use Rattle.dumps.proofs.Exactly.{dump_exactly}
use Rattle.efuse.specs.declared.field.EfuseField.{EfuseField}
use Rattle.efuse.specs.Field.{place_refusal, read_refusal}
use Rattle.efuse.specs.When.{PlaceWhen, bad_block, bad_bits, good_place, ReadWhen, read_dump, read_place}
use Rattle.efuse.proofs.Places.{inside_place}

module _ (lengths : List ℕ) where
  -- a field's place
  module _ (f : EfuseField) where
    place_gives : (n : ℕ) → PlaceWhen lengths f n → place_refusal lengths f ≡ n
    unfolding place_refusal
    place_gives _ (bad_block h) = simp (lt-ltb _ _ h)
    place_gives _ (bad_bits b (inl h)) = simp (le-ltb _ _ b, lt-ltb _ _ h)
    place_gives _ (bad_bits b (inr h)) =
        either f.bit_start 255
        (λ s. simp (le-ltb _ _ b, le-ltb _ _ s, lt-ltb _ _ h))
        (λ s. simp (le-ltb _ _ b, lt-ltb _ _ s))
    place_gives _ (good_place i) = inside_place lengths f i

    place_some : Some (PlaceWhen lengths f)
    place_some =
        either f.block 10
        (λ b.
        either f.bit_start 255
        (λ s.
        either (f.bit_start + f.bit_count) (32 * words_of lengths f.block)
        (λ e. (0, good_place (record { block = b; start = s; end = e })))
        (λ e. (5, bad_bits b (inr e))))
        (λ s. (5, bad_bits b (inl s))))
        (λ b. (4, bad_block b))

    pub place_exactly : Exactly (place_refusal lengths f) (PlaceWhen lengths f)
    place_exactly = exactly place_gives place_some

    -- a reading
    module _ (dump : List ℕ) where
      read_gives : (n : ℕ) → ReadWhen lengths dump f n → read_refusal lengths dump f ≡ n
      unfolding read_refusal
      read_gives n (read_dump d some) = or_else_given _ _ ((dump_exactly lengths dump n).1 d) some
      read_gives n (read_place d p) = rw ((dump_exactly lengths dump 0).1 d) ((place_exactly n).1 p)

      read_some : Some (ReadWhen lengths dump f)
      read_some = by_first (dump_exactly lengths dump) (λ d. (_, read_place d (case place_exactly))) (λ n d some. (n, read_dump d some))

      pub read_exactly : Exactly (read_refusal lengths dump f) (ReadWhen lengths dump f)
      read_exactly = exactly read_gives read_some

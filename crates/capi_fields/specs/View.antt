-- The session view, as C is given it.
use Rattle.std.specs.Prelude.{List, ℕ, ◌*◌}
use Rattle.terms.specs.Refusal.{by_number, plain}
use Rattle.dumps.specs.Lengths.{words_of}
use Rattle.dumps.specs.View.{Lent, view_refusal}
use Rattle.capi_fields.specs.declared.view.SkvView.{SkvView}
use Rattle.capi.specs.Answer.{refusal_c}

-- a part of a board's dump: a reference can't be given to C, so that its place is told
abbrev pub place_c : ℕ → ℕ → ℕ → ℕ → SkvView
place_c number board first words = record { refusal = refusal_c (plain number); board = board; first = first; words = words }

-- the block's own words in the chosen dump; where it is refused, "the empty start of the field dump"
unfoldable pub view_c : List ℕ → Lent → Lent → ℕ → ℕ → SkvView
view_c lengths field reference board block =
    by_number (view_refusal lengths field reference board block)
    (place_c 0 board (8 * block) (words_of lengths block))
    (place_c (view_refusal lengths field reference board block) 0 0 0)

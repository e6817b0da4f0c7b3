-- Laws of the place that C is told of a view: which case it is. Assumes nothing.
use mathlib.Core.Path.{◌≡◌, sym}
use mathlib.Core.List.{List}
use Prim.Native.Nat.{ℕ, ◌*◌}
use Rattle.std.specs.Prelude.{Ok, Err}
use Rattle.terms.specs.declared.refusal.Refusal.{Refusal}
use Rattle.terms.specs.Refusal.{outcome_of}
use Rattle.terms.proofs.Refusals.{by_number_good, by_number_refused, went_well, was_refused}
use Rattle.dumps.specs.Lengths.{words_of}
use Rattle.dumps.specs.View.{Lent, view_refusal}
use Rattle.capi_fields.specs.declared.view.SkvView.{SkvView}
use Rattle.capi.specs.Answer.{refusal_c}
use Rattle.capi_fields.specs.View.{place_c, view_c}

module _ (lengths : List ℕ) (field reference : Lent) (board block : ℕ) where
  abbrev refusal : ℕ
  refusal = view_refusal lengths field reference board block

  pub place_good : {v : Unit} → Ok v ≡ outcome_of refusal → place_c 0 board (8 * block) (words_of lengths block) ≡ view_c lengths field reference board block
  unfolding view_c
  place_good e = sym (by_number_good _ _ _ (went_well _ tt e).0)

  pub place_refused : {why : Refusal} → Err why ≡ outcome_of refusal
      → ◌≡◌ {A = SkvView} (record { refusal = refusal_c why; board = 0; first = 0; words = 0 }) (view_c lengths field reference board block)
  unfolding view_c
  place_refused e = let p = was_refused _ tt e in rw p.1 (sym (by_number_refused _ _ _ p.0))

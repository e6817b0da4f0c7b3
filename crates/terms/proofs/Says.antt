-- An answer says the refusal and the value that it was given, with zeros beside a refusal. Assumes nothing.
use mathlib.Core.Path.{◌≡◌, sym, ◌∙◌, ap}
use Prim.Native.Nat.{ℕ}
use Rattle.terms.specs.declared.refusal.Refusal.{Refusal}
use Rattle.terms.specs.Refusal.{plain, told, answered, outcome_told, outcome_of, refusal_of, value_of}
use Rattle.terms.specs.Says.{Says}
use Rattle.terms.proofs.Order.{zero_or}
use Rattle.terms.proofs.Refusals.{by_number_good, by_number_refused}

-- of a refusal that tells nothing where its number is 0
pub told_says : {A : Type 0} (zeros : A) (why : Refusal) → (why.number ≡ 0 → why ≡ plain 0) → (v : A) → Says zeros (told why v) why v
told_says zeros why none v =
    zero_or why.number
    (λ e.
    record {
      refusal_is = ap refusal_of (by_number_good _ _ _ e) ∙ sym (none e);
      value_is = ap (value_of zeros) (by_number_good _ _ _ e) ∙ sym (by_number_good _ _ _ e);
    })
    (λ h.
    record {
      refusal_is = ap refusal_of (by_number_refused _ _ _ h);
      value_is = ap (value_of zeros) (by_number_refused _ _ _ h) ∙ sym (by_number_refused _ _ _ h);
    })

pub says : {A : Type 0} (zeros : A) (n : ℕ) (v : A) → Says zeros (answered n v) (plain n) v
says zeros n v = told_says zeros (plain n) (λ e. ap plain e) v

-- an outcome has no values
pub outcome_told_lem : (why : Refusal) → (why.number ≡ 0 → why ≡ plain 0) → refusal_of (outcome_told why) ≡ why
outcome_told_lem why none = (told_says tt why none tt).refusal_is

pub outcome_says : (n : ℕ) → refusal_of (outcome_of n) ≡ plain n
outcome_says n = outcome_told_lem (plain n) (λ e. ap plain e)

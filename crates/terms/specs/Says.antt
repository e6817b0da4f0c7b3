-- Document 01, "Places and their forms": "An answer may be an enum. In that case, a definition gives this paper's number and values for
-- each of the enum's cases, and the promises use that definition": `refusal_of` and `value_of` of a `Result`. Document 01's number is that
-- of the refusal.
use Rattle.std.specs.Prelude.{◌≡◌, Result}
use Rattle.terms.specs.declared.refusal.Refusal.{Refusal}
use Rattle.terms.specs.Refusal.{by_number, refusal_of, value_of}

-- by them an answer says this refusal and this value, or "zeros otherwise": proved of each call in its crate's proofs/Says
pub record Says {A : Type 0} (zeros : A) (answer : Result A Refusal) (why : Refusal) (value : A) : Type 0 where
  pub refusal_is : refusal_of answer ≡ why
  pub value_is : value_of zeros answer ≡ by_number why.number value zeros

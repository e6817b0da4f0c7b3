-- Document 01, "How tightly calls are specified": "Each public call has a result promise that admits one answer and one content of lent
-- memory per input, turned-down calls included. That uniqueness is itself proved": of each call in its crate's proofs/Unique.
use Rattle.std.specs.Prelude.{◌≡◌}

-- two answers to the same arguments that both keep the promise look the same. `Post` is the promise as the check reads it from the
-- source; `look` is what there is to see of the answer and of lent memory at exit
abbrev pub OneAnswer : {K X : Type 0} {A Z E : K → Type 0}
    → ((κs : K) → Z κs → E κs → X) → ((κs : K) → A κs → Z κs → E κs → Type 0) → Type 0
OneAnswer {K} {X} {A} {Z} {E} look Post =
    (κs : K) (a : A κs) (z z' : Z κs) (e e' : E κs) → Post κs a z e → Post κs a z' e' → look κs z e ≡ look κs z' e'

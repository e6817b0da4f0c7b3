-- Document 01, "Numbers given when a call is turned down": the column "Given exactly when", as one statement for every call.
-- A call's conditions are a type by number, in its crate's specs/When: a case a number, with document 01's words above it, and one for
-- 0, which is given where the call isn't turned down. A case says too that nothing before it in the call's order is given.
-- Of a call that goes by a map the same is said of its whole refusal, with the record and the place that it tells: maps/specs/Tells.
use Rattle.std.specs.Prelude.{◌≡◌, ◌↔◌}

-- each number (or refusal) is given where its condition holds, and nowhere else: proved of each call in its crate's proofs/Exactly
abbrev pub Exactly : {A : Type 0} → A → (A → Type 0) → Type 0
Exactly {A} given When = (n : A) → (given ≡ n) ↔ When n

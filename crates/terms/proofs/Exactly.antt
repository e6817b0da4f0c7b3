-- How a call's numbers are shown to be given exactly when: each case gives its number, and always some case holds. Assumes nothing.
use mathlib.Core.Path.{◌≡◌, refl, sym, ◌∙◌}
use mathlib.Core.Logic.{inl, inr}
use Prim.Native.Nat.{ℕ, zero, suc, ◌+◌, ◌≤◌, ◌<◌}
use native.Mathlib.Numerals.{add-one}
use native.Mathlib.Omega.{arith}
use borrow.Author.Count.{below_more}
use Rattle.terms.specs.Exactly.{Exactly}
use Rattle.terms.specs.Refusal.{first_of, first_at, unit_refusal, raw_refusal}
use Rattle.terms.specs.When.{UnitWhen, bad_unit, good_unit, RawWhen, bad_raw, good_raw, FirstFault, FirstWhen, fault, no_fault}
use Rattle.terms.proofs.Order.{either, zero_or}
use Rattle.terms.proofs.Refusals.{unit_good, unit_above, raw_good, raw_above, Passed, first_start, first_pass, first_stop, first_none}

-- some number's case holds
abbrev pub Some : (ℕ → Type 0) → Type 0
Some When = (n : ℕ) × When n

module _ {When : ℕ → Type 0} {given : ℕ} where
  pub exactly : ((n : ℕ) → When n → given ≡ n) → Some When → Exactly given When
  exactly gives some n = (λ e. rw (sym (gives some.0 some.1) ∙ e) at some.1, gives n)

  module _ (e : Exactly given When) where
    -- the case of the number that is given
    pub case : When given
    case = (e given).0 refl

    -- for a caller that goes on where nothing is given
    pub by_first : {P : Type 0} → (When 0 → P) → ((n : ℕ) → When n → (n ≡ 0 → ⊥) → P) → P
    by_first none some = zero_or given (λ z. none ((e 0).0 z)) (λ h. some given case h)

-- 7
module _ (unit atten : ℕ) where
  unit_gives : (n : ℕ) → UnitWhen unit atten n → unit_refusal unit atten ≡ n
  unit_gives _ (bad_unit h) = unit_above unit atten h
  unit_gives _ (good_unit u a) = unit_good unit atten u a

  unit_some : Some (UnitWhen unit atten)
  unit_some =
      either unit 1
      (λ u. either atten 3 (λ a. (0, good_unit u a)) (λ a. (7, bad_unit (inr a))))
      (λ u. (7, bad_unit (inl u)))

  pub unit_exactly : Exactly (unit_refusal unit atten) (UnitWhen unit atten)
  unit_exactly = exactly unit_gives unit_some

-- 8
module _ (raw : ℕ) where
  raw_gives : (n : ℕ) → RawWhen raw n → raw_refusal raw ≡ n
  raw_gives _ (bad_raw h) = raw_above raw h
  raw_gives _ (good_raw h) = raw_good raw h

  pub raw_exactly : Exactly (raw_refusal raw) (RawWhen raw)
  raw_exactly = exactly raw_gives (either raw 4095 (λ h. (0, good_raw h)) (λ h. (8, bad_raw h)))

-- a run's first number, where each of the run is given exactly when
module _ {When : ℕ → ℕ → Type 0} {numbers : ℕ → ℕ} (each : (k : ℕ) → Exactly (numbers k) (When k)) (len : ℕ) where
  passed : (k : ℕ) → k ≤ len → ((j : ℕ) → j < k → When j 0) → Passed numbers len k
  passed zero h good = first_start numbers len
  passed (suc k) h good =
      rw add-one at
      (first_pass numbers len k h (passed k (omega arith) (λ j b. good j (omega arith))) ((each k 0).1 (good k (omega arith))))

  -- the first record with a fault gives the run's number, and stands where the first number does
  pub first_fault : {n k : ℕ} → FirstFault When len n k → (first_of numbers 0 len ≡ n) × (first_at numbers 0 len ≡ k)
  first_fault {n} {k} f =
      let h : k < len = f.inside in
      first_stop numbers len k h (passed k (omega arith) f.earlier) ((each k n).1 f.here) f.some

  first_given : (n : ℕ) → FirstWhen When len n → first_of numbers 0 len ≡ n
  first_given n (fault k f) = (first_fault f).0
  first_given n (no_fault good) = first_none numbers len len (omega arith) (passed len (omega arith) good)

  -- the search goes on from record k, all before it good, with this many left
  search : (left k : ℕ) → left + k ≡ len → ((j : ℕ) → j < k → When j 0) → Some (FirstWhen When len)
  search zero k e good = (0, no_fault (λ j b. good j (omega arith)))
  search (suc left) k e good =
      by_first (each k)
      (λ w. search left (k + 1) (omega arith) (below_more (λ (j : ℕ). When j 0) k good w))
      (λ n w some. (n, fault k (record { inside = omega arith; earlier = good; here = w; some = some })))

  pub first_exactly : Exactly (first_of numbers 0 len) (FirstWhen When len)
  first_exactly = exactly first_given (search len 0 (omega arith) (λ j b. absurd (omega arith)))

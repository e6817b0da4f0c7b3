-- Laws of what each unit has its own of: what holds of ADC1's and of ADC2's holds of a unit's. Assumes nothing.
use mathlib.Core.Path.{◌≡◌, sym, ◌∙◌, ap}
use mathlib.Core.List.{List, ◌++◌}
use Prim.Native.Nat.{ℕ, zero, suc, ◌+◌, ◌*◌, ◌≤◌, ◌<◌}
use native.Mathlib.Nat.{zero-add, mul-zero, mul-one}
use native.Mathlib.Omega.{arith}
use lib.Dec.{T, eqb}
use lib.ListN.{length, get_or, get_or-append, get_or-eq_default}
use lib.Seq.{get_or-append-add}
use Rattle.terms.specs.Unit.{by_unit, entry_of}
use Rattle.terms.proofs.Check.{at_most, all, rule}
use Rattle.terms.proofs.Order.{either, picked}

pub by_unit_lem : {A : Type 0} (P : A → Type 0) (unit : ℕ) {adc1 adc2 : A} → P adc1 → P adc2 → P (by_unit unit adc1 adc2)
by_unit_lem P unit p q = picked P (eqb unit 0) p q

-- a test that no entry of a table is above a number; past its end there is 0
abbrev Tested : List ℕ → ℕ → Type 0
Tested table most = T (all (λ k. (at_most (get_or table k 0) most).passes) (length table))

entry_most : (table : List ℕ) (most : ℕ) → Tested table most → (k : ℕ) → get_or table k 0 ≤ most
entry_most table most t k =
    either (length table) k
    (λ past. rw (get_or-eq_default table 0 past) (omega arith))
    (λ inside. rule (λ k. at_most (get_or table k 0) most) (length table) t k inside)

pub unit_most : (unit k most : ℕ) (adc1 adc2 : List ℕ) → Tested adc1 most → Tested adc2 most → entry_of unit k adc1 adc2 ≤ most
unit_most unit k most adc1 adc2 t t' =
    by_unit_lem (λ table. get_or table k 0 ≤ most) unit (entry_most adc1 most t k) (entry_most adc2 most t' k)

-- where ADC2's table of n stands behind ADC1's, an entry is at n × unit + k
pub entry_at_lem : (n : ℕ) (adc1 adc2 : List ℕ) → length adc1 ≡ n → (unit k : ℕ) → unit ≤ 1 → k < n
    → get_or (adc1 ++ adc2) (n * unit + k) 0 ≡ entry_of unit k adc1 adc2
entry_at_lem n adc1 adc2 long zero k u h = rw (mul-zero, zero-add) (get_or-append adc1 adc2 0 k (omega arith))
entry_at_lem n adc1 adc2 long (suc zero) k u h =
    rw mul-one (ap (λ (m : ℕ). get_or (adc1 ++ adc2) (m + k) 0) (sym long) ∙ get_or-append-add adc1 adc2 k 0)
entry_at_lem n adc1 adc2 long (suc (suc m)) k u h = absurd (omega arith)

-- Each number of the curve is given exactly when. Assumes nothing.
use mathlib.Core.Path.{◌≡◌}
use mathlib.Core.Bool.{false}
use Prim.Native.Nat.{ℕ, ◌≤◌}
use borrow.Author.Tests.{lt-ltb, le-ltb}
use Rattle.terms.specs.declared.chip.Chip.{Chip}
use Rattle.terms.specs.declared.quantity.Millivolt.{Millivolt}
use Rattle.terms.specs.Exactly.{Exactly}
use Rattle.terms.specs.When.{UnitWhen, bad_unit, good_unit}
use Rattle.terms.proofs.Exactly.{Some, exactly, case, unit_exactly}
use Rattle.terms.proofs.Order.{either, whether}
use Rattle.curve.specs.Table.{table_of, missing}
use Rattle.curve.specs.Correct.{correct_refusal}
use Rattle.curve.specs.When.{CorrectWhen, correct_unit, no_curve, line_above, corrected}

module _ (chip : Chip) (unit atten : ℕ) (line : Millivolt) where
  correct_gives : (n : ℕ) → CorrectWhen chip unit atten line n → correct_refusal chip unit atten line ≡ n
  unfolding correct_refusal
  correct_gives _ (correct_unit u) = rw ((unit_exactly unit atten 7).1 u)
  correct_gives _ (no_curve u t) = rw ((unit_exactly unit atten 0).1 u, t)
  correct_gives _ (line_above u t l) = rw ((unit_exactly unit atten 0).1 u, t, lt-ltb _ _ l)
  correct_gives _ (corrected u t l) = rw ((unit_exactly unit atten 0).1 u, t, le-ltb _ _ l)

  table_some : UnitWhen unit atten 0 → Some (CorrectWhen chip unit atten line)
  table_some u =
      whether (missing (table_of chip unit))
      (λ t. (14, no_curve u t))
      (λ t. either line.0 4095 (λ l. (0, corrected u t l)) (λ l. (13, line_above u t l)))

  unit_some : (n : ℕ) → UnitWhen unit atten n → Some (CorrectWhen chip unit atten line)
  unit_some _ (bad_unit h) = (7, correct_unit (bad_unit h))
  unit_some _ (good_unit u a) = table_some (good_unit u a)

  pub correct_exactly : Exactly (correct_refusal chip unit atten line) (CorrectWhen chip unit atten line)
  correct_exactly = exactly correct_gives (unit_some _ (case (unit_exactly unit atten)))

  -- what is known where nothing is refused
  inside : UnitWhen unit atten 0 → (unit ≤ 1) × (atten ≤ 3)
  inside (good_unit u a) = (u, a)

  correct_none : CorrectWhen chip unit atten line 0
      → ((unit ≤ 1) × (atten ≤ 3)) × (missing (table_of chip unit) ≡ false) × (line.0 ≤ 4095)
  correct_none (corrected u t l) = (inside u, t, l)

  pub correct_accepted : correct_refusal chip unit atten line ≡ 0
      → ((unit ≤ 1) × (atten ≤ 3)) × (missing (table_of chip unit) ≡ false) × (line.0 ≤ 4095)
  correct_accepted e = correct_none ((correct_exactly 0).0 e)

-- Laws of the correction: what is taken off where nothing is refused, and that no cast loses anything. Assumes nothing.
use mathlib.Core.Path.{◌≡◌, sym}
use Prim.Native.Nat.{ℕ, ◌≤◌}
use Rattle.terms.specs.declared.chip.Chip.{Chip}
use Rattle.terms.specs.declared.quantity.Millivolt.{Millivolt}
use Rattle.terms.specs.Refusal.{unit_refusal}
use Rattle.terms.proofs.Refusals.{unit_inside}
use Rattle.curve.specs.Table.{table_of}
use Rattle.curves.specs.Curves.{curve_in, numbered}
use Rattle.curves.specs.Error.{corrected_of, less_error_of}
use Rattle.curve.specs.Correct.{correct_refusal}
use Rattle.curves.specs.NothingLost.{NothingLost}
use Rattle.curves.proofs.Answers.{curve_steps, error_exact, less_error_in}
use Rattle.curve.proofs.Exactly.{correct_accepted}
use Rattle.curve.proofs.Tables.{table_number, number_below}

-- for the call, which has checked its input
pub less_error_good : (table unit atten v : ℕ) → table ≤ 9 → unit_refusal unit atten ≡ 0 → v ≤ 4095
    → less_error_of table atten v ≡ corrected_of (curve_in (numbered table) atten) v
less_error_good table unit atten v t u h = less_error_in table atten v t (unit_inside unit atten u).1 h

module _ (chip : Chip) (unit atten : ℕ) (line : Millivolt) where
  -- of a call that isn't turned down nothing overflows, and the definition's and the code's casts lose nothing
  pub nothing_lost : correct_refusal chip unit atten line ≡ 0 → NothingLost (curve_in (table_of chip unit) atten) line.0
  unfolding corrected_of
  nothing_lost e =
      let good = correct_accepted chip unit atten line e in
      let number = table_number chip unit in
      let known = number_below number.0 (rw number.1 good.1) in
      let exact = error_exact number.0 atten known good.0.1 line.0 good.2 in
      rw (← number.1)
      (record {
        steps = λ some. curve_steps number.0 atten known good.0.1 line.0 some good.2;
        whole = sym exact.whole;
        small = exact.small;
      })

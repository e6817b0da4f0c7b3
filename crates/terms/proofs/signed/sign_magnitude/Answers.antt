-- `terms::sign_magnitude` meets its contract: the sign's test picks the case of sign and magnitude.
use mathlib.Core.Path.{ap, ◌∙◌}
use native.Mathlib.Omega.{arith}
use Prim.Native.Nat.{ℕ, min}
use Rattle.terms.proofs.Machine.{one_shifted, plus_back, minus_back}
use Rattle.terms.proofs.signed.sign_magnitude.Goals as goal

pub returns-then-number-sign : goal.returns-then-number-sign
returns-then-number-sign c =
    plus_back 16 _ _ (omega arith) c.ranges.code.fits (c.min.ensures ∙ ap (λ (n : ℕ). min n 16) c.saturating_sub.ensures) (one_shifted _ (omega arith)) c.if-number-sign.true

pub returns : goal.returns
returns c =
    minus_back 16 _ _ (omega arith) c.ranges.code.fits (c.min.ensures ∙ ap (λ (n : ℕ). min n 16) c.saturating_sub.ensures) (one_shifted _ (omega arith)) c.if-number-sign.false

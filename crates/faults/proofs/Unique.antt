-- The public call's promise, as the check reads it from the source, admits one answer per input: it is an equation. Assumes nothing.
use mathlib.Core.Path.{sym, ◌∙◌}
use Rattle.terms.specs.OneAnswer.{OneAnswer}
use Rattle.faults.proofs.fault.fault_of.Reads as fault_of

pub fault_of_one : OneAnswer (λ κs z e. z) fault_of.Post
fault_of_one κs a z z' e e' p q = p ∙ sym q

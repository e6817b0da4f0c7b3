-- Each call's promise, as the check reads it from the source, admits one answer per input: it is an equation. Assumes nothing.
use mathlib.Core.Path.{sym, ◌∙◌}
use mir.Syntax.{Dict}
use denote.RattleType.{RattleType}
use denote.Param.Laws.{Laws, IsCopy}
use Rattle.std.specs.declared.clone.Clone.{Ghosts}
use Rattle.terms.specs.OneAnswer.{OneAnswer}
use Rattle.capi.proofs.answer.SkvRefusalFromRefusal.from.Reads as refusal_c
use Rattle.capi.proofs.answer.parts.Reads as parts
use Rattle.capi.proofs.answer.SkvOutcomeFromResultUnitRefusal.from.Reads as outcome_c
use Rattle.capi.proofs.answer.SkvVoltageFromResultMillivoltRefusal.from.Reads as voltage_c
use Rattle.capi.proofs.answer.SkvCodeFromResultU16Refusal.from.Reads as code_c
use Rattle.capi.proofs.answer.SkvReadingFromResultI32Refusal.from.Reads as reading_c

pub refusal_c_one : OneAnswer (λ κs z e. z) refusal_c.Post
refusal_c_one κs a z z' e e' p q = p ∙ sym q

-- at each type of value
pub parts_one : (T : RattleType) (laws : Laws T) (copied : IsCopy T) (cloned : Ghosts T.Denot) (copies : Dict) → OneAnswer (λ κs z e. z) (parts.Post T laws copied cloned copies)
parts_one T laws copied cloned copies κs a z z' e e' p q = p ∙ sym q

pub outcome_c_one : OneAnswer (λ κs z e. z) outcome_c.Post
outcome_c_one κs a z z' e e' p q = p ∙ sym q

pub voltage_c_one : OneAnswer (λ κs z e. z) voltage_c.Post
voltage_c_one κs a z z' e e' p q = p ∙ sym q

pub code_c_one : OneAnswer (λ κs z e. z) code_c.Post
code_c_one κs a z z' e e' p q = p ∙ sym q

pub reading_c_one : OneAnswer (λ κs z e. z) reading_c.Post
reading_c_one κs a z z' e e' p q = p ∙ sym q

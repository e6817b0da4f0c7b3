-- Each public call's promise, as the check reads it from the source, admits one answer: it is an equation. Assumes nothing.
use mathlib.Core.Path.{sym, ◌∙◌}
use Rattle.terms.specs.OneAnswer.{OneAnswer}
use Rattle.terms.proofs.bytes.u16_of.Reads as u16_of
use Rattle.terms.proofs.bytes.u32_of.Reads as u32_of
use Rattle.terms.proofs.chip.numbered.Reads as numbered
use Rattle.terms.proofs.c6_version.rtc_calib_version.Reads as rtc_calib_version
use Rattle.terms.proofs.refusal.outcome_of.Reads as outcome_of
use Rattle.terms.proofs.refusal.plain.Reads as plain
use Rattle.terms.proofs.refusal.check_raw.Reads as check_raw
use Rattle.terms.proofs.refusal.check_unit.Reads as check_unit
use Rattle.terms.proofs.signed.sign_magnitude.Reads as sign_magnitude

pub u16_of_one : OneAnswer (λ κs z e. z) u16_of.Post
u16_of_one κs a z z' e e' p q = p ∙ sym q

pub u32_of_one : OneAnswer (λ κs z e. z) u32_of.Post
u32_of_one κs a z z' e e' p q = p ∙ sym q

pub rtc_calib_version_one : OneAnswer (λ κs z e. z) rtc_calib_version.Post
rtc_calib_version_one κs a z z' e e' p q = p ∙ sym q

pub plain_one : OneAnswer (λ κs z e. z) plain.Post
plain_one κs a z z' e e' p q = p ∙ sym q

pub outcome_of_one : OneAnswer (λ κs z e. z) outcome_of.Post
outcome_of_one κs a z z' e e' p q = p ∙ sym q

pub check_unit_one : OneAnswer (λ κs z e. z) check_unit.Post
check_unit_one κs a z z' e e' p q = p ∙ sym q

pub check_raw_one : OneAnswer (λ κs z e. z) check_raw.Post
check_raw_one κs a z z' e e' p q = p ∙ sym q

pub numbered_one : OneAnswer (λ κs z e. z) numbered.Post
numbered_one κs a z z' e e' p q = p ∙ sym q

pub sign_magnitude_one : OneAnswer (λ κs z e. z) sign_magnitude.Post
sign_magnitude_one κs a z z' e e' p q = p ∙ sym q

-- Each public call's promise, as the check reads it from the source, admits one answer per input: it is an equation.
-- Assumes nothing.
use mathlib.Core.Path.{sym, ◌∙◌}
use Rattle.terms.specs.OneAnswer.{OneAnswer}
use Rattle.esp32s2.proofs.version.rtc_calib_version.Reads as rtc_calib_version
use Rattle.esp32s2.proofs.encryption.flash_encryption.Reads as flash_encryption

pub rtc_calib_version_one : OneAnswer (λ κs z e. z) rtc_calib_version.Post
rtc_calib_version_one κs a z z' e e' p q = p ∙ sym q

pub flash_encryption_one : OneAnswer (λ κs z e. z) flash_encryption.Post
flash_encryption_one κs a z z' e e' p q = p ∙ sym q

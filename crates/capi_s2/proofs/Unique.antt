-- Each call's promise, as the check reads it from the source, admits one answer per input: it is an equation. Assumes nothing.
use mathlib.Core.Path.{sym, ◌∙◌}
use Rattle.terms.specs.OneAnswer.{OneAnswer}
use Rattle.capi_s2.proofs.version.skv_s2_version.Reads as skv_s2_version
use Rattle.capi_s2.proofs.reading.skv_s2_reading_vlow.Reads as skv_s2_reading_vlow
use Rattle.capi_s2.proofs.reading.skv_s2_reading_vhigh.Reads as skv_s2_reading_vhigh
use Rattle.capi_s2.proofs.reading.skv_s2_reading_vinit.Reads as skv_s2_reading_vinit
use Rattle.capi_s2.proofs.reading.skv_s2_skipped_vlow.Reads as skv_s2_skipped_vlow
use Rattle.capi_s2.proofs.reading.skv_s2_skipped_vhigh.Reads as skv_s2_skipped_vhigh
use Rattle.capi_s2.proofs.reading.skv_s2_skipped_vinit.Reads as skv_s2_skipped_vinit
use Rattle.capi_s2.proofs.code.skv_s2_init_code.Reads as skv_s2_init_code
use Rattle.capi_s2.proofs.code.skv_s2_cal_code.Reads as skv_s2_cal_code
use Rattle.capi_s2.proofs.reference.skv_s2_cal_mv.Reads as skv_s2_cal_mv
use Rattle.capi_s2.proofs.encryption.skv_s2_flash_encryption.Reads as skv_s2_flash_encryption
use Rattle.capi_s2.proofs.encryption.SkvFlashEncryptionFromResultBoolRefusal.from.Reads as flash_encryption_c
use Rattle.capi_s2.proofs.version.SkvVersionFromResultU8Refusal.from.Reads as version_c

pub skv_s2_version_one : OneAnswer (λ κs z e. z) skv_s2_version.Post
skv_s2_version_one κs a z z' e e' p q = p ∙ sym q

pub skv_s2_reading_vlow_one : OneAnswer (λ κs z e. z) skv_s2_reading_vlow.Post
skv_s2_reading_vlow_one κs a z z' e e' p q = p ∙ sym q

pub skv_s2_reading_vhigh_one : OneAnswer (λ κs z e. z) skv_s2_reading_vhigh.Post
skv_s2_reading_vhigh_one κs a z z' e e' p q = p ∙ sym q

pub skv_s2_reading_vinit_one : OneAnswer (λ κs z e. z) skv_s2_reading_vinit.Post
skv_s2_reading_vinit_one κs a z z' e e' p q = p ∙ sym q

pub skv_s2_skipped_vlow_one : OneAnswer (λ κs z e. z) skv_s2_skipped_vlow.Post
skv_s2_skipped_vlow_one κs a z z' e e' p q = p ∙ sym q

pub skv_s2_skipped_vhigh_one : OneAnswer (λ κs z e. z) skv_s2_skipped_vhigh.Post
skv_s2_skipped_vhigh_one κs a z z' e e' p q = p ∙ sym q

pub skv_s2_skipped_vinit_one : OneAnswer (λ κs z e. z) skv_s2_skipped_vinit.Post
skv_s2_skipped_vinit_one κs a z z' e e' p q = p ∙ sym q

pub skv_s2_init_code_one : OneAnswer (λ κs z e. z) skv_s2_init_code.Post
skv_s2_init_code_one κs a z z' e e' p q = p ∙ sym q

pub skv_s2_cal_code_one : OneAnswer (λ κs z e. z) skv_s2_cal_code.Post
skv_s2_cal_code_one κs a z z' e e' p q = p ∙ sym q

pub skv_s2_cal_mv_one : OneAnswer (λ κs z e. z) skv_s2_cal_mv.Post
skv_s2_cal_mv_one κs a z z' e e' p q = p ∙ sym q

pub skv_s2_flash_encryption_one : OneAnswer (λ κs z e. z) skv_s2_flash_encryption.Post
skv_s2_flash_encryption_one κs a z z' e e' p q = p ∙ sym q

pub flash_encryption_c_one : OneAnswer (λ κs z e. z) flash_encryption_c.Post
flash_encryption_c_one κs a z z' e e' p q = p ∙ sym q

pub version_c_one : OneAnswer (λ κs z e. z) version_c.Post
version_c_one κs a z z' e e' p q = p ∙ sym q

-- Each call's promise, as the check reads it from the source, admits one answer per input: it is an equation. Assumes nothing.
use mathlib.Core.Path.{sym, ◌∙◌}
use Rattle.terms.specs.OneAnswer.{OneAnswer}
use Rattle.capi_c6.proofs.version.skv_c6_version.Reads as skv_c6_version
use Rattle.capi_c6.proofs.code.skv_c6_init_code.Reads as skv_c6_init_code
use Rattle.capi_c6.proofs.code.skv_c6_cal_code.Reads as skv_c6_cal_code
use Rattle.capi_c6.proofs.channel.skv_c6_get_chan_compens.Reads as skv_c6_get_chan_compens
use Rattle.capi_c6.proofs.reference.skv_c6_cal_mv.Reads as skv_c6_cal_mv

pub skv_c6_version_one : OneAnswer (λ κs z e. z) skv_c6_version.Post
skv_c6_version_one κs a z z' e e' p q = p ∙ sym q

pub skv_c6_init_code_one : OneAnswer (λ κs z e. z) skv_c6_init_code.Post
skv_c6_init_code_one κs a z z' e e' p q = p ∙ sym q

pub skv_c6_cal_code_one : OneAnswer (λ κs z e. z) skv_c6_cal_code.Post
skv_c6_cal_code_one κs a z z' e e' p q = p ∙ sym q

pub skv_c6_get_chan_compens_one : OneAnswer (λ κs z e. z) skv_c6_get_chan_compens.Post
skv_c6_get_chan_compens_one κs a z z' e e' p q = p ∙ sym q

pub skv_c6_cal_mv_one : OneAnswer (λ κs z e. z) skv_c6_cal_mv.Post
skv_c6_cal_mv_one κs a z z' e e' p q = p ∙ sym q

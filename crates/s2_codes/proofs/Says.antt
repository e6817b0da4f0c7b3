-- The refusal and the value of a code are document 01's. Assumes nothing.
use mathlib.Core.Path.{◌≡◌, ◌∙◌, ap}
use mathlib.Core.Bool.{false}
use mathlib.Core.List.{List}
use Prim.Native.Nat.{ℕ}
use lib.IntN.{nat_abs}
use Rattle.terms.specs.Refusal.{plain}
use Rattle.terms.specs.Says.{Says}
use Rattle.terms.proofs.Says.{told_says}
use Rattle.s2_readings.specs.declared.tag.RtcCalibParam.{RtcCalibParam}
use Rattle.s2_readings.specs.Reading.{reading_of}
use Rattle.s2_readings.specs.Tag.{tag_of}
use Rattle.s2_codes.specs.Code.{code_told, code_of}
use Rattle.s2_codes.proofs.Codes.{code_table, code_accepted}

-- `rtc_calib_init_code` and `rtc_calib_cal_code`, by the parameter
module _ (lengths dump map : List ℕ) (unit atten : ℕ) (param : RtcCalibParam) where
  -- a refusal with number 0 tells nothing
  none : (code_told lengths dump map unit atten param).number ≡ 0 → code_told lengths dump map unit atten param ≡ plain 0
  none z =
      let p = code_accepted lengths dump map unit atten param z in
      code_table lengths dump map unit atten param p.0 ∙ ap plain p.1

  pub code_says :
      Says 0
      (code_of lengths dump map unit atten param) (code_told lengths dump map unit atten param)
      (nat_abs (reading_of dump false (tag_of 2 unit atten param)))
  unfolding code_of
  code_says = told_says 0 _ none _

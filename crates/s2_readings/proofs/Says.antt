-- The refusal and the value of each reading are document 01's. Assumes nothing.
use mathlib.Core.Bool.{true, false}
use mathlib.Core.List.{List, []}
use Prim.Native.Nat.{ℕ}
use lib.IntN.{pos}
use Rattle.terms.specs.Refusal.{plain, unit_refusal}
use Rattle.terms.specs.Says.{Says}
use Rattle.terms.proofs.Says.{says}
use Rattle.s2_readings.specs.declared.tag.RtcCalibParam.{RtcCalibParam}
use Rattle.s2_readings.specs.Reading.{reading_of, reading_refusal, calib_reading_of, table_refusal, table_reading_of, skipped_reading_of}
use Rattle.s2_readings.specs.Tag.{tag_of}

module _ (version unit atten : ℕ) (param : RtcCalibParam) where
  -- `rtc_calib_reading`
  pub reading_says : (lengths dump : List ℕ)
      → Says (pos 0)
      (calib_reading_of lengths dump version unit atten param) (plain (reading_refusal lengths dump version unit atten param))
      (reading_of dump false (tag_of version unit atten param))
  unfolding calib_reading_of
  reading_says lengths dump = says (pos 0) _ _

  -- `table_reading`
  pub table_says : (lengths dump : List ℕ)
      → Says (pos 0)
      (table_reading_of lengths dump version unit atten param) (plain (table_refusal lengths dump version unit atten param))
      (reading_of dump false (tag_of version unit atten param))
  unfolding table_reading_of
  table_says lengths dump = says (pos 0) _ _

  -- `rtc_calib_reading_skipped`
  pub skipped_says : Says (pos 0)
      (skipped_reading_of version unit atten param) (plain (unit_refusal unit atten)) (reading_of [] true (tag_of version unit atten param))
  unfolding skipped_reading_of
  skipped_says = says (pos 0) _ _

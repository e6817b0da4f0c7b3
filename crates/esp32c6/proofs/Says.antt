-- The refusal and the value of each answer are document 01's. Assumes nothing.
use mathlib.Core.List.{List}
use Prim.Native.Nat.{ℕ, ◌+◌, min}
use lib.IntN.{pos, nat_abs}
use Rattle.terms.specs.declared.chip.MapChip.TheVariants.{C6}
use Rattle.terms.specs.Says.{Says}
use Rattle.inputs.specs.Input.{decoding_refusal}
use Rattle.maps.specs.Told.{told_of}
use Rattle.maps.specs.Value.{value_by_id}
use Rattle.maps.proofs.Told.{map_says}
use Rattle.esp32c6.specs.Channel.{compens_of, chan_compens_of}
use Rattle.esp32c6.specs.Code.{code_refusal, init_code_of, cal_code, cal_code_of}
use Rattle.terms.specs.C6Version.{version_of}

module _ (lengths dump map : List ℕ) (minor unit atten : ℕ) where
  -- `rtc_calib_init_code`
  pub init_code_says : Says 0
      (init_code_of lengths dump map minor unit atten) (told_of lengths C6 map (code_refusal lengths dump map minor unit atten)) (value_by_id C6 dump map (9 + atten) + 1600)
  unfolding init_code_of
  init_code_says = map_says lengths map C6 0 _ _

  -- `rtc_calib_cal_code`
  pub cal_code_says : Says 0
      (cal_code_of lengths dump map minor unit atten) (told_of lengths C6 map (code_refusal lengths dump map minor unit atten))
      (nat_abs (cal_code (version_of minor) atten (value_by_id C6 dump map (13 + atten))))
  unfolding cal_code_of
  cal_code_says = map_says lengths map C6 0 _ _

-- `rtc_calib_get_chan_compens`
pub compens_says : (lengths dump map : List ℕ) (unit channel atten : ℕ)
    → Says (pos 0)
    (chan_compens_of lengths dump map unit channel atten) (told_of lengths C6 map (decoding_refusal lengths C6 dump map unit atten))
    (compens_of atten (value_by_id C6 dump map (17 + min channel 6)))
unfolding chan_compens_of
compens_says lengths dump map unit channel atten = map_says lengths map C6 (pos 0) _ _

-- What the C6's calls tell with their refusals: 12 is of no record, so that those of a record are the map's. Assumes nothing.
use mathlib.Core.Path.{◌≡◌, sym}
use mathlib.Core.Bool.{true, true≢false}
use mathlib.Core.List.{List}
use Prim.Native.Nat.{ℕ}
use Rattle.terms.specs.declared.chip.MapChip.TheVariants.{C6}
use Rattle.terms.specs.Exactly.{Exactly}
use Rattle.terms.specs.Refusal.{refusal_of}
use Rattle.maps.specs.Tells.{ToldWhen}
use Rattle.maps.specs.Told.{of_record}
use Rattle.maps.specs.When.{MapWhen}
use Rattle.maps.proofs.Tells.{told_exactly}
use Rattle.inputs.specs.When.{DecodingWhen}
use Rattle.inputs.proofs.Tells.{decoding_of_map, decoding_told}
use Rattle.esp32c6.specs.Channel.{chan_compens_of}
use Rattle.esp32c6.specs.Code.{init_code_of, cal_code_of}
use Rattle.esp32c6.specs.When.{CodeWhen, before, bad_version, good_version}
use Rattle.esp32c6.proofs.Exactly.{code_exactly}
use Rattle.esp32c6.proofs.Says.{init_code_says, cal_code_says, compens_says}

module _ (lengths dump map : List ℕ) (minor unit atten : ℕ) where
  code_of_map : (n : ℕ) → CodeWhen lengths dump map minor unit atten n → of_record n ≡ true → MapWhen lengths C6 map n
  code_of_map n (before k some) t = decoding_of_map lengths C6 dump map unit atten n k t
  code_of_map n (bad_version k v w) t = absurd (true≢false (sym t))
  code_of_map n (good_version k v) t = absurd (true≢false (sym t))

  -- `rtc_calib_init_code`
  pub init_code_told : Exactly (refusal_of (init_code_of lengths dump map minor unit atten)) (ToldWhen lengths C6 map (CodeWhen lengths dump map minor unit atten))
  init_code_told =
      rw (init_code_says lengths dump map minor unit atten).refusal_is
      (told_exactly lengths map C6 (code_exactly lengths dump map minor unit atten) code_of_map)

  -- `rtc_calib_cal_code`
  pub cal_code_told : Exactly (refusal_of (cal_code_of lengths dump map minor unit atten)) (ToldWhen lengths C6 map (CodeWhen lengths dump map minor unit atten))
  cal_code_told =
      rw (cal_code_says lengths dump map minor unit atten).refusal_is
      (told_exactly lengths map C6 (code_exactly lengths dump map minor unit atten) code_of_map)

-- `rtc_calib_get_chan_compens`
pub compens_told : (lengths dump map : List ℕ) (unit channel atten : ℕ)
    → Exactly (refusal_of (chan_compens_of lengths dump map unit channel atten)) (ToldWhen lengths C6 map (DecodingWhen lengths C6 dump map unit atten))
compens_told lengths dump map unit channel atten =
    rw (compens_says lengths dump map unit channel atten).refusal_is (decoding_told lengths C6 dump map unit atten)

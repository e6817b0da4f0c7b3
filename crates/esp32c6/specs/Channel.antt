-- Document 01, "S2, C6 and curves": the C6's compensation by channel, "as in the crate": `rtc_calib_get_chan_compens` of
-- efuse/esp32c6/mod.rs, from ESP-IDF's components/efuse/esp32c6/esp_efuse_rtc_calib.c, line 60. Its refusals: 1, 7, those of the map,
-- by document 02, #109, with 20 after 1.
use Rattle.std.specs.Prelude.{Result, List, ℕ, ◌+◌, ◌-◌, min, ℤ, pos, ◌*ℤ◌}
use Rattle.terms.specs.declared.chip.MapChip.TheVariants.{C6}
use Rattle.terms.specs.Refusal.{told}
use Rattle.terms.specs.Sign.{sign_magnitude}
use Rattle.inputs.specs.Input.{decoding_refusal}
use Rattle.maps.specs.Told.{told_of}
use Rattle.maps.specs.Value.{value_by_id}
use Rattle.terms.specs.declared.refusal.Refusal.{Refusal}

-- four bits in sign and magnitude, times 4 less the attenuation
unfoldable pub compens_of : ℕ → ℕ → ℤ
compens_of atten bits = sign_magnitude 4 bits *ℤ pos (4 - atten)

-- by the bits of ADC1_INIT_CODE_ATTEN0_CH0..6, ids 17 to 23: "Channels 6 and up use channel 6"
unfoldable pub chan_compens_of : List ℕ → List ℕ → List ℕ → ℕ → ℕ → ℕ → Result ℤ Refusal
chan_compens_of lengths dump map unit channel atten =
    told (told_of lengths C6 map (decoding_refusal lengths C6 dump map unit atten))
    (compens_of atten (value_by_id C6 dump map (17 + min channel 6)))

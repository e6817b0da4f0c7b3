-- What decoding tells with its refusal: 9 is of no record, so that those of a record are the map's. Assumes nothing.
use Rattle.std.proofs.Common.{◌≡◌, ℕ, true, List, sym, true≢false}
use Rattle.terms.specs.declared.chip.MapChip.TheVariants.{Esp32}
use Rattle.terms.specs.Exactly.{Exactly}
use Rattle.maps.specs.Tells.{ToldWhen}
use Rattle.maps.specs.Told.{of_record}
use Rattle.maps.specs.When.{MapWhen}
use Rattle.maps.proofs.Tells.{told_exactly}
use Rattle.inputs.proofs.Tells.{decoding_of_map}
use Rattle.terms.specs.Refusal.{refusal_of}
use Rattle.esp32.specs.Decode.{decode_of}
use Rattle.esp32.specs.When.{DecodeWhen, before, underflow, decoded}
use Rattle.esp32.proofs.Exactly.{decode_exactly}
use Rattle.esp32.proofs.Says.{decode_says}

module _ (lengths dump map : List ℕ) (unit atten : ℕ) where
  pub decode_of_map : (n : ℕ) → DecodeWhen lengths dump map unit atten n → of_record n ≡ true → MapWhen lengths Esp32 map n
  decode_of_map n (before k some) t = decoding_of_map lengths Esp32 dump map unit atten n k t
  decode_of_map n (underflow k u b) t = absurd (true≢false (sym t))
  decode_of_map n (decoded k b) t = absurd (true≢false (sym t))

  -- `decode`
  pub decode_told : Exactly (refusal_of (decode_of lengths dump map unit atten)) (ToldWhen lengths Esp32 map (DecodeWhen lengths dump map unit atten))
  decode_told =
      rw (decode_says lengths dump map unit atten).refusal_is
      (told_exactly lengths map Esp32 (decode_exactly lengths dump map unit atten) (decode_of_map))

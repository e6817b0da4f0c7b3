-- By eleven eights every call answers as document 01 has it: the list is good, each block has eight words, and of the S2's table no field lies
-- outside. Assumes nothing.
use mathlib.Core.Path.{◌≡◌, refl, sym, ◌∙◌}
use mathlib.Core.List.{List}
use Prim.Native.Nat.{ℕ, zero, suc, ◌+◌, ◌≤◌, ◌<◌}
use native.Mathlib.Omega.{arith}
use lib.IntN.{pos}
use lib.ListN.{length, get_or-eq_default}
use borrow.Author.Tests.{lt-ltb}
use Rattle.terms.specs.declared.chip.MapChip.{MapChip}
use Rattle.terms.specs.declared.chip.MapChip.TheVariants.{Esp32, S2, C6}
use Rattle.terms.specs.Refusal.{or_else, outcome_told, unit_refusal, raw_refusal}
use Rattle.terms.proofs.Check.{Check, at_most, also, rule}
use Rattle.terms.proofs.Order.{either, zero_or}
use Rattle.terms.proofs.Refusals.{by_number_refused}
use Rattle.dumps.specs.Dump.{dump_refusal}
use Rattle.dumps.specs.Lengths.{words_of, eights, each_at_most, lengths_refusal}
use Rattle.dumps.specs.View.{Lent, board_dump, block_refusal, view_refusal, view_of}
use Rattle.dumps.proofs.Views.{view_good}
use Rattle.efuse.specs.declared.field.EfuseField.{EfuseField}
use Rattle.efuse.specs.Field.{place_refusal, read_refusal, read_of, bytes_read}
use Rattle.maps.specs.Map.{field_of, ids_of, map_record_refusal, map_record_refusals, map_refusal, check_refusal}
use Rattle.maps.specs.Told.{told_of}
use Rattle.inputs.specs.Input.{fields_refusal, decoding_refusal}
use Rattle.esp32.specs.Decode.{decode_refusal, decode_of}
use Rattle.s2_readings.specs.declared.tag.RtcCalibParam.{RtcCalibParam}
use Rattle.s2_readings.specs.Chain.{chain_refusal}
use Rattle.s2_readings.specs.Reading.{chosen_refusal, reading_refusal, calib_reading_of}
use Rattle.s2_readings.specs.Rule.{after_links}
use Rattle.s2_readings.specs.Table.{entry, begin_bit, bit_length, calib_map, entry_at}
use Rattle.s2_readings.specs.Tag.{tag_of}
use Rattle.s2_readings.specs.When.{all_inside}
use Rattle.s2_readings.proofs.Links.{chain_exactly}
use Rattle.s2_readings.proofs.TableRule.{table_rule}
use Rattle.esp32s2.specs.Encryption.{flash_encryption_of}
use Rattle.esp32s2.specs.Version.{calib_version_of}
use Rattle.s2_codes.specs.Code.{version_refusal, code_told, code_of}
use Rattle.esp32c6.specs.Channel.{chan_compens_of}
use Rattle.esp32c6.specs.Code as c6
use Rattle.samples.specs.declared.log.Sample.{Sample}
use Rattle.samples.specs.Answer.{unit_of, atten_of, sample_decode_refusal, sample_decoded, sample_refusal, sample_converted}
use Rattle.eights.specs.Base.{dump_01, place_01, field_refusal_01, read_01, bytes_read_01, view_refusal_01, view_01, record_01, map_01, told_01, fields_01, decoding_01, decode_refusal_01, decode_01}
use Rattle.eights.specs.Base.{version_01, encryption_01, reading_01, code_refusal_01, code_01, c6_refusal_01, c6_init_01, c6_cal_01, compens_01}
use Rattle.eights.specs.Base.{sample_decode_refusal_01, sample_decoded_01, sample_refusal_01, sample_01}

-- a list of eights is good
good : lengths_refusal eights ≡ 0
unfolding lengths_refusal each_at_most
good = refl

-- each of the blocks 0 to 10 has eight words
each_check : (block : ℕ) → Check ((words_of eights block ≤ 8) × (8 ≤ words_of eights block))
each_check block = also (at_most (words_of eights block) 8) (at_most 8 (words_of eights block))

each : (block : ℕ) → block ≤ 10 → words_of eights block ≡ 8
unfolding each_check
each block h = let p = rule each_check 11 tt block (omega arith) in omega (arith, p)

dump_eights : (dump : List ℕ) → dump_refusal eights dump ≡ dump_01 dump
unfolding dump_refusal dump_01
dump_eights dump = rw good

place_eights : (f : EfuseField) → place_refusal eights f ≡ place_01 f
unfolding place_refusal place_01
place_eights f = either f.block 10 (λ h. rw (each f.block h)) (λ h. rw (lt-ltb _ _ h))

read_eights : (dump : List ℕ) (f : EfuseField) → read_refusal eights dump f ≡ field_refusal_01 dump f
unfolding read_refusal field_refusal_01
read_eights dump f = rw (dump_eights dump, place_eights f)

-- `read_field`, by the width, and `read_field_le`
pub field_read : (width : ℕ) (dump : List ℕ) (f : EfuseField) → read_of width eights dump f ≡ read_01 width dump f
unfolding read_of
field_read width dump f = rw (read_eights dump f)

pub field_bytes : (dump : List ℕ) (f : EfuseField) (lent : List ℕ) → bytes_read eights dump f lent ≡ bytes_read_01 dump f lent
unfolding bytes_read
field_bytes dump f lent = rw (read_eights dump f)

-- `check_view` and `view`
module _ (field reference : Lent) (board block : ℕ) where
  pub view_number : view_refusal eights field reference board block ≡ view_refusal_01 field reference board block
  unfolding view_refusal block_refusal view_refusal_01
  view_number = rw (dump_eights (board_dump field reference board).now)

  pub view_seen : view_of eights field reference board block ≡ view_01 field reference board block
  unfolding view_of
  view_seen =
      zero_or (view_refusal_01 field reference board block)
      (λ e.
      (let good_view = view_good eights field reference board block (view_number ∙ e) in
      rw (view_number, e, each block good_view.2)))
      (λ some. rw view_number (by_number_refused _ _ _ some ∙ sym (by_number_refused _ _ _ some)))

-- a map
module _ (map : List ℕ) where
  record_eights : (first k : ℕ) → map_record_refusals eights map first k ≡ record_01 map first k
  unfolding map_record_refusal
  record_eights first k = rw (place_eights (field_of map k))

  records : (first : ℕ) → map_record_refusals eights map first ≡ record_01 map first
  records first = λ i k. record_eights first k i

  module _ (chip : MapChip) where
    map_eights : map_refusal eights chip map ≡ map_01 chip map
    unfolding map_refusal map_01
    map_eights = rw (records (ids_of chip).first)

    told_eights : (number : ℕ) → told_of eights chip map number ≡ told_01 chip map number
    unfolding told_of told_01
    told_eights number = rw (records (ids_of chip).first)

    -- `check_map`
    pub map_checked : outcome_told (told_of eights chip map (check_refusal eights chip map)) ≡ outcome_told (told_01 chip map (map_01 chip map))
    unfolding check_refusal
    map_checked = rw (good, map_eights, told_eights (map_01 chip map))

    -- what goes by one
    module _ (dump : List ℕ) where
      fields_eights : fields_refusal eights chip dump map ≡ fields_01 chip dump map
      unfolding fields_refusal fields_01
      fields_eights = rw (dump_eights dump, map_eights)

      decoding_eights : (unit atten : ℕ) → decoding_refusal eights chip dump map unit atten ≡ decoding_01 chip dump map unit atten
      unfolding decoding_refusal decoding_01
      decoding_eights unit atten = rw (dump_eights dump, map_eights)

module _ (dump map : List ℕ) where
  -- the ESP32: `decode`
  module _ (unit atten : ℕ) where
    decode_number : decode_refusal eights dump map unit atten ≡ decode_refusal_01 dump map unit atten
    unfolding decode_refusal decode_refusal_01
    decode_number = rw (decoding_eights map Esp32 dump unit atten)

    pub decoded : decode_of eights dump map unit atten ≡ decode_01 dump map unit atten
    unfolding decode_of
    decoded = rw (decode_number, told_eights map Esp32 (decode_refusal_01 dump map unit atten))

  -- the S2: `rtc_calib_version` and `flash_encryption`
  pub s2_version : calib_version_of eights dump map ≡ version_01 dump map
  unfolding calib_version_of
  s2_version = rw (fields_eights map S2 dump, told_eights map S2 (fields_01 S2 dump map))

  pub s2_encryption : flash_encryption_of eights dump map ≡ encryption_01 dump map
  unfolding flash_encryption_of
  s2_encryption = rw (fields_eights map S2 dump, told_eights map S2 (fields_01 S2 dump map))

-- no field of the S2's table lies outside eight words
past_table : (tag : ℕ) → 32 < tag → length calib_map ≤ tag
unfolding calib_map
past_table tag h = h

ends : (tag : ℕ) → begin_bit (entry_at tag) + bit_length (entry_at tag) ≤ 256
unfolding entry_at
ends tag =
    either tag 32
    (λ h. (table_rule tag h).inside)
    (λ h. rw (get_or-eq_default calib_map (entry 0 0 0 (pos 0) 0) (past_table tag h)) (omega arith))

chain_eights : (tag : ℕ) → chain_refusal eights tag ≡ 0
chain_eights tag = (chain_exactly eights tag 0).1 (all_inside (λ k h. ends (after_links k tag)))

or_else_zero : (n : ℕ) → or_else n 0 ≡ n
or_else_zero zero = refl
or_else_zero (suc n) = refl

-- `rtc_calib_reading`
pub s2_reading : (dump : List ℕ) (version unit atten : ℕ) (param : RtcCalibParam)
    → calib_reading_of eights dump version unit atten param ≡ reading_01 dump version unit atten param
unfolding calib_reading_of reading_refusal chosen_refusal
s2_reading dump version unit atten param =
    rw (dump_eights dump, chain_eights (tag_of version unit atten param), or_else_zero (unit_refusal unit atten))

module _ (dump map : List ℕ) (unit atten : ℕ) where
  -- the S2's codes, by the parameter
  code_number : version_refusal eights dump map unit atten ≡ code_refusal_01 dump map unit atten
  unfolding version_refusal code_refusal_01
  code_number = rw (decoding_eights map S2 dump unit atten)

  code_whole : (param : RtcCalibParam) → code_told eights dump map unit atten param ≡ told_01 S2 map (code_refusal_01 dump map unit atten)
  unfolding code_told told_01
  code_whole param =
      zero_or (code_refusal_01 dump map unit atten)
      (λ e. rw (code_number, told_eights map S2 (code_refusal_01 dump map unit atten), chain_eights (tag_of 2 unit atten param), e))
      (λ some.
      rw (code_number, told_eights map S2 (code_refusal_01 dump map unit atten)) (by_number_refused _ _ _ some))

  pub s2_code : (param : RtcCalibParam) → code_of eights dump map unit atten param ≡ code_01 dump map unit atten param
  unfolding code_of
  s2_code param = rw (code_whole param)

  -- the C6's codes and compensation
  c6_number : (minor : ℕ) → c6.code_refusal eights dump map minor unit atten ≡ c6_refusal_01 dump map minor unit atten
  unfolding c6.code_refusal c6_refusal_01
  c6_number minor = rw (decoding_eights map C6 dump unit atten)

  pub c6_init : (minor : ℕ) → c6.init_code_of eights dump map minor unit atten ≡ c6_init_01 dump map minor unit atten
  unfolding c6.init_code_of
  c6_init minor = rw (c6_number minor, told_eights map C6 (c6_refusal_01 dump map minor unit atten))

  pub c6_cal : (minor : ℕ) → c6.cal_code_of eights dump map minor unit atten ≡ c6_cal_01 dump map minor unit atten
  unfolding c6.cal_code_of
  c6_cal minor = rw (c6_number minor, told_eights map C6 (c6_refusal_01 dump map minor unit atten))

  pub c6_compens : (channel : ℕ) → chan_compens_of eights dump map unit channel atten ≡ compens_01 dump map unit channel atten
  unfolding chan_compens_of
  c6_compens channel = rw (decoding_eights map C6 dump unit atten, told_eights map C6 (decoding_01 C6 dump map unit atten))

-- `decode_sample` and `sample`
module _ (field reference map : List ℕ) (s : Sample) where
  sample_number : sample_decode_refusal eights field reference map s ≡ sample_decode_refusal_01 field reference map s
  unfolding sample_decode_refusal sample_decode_refusal_01
  sample_number = rw (decode_number (board_dump field reference s.board) map (unit_of s) (atten_of s))

  pub sample_decoded_lem : sample_decoded eights field reference map s ≡ sample_decoded_01 field reference map s
  unfolding sample_decoded
  sample_decoded_lem = rw (sample_number, told_eights map Esp32 (sample_decode_refusal_01 field reference map s))

  pub sample_converted_lem : sample_converted eights field reference map s ≡ sample_01 field reference map s
  unfolding sample_converted sample_refusal sample_refusal_01
  sample_converted_lem =
      rw (sample_number, told_eights map Esp32 (or_else (sample_decode_refusal_01 field reference map s) (raw_refusal s.raw.0)))

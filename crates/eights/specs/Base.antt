-- Document 01's answers, as they were before document 02, #109: "blocks 0 to 10, eight words each", and no list. What has no block in it is
-- the definition that stands. By #102 a map's refusals tell their record; what decoding gives by #104 and #106 has no part in it.
use Rattle.std.specs.Prelude.{Result, Bool, ℤ, false, not, cond, ◌||◌, List, ℕ, ◌+◌, ◌*◌, min, ltb, eqb, nat_abs, length}
use Rattle.terms.specs.declared.chip.MapChip.{MapChip}
use Rattle.terms.specs.declared.chip.MapChip.TheVariants.{Esp32, S2, C6}
use Rattle.terms.specs.declared.refusal.Refusal.{Refusal}
use Rattle.terms.specs.declared.quantity.Millivolt.{Millivolt}
use Rattle.terms.specs.Refusal.{refuse, or_else, by_number, first_of, first_at, told, answered, unit_refusal, raw_refusal}
use Rattle.dumps.specs.View.{Lent, Seen, board_dump, part_of}
use Rattle.efuse.specs.declared.field.EfuseField.{EfuseField}
use Rattle.efuse.specs.Field.{field_bits, bytes_of}
use Rattle.maps.specs.Map.{record_byte, field_of, stray_of, ids_of, count_refusal}
use Rattle.maps.specs.Told.{of_record}
use Rattle.line_record.specs.declared.record.LineRecord.{LineRecord}
use Rattle.line.specs.Convert.{answer_at}
use Rattle.esp32.specs.Characterize.{basis_refusal}
use Rattle.esp32.specs.Decode.{basis_of, decoded_record}
use Rattle.s2_readings.specs.declared.tag.RtcCalibParam.{RtcCalibParam}
use Rattle.s2_readings.specs.Reading.{reading_of}
use Rattle.s2_readings.specs.Tag.{tag_of}
use Rattle.esp32s2.specs.Encryption.{odd_ones}
use Rattle.esp32s2.specs.Version.{version_of}
use Rattle.maps.specs.Value.{value_by_id}
use Rattle.esp32c6.specs.Channel.{compens_of}
use Rattle.esp32c6.specs.Code.{version_refusal, cal_code}
use Rattle.terms.specs.C6Version.{version_of as version_c6}
use Rattle.samples.specs.declared.log.Sample.{Sample}
use Rattle.samples.specs.Answer.{unit_of, atten_of, board_refusal, sample_record}

-- 1: the dump hasn't 88 words
unfoldable pub dump_01 : List ℕ → ℕ
dump_01 dump = refuse (not (eqb (length dump) 88)) 1 0

-- 4: block above 10
-- 5: bit start above 255, or start + count above 256
unfoldable pub place_01 : EfuseField → ℕ
place_01 f =
    refuse (ltb 10 f.block) 4
    (refuse (ltb 255 f.bit_start || ltb 256 (f.bit_start + f.bit_count)) 5 0)

-- "Field reading alone: 1, 4, 5"
unfoldable pub field_refusal_01 : List ℕ → EfuseField → ℕ
field_refusal_01 dump f = or_else (dump_01 dump) (place_01 f)

abbrev pub read_01 : ℕ → List ℕ → EfuseField → Result ℕ Refusal
read_01 width dump f = answered (field_refusal_01 dump f) (field_bits width dump f)

abbrev pub bytes_read_01 : List ℕ → EfuseField → List ℕ → List ℕ
bytes_read_01 dump f lent = by_number (field_refusal_01 dump f) (bytes_of dump f (length lent)) lent

-- the view: "Refusals in order 15, 1, 4"
unfoldable pub view_refusal_01 : Lent → Lent → ℕ → ℕ → ℕ
view_refusal_01 field reference board block =
    refuse (ltb 1 board) 15
    (or_else (dump_01 (board_dump field reference board).now)
    (refuse (ltb 10 block) 4 0))

-- "the eight words as a part of that board's dump"
abbrev pub view_01 : Lent → Lent → ℕ → ℕ → Seen
view_01 field reference board block =
    by_number (view_refusal_01 field reference board block) (part_of (board_dump field reference board) (8 * block) 8) (part_of field 0 0)

-- a map: "2, then map records first to last with 3, 4, 5, 6 within each", 18 after 3
abbrev pub record_01 : List ℕ → ℕ → ℕ → ℕ
record_01 map first k =
    refuse (not (eqb (record_byte map k 0) (first + k))) 3
    (refuse (not (eqb (stray_of map k) 0)) 18
    (or_else (place_01 (field_of map k))
    (count_refusal (first + k) (field_of map k).bit_count)))

unfoldable pub map_01 : MapChip → List ℕ → ℕ
map_01 chip map =
    refuse (not (eqb (length map) (8 * (ids_of chip).len))) 2
    (first_of (record_01 map (ids_of chip).first) 0 (ids_of chip).len)

-- what a call on a map tells with a number
abbrev pub bad_01 : MapChip → List ℕ → ℕ
bad_01 chip map = first_at (record_01 map (ids_of chip).first) 0 (ids_of chip).len

unfoldable pub told_01 : MapChip → List ℕ → ℕ → Refusal
told_01 chip map number =
    record {
      number = number;
      «record» = cond (of_record number) (bad_01 chip map) 0;
      place = cond (eqb number 18) (stray_of map (bad_01 chip map)) 0;
    }

-- "Order: 1, 7, 2, then map records", with no unit and with one
unfoldable pub fields_01 : MapChip → List ℕ → List ℕ → ℕ
fields_01 chip dump map = or_else (dump_01 dump) (map_01 chip map)

unfoldable pub decoding_01 : MapChip → List ℕ → List ℕ → ℕ → ℕ → ℕ
decoding_01 chip dump map unit atten = or_else (dump_01 dump) (or_else (unit_refusal unit atten) (map_01 chip map))

-- the ESP32: "then .. 9"
unfoldable pub decode_refusal_01 : List ℕ → List ℕ → ℕ → ℕ → ℕ
decode_refusal_01 dump map unit atten =
    or_else (decoding_01 Esp32 dump map unit atten) (basis_refusal unit atten (basis_of dump map unit))

abbrev pub decode_01 : List ℕ → List ℕ → ℕ → ℕ → Result LineRecord Refusal
decode_01 dump map unit atten =
    told (told_01 Esp32 map (decode_refusal_01 dump map unit atten)) (decoded_record dump map unit atten)

-- the S2: its version and flash encryption, its readings with 1, 7, and its codes with 12
abbrev pub version_01 : List ℕ → List ℕ → Result ℕ Refusal
version_01 dump map = told (told_01 S2 map (fields_01 S2 dump map)) (version_of dump map)

abbrev pub encryption_01 : List ℕ → List ℕ → Result Bool Refusal
encryption_01 dump map = told (told_01 S2 map (fields_01 S2 dump map)) (odd_ones (value_by_id S2 dump map 8))

abbrev pub reading_01 : List ℕ → ℕ → ℕ → ℕ → RtcCalibParam → Result ℤ Refusal
reading_01 dump version unit atten param =
    answered (or_else (dump_01 dump) (unit_refusal unit atten)) (reading_of dump false (tag_of version unit atten param))

unfoldable pub code_refusal_01 : List ℕ → List ℕ → ℕ → ℕ → ℕ
code_refusal_01 dump map unit atten =
    or_else (decoding_01 S2 dump map unit atten) (refuse (not (eqb (version_of dump map) 2)) 12 0)

abbrev pub code_01 : List ℕ → List ℕ → ℕ → ℕ → RtcCalibParam → Result ℕ Refusal
code_01 dump map unit atten param =
    told (told_01 S2 map (code_refusal_01 dump map unit atten)) (nat_abs (reading_of dump false (tag_of 2 unit atten param)))

-- the C6: its codes with 12, and its compensation
unfoldable pub c6_refusal_01 : List ℕ → List ℕ → ℕ → ℕ → ℕ → ℕ
c6_refusal_01 dump map minor unit atten = or_else (decoding_01 C6 dump map unit atten) (version_refusal minor)

abbrev pub c6_init_01 : List ℕ → List ℕ → ℕ → ℕ → ℕ → Result ℕ Refusal
c6_init_01 dump map minor unit atten =
    told (told_01 C6 map (c6_refusal_01 dump map minor unit atten)) (value_by_id C6 dump map (9 + atten) + 1600)

abbrev pub c6_cal_01 : List ℕ → List ℕ → ℕ → ℕ → ℕ → Result ℕ Refusal
c6_cal_01 dump map minor unit atten =
    told (told_01 C6 map (c6_refusal_01 dump map minor unit atten))
    (nat_abs (cal_code (version_c6 minor) atten (value_by_id C6 dump map (13 + atten))))

abbrev pub compens_01 : List ℕ → List ℕ → ℕ → ℕ → ℕ → Result ℤ Refusal
compens_01 dump map unit channel atten =
    told (told_01 C6 map (decoding_01 C6 dump map unit atten)) (compens_of atten (value_by_id C6 dump map (17 + min channel 6)))

-- a sample: "15, then decoding, then 8"
unfoldable pub sample_decode_refusal_01 : List ℕ → List ℕ → List ℕ → Sample → ℕ
sample_decode_refusal_01 field reference map s =
    or_else (board_refusal s)
    (decode_refusal_01 (board_dump field reference s.board) map (unit_of s) (atten_of s))

abbrev pub sample_decoded_01 : List ℕ → List ℕ → List ℕ → Sample → Result LineRecord Refusal
sample_decoded_01 field reference map s =
    told (told_01 Esp32 map (sample_decode_refusal_01 field reference map s)) (sample_record field reference map s)

unfoldable pub sample_refusal_01 : List ℕ → List ℕ → List ℕ → Sample → ℕ
sample_refusal_01 field reference map s = or_else (sample_decode_refusal_01 field reference map s) (raw_refusal s.raw.0)

abbrev pub sample_01 : List ℕ → List ℕ → List ℕ → Sample → Result Millivolt Refusal
sample_01 field reference map s =
    told (told_01 Esp32 map (sample_refusal_01 field reference map s))
    (record { 0 = answer_at (sample_record field reference map s) s.raw.0 })

-- Document 01, "Marked cases, one list under one statement", as document 02 has changed them: what each case asks of the library's
-- definitions, and what it must be.
use mathlib.Core.List.{List, [], ◌∷◌, ◌++◌, map, flatten}
use Rattle.std.specs.Prelude.{Result, ℕ, ◌+◌, ◌*◌, ◌-◌, ◌^◌, ℤ, pos, neg_ℤ, replicate}
use Rattle.terms.specs.declared.chip.Chip.{Chip}
use Rattle.terms.specs.declared.chip.Chip.TheVariants.{C3, S3}
use Rattle.terms.specs.declared.quantity.Millivolt.{Millivolt}
use Rattle.terms.specs.declared.refusal.Refusal.{Refusal}
use Rattle.terms.specs.Refusal.{refusal_of, value_of}
use Rattle.dumps.specs.Lengths.{eights}
use Rattle.line_record.specs.declared.record.LineRecord.{LineRecord}
use Rattle.esp32.specs.Code.{vref_of, two_point_code, low_of, high_of}
use Rattle.esp32.specs.Characterize.{top_of}
use Rattle.esp32.specs.Decode.{decode_of}
use Rattle.line_record.specs.Record.{no_record}
use Rattle.line.specs.Convert.{convert_of}
use Rattle.s2_readings.specs.declared.tag.RtcCalibParam.{RtcCalibParam}
use Rattle.s2_readings.specs.declared.tag.RtcCalibParam.TheVariants.{Vhigh, Vinit}
use Rattle.s2_readings.specs.Reading.{calib_reading_of}
use Rattle.esp32c6.specs.Code.{cal_code_of}
use Rattle.esp32c6.specs.Channel.{chan_compens_of}
use Rattle.curve.specs.Correct.{correct_of}

-- what is asked, and document 01's answer
pub record Case : Type 0 where
  pub asked : List ℤ
  pub answer : List ℤ

-- numbers without a sign
abbrev whole : List ℕ → List ℤ
whole = map pos

abbrev minus : ℕ → ℤ
minus n = neg_ℤ (pos n)

-- a dump of 88 words that are all the same
abbrev filled_with : ℕ → List ℕ
filled_with word = replicate 88 word

-- an ESP32 map: Vref's five bits at bit 0 of block 0, the reserve bit at its bit 8; in block 1 the low codes of unit 0 and 1 at bits 0
-- and 8, the high codes at 16 and 32
abbrev mapped : List ℕ
mapped =
    1 ∷ 0 ∷ 0 ∷ 0 ∷ 5 ∷ 0 ∷ 0 ∷ 0
    ∷ 2 ∷ 0 ∷ 8 ∷ 0 ∷ 1 ∷ 0 ∷ 0 ∷ 0
    ∷ 3 ∷ 1 ∷ 0 ∷ 0 ∷ 7 ∷ 0 ∷ 0 ∷ 0
    ∷ 4 ∷ 1 ∷ 8 ∷ 0 ∷ 7 ∷ 0 ∷ 0 ∷ 0
    ∷ 5 ∷ 1 ∷ 16 ∷ 0 ∷ 9 ∷ 0 ∷ 0 ∷ 0
    ∷ 6 ∷ 1 ∷ 32 ∷ 0 ∷ 9 ∷ 0 ∷ 0 ∷ 0
    ∷ []

-- a dump with the reserve bit set, these low and high codes for unit 0, and codes 1 for unit 1
abbrev two_points : ℕ → ℕ → List ℕ
two_points low high = 256 ∷ replicate 7 0 ++ ((low + 256 + 65536 * high) ∷ 1 ∷ replicate 78 0)

-- the record of unit 0 at 11 dB, and its a and b
abbrev decoded : List ℕ → LineRecord
decoded dump = value_of no_record (decode_of eights dump mapped 0 3)

abbrev a_and_b : List ℕ → List ℕ
a_and_b dump = (decoded dump).coeff_a ∷ (decoded dump).coeff_b ∷ []

-- a voltage's millivolts
abbrev millivolts : Result Millivolt Refusal → ℕ
millivolts voltage = (value_of (record { 0 = 0 }) voltage).0

-- the millivolts of a count by the record of a zero dump, whose Vref is 1100
abbrev converted : ℕ → ℕ
converted raw = millivolts (convert_of (decoded (filled_with 0)) raw)

-- t of unit 0's codes, and the number of their decoding at an attenuation
abbrev top : ℕ → ℕ → ℕ
top low high = top_of (low_of 0 low) (high_of 0 high)

abbrev number : ℕ → ℕ → ℕ → ℕ
number low high atten = (refusal_of (decode_of eights (two_points low high) mapped 0 atten)).number

-- the S2's reading of version 2. Its tags are unit × 4 + attenuation after 17 for the high reading, after 25 for the initial code
abbrev reading : List ℕ → ℕ → ℕ → RtcCalibParam → ℤ
reading dump unit atten param = value_of (pos 0) (calib_reading_of eights dump 2 unit atten param)

-- a C6 map whose fields all start at bit 0 of block 1, so that in a dump of equal words each has the low bits of the word
abbrev fields : ℕ → List ℕ → List (List ℕ)
fields count ids = map (λ id. id ∷ 1 ∷ 0 ∷ 0 ∷ count ∷ 0 ∷ 0 ∷ 0 ∷ []) ids

abbrev mapped_c6 : List ℕ
mapped_c6 =
    flatten (
    fields 8 (9 ∷ 10 ∷ 11 ∷ 12 ∷ [])
    ++ fields 10 (13 ∷ 14 ∷ 15 ∷ 16 ∷ [])
    ++ fields 4 (17 ∷ 18 ∷ 19 ∷ 20 ∷ 21 ∷ 22 ∷ 23 ∷ [])
    )

-- the C6's reference code and the compensation of channel 0, of unit 0, by the bits of the field
abbrev reference_code : ℕ → ℕ → ℕ → ℕ
reference_code minor atten bits = value_of 0 (cal_code_of eights (filled_with bits) mapped_c6 minor 0 atten)

abbrev compensation : ℕ → ℕ → ℤ
compensation bits atten = value_of (pos 0) (chan_compens_of eights (filled_with bits) mapped_c6 0 0 atten)

-- the curve's answer to a line answer of 1 mV, at 11 dB
abbrev corrected : Chip → ℕ → ℕ
corrected chip unit = millivolts (correct_of chip unit 3 (record { 0 = 1 }))

abbrev pub cases : List Case
cases =
    -- 1. "Vref codes 0x00, 0x10, 0x0F, 0x1F: 1100, 1100, 1205, 995"
    record { asked = whole (map vref_of (0 ∷ 16 ∷ 15 ∷ 31 ∷ [])); answer = whole (1100 ∷ 1100 ∷ 1205 ∷ 995 ∷ []) }
    -- 2. "Seven-bit 0x3F, 0x40, 0x41, 0x7F: 63, 0, −63, −1"
    ∷ record { asked = map (two_point_code 7) (63 ∷ 64 ∷ 65 ∷ 127 ∷ []); answer = pos 63 ∷ pos 0 ∷ minus 63 ∷ minus 1 ∷ [] }
    -- 3. "Vref 1100, unit 0, 11 dB: a 52798, b 142"
    ∷ record { asked = whole (a_and_b (filled_with 0)); answer = whole (52798 ∷ 142 ∷ []) }
    -- 4. "That record at 0, 2880, 2912, 2944, 4095: 142, 2462, 2483, 2502, 3134"
    ∷ record {
      asked = whole (map converted (0 ∷ 2880 ∷ 2912 ∷ 2944 ∷ 4095 ∷ []));
      answer = whole (142 ∷ 2462 ∷ 2483 ∷ 2502 ∷ 3134 ∷ []);
    }
    -- 5. "Two-point codes all 1, unit 0, 11 dB: a 52567, b 138"
    ∷ record { asked = whole (a_and_b (two_points 1 1)); answer = whole (52567 ∷ 138 ∷ []) }
    -- 6. "Unit 0, low code 63, high code −67 (0x1BD): t 850, accepted", at every attenuation; document 02, #104: "high code −68 [0x1BC],
    -- low code 63, unit 0 gives b 53 at 11 dB and is refused at 0 dB"
    ∷ record { asked = whole (top 63 445 ∷ map (number 63 445) (0 ∷ 1 ∷ 2 ∷ 3 ∷ [])); answer = whole (850 ∷ 0 ∷ 0 ∷ 0 ∷ 0 ∷ []) }
    ∷ record {
      asked = whole (number 63 444 3 ∷ (decoded (two_points 63 444)).coeff_b ∷ number 63 444 0 ∷ []);
      answer = whole (0 ∷ 53 ∷ 9 ∷ []);
    }
    -- 7. "S2, zero block: tags 17, 28, 32 give 6110, 1685, 1719"
    ∷ record {
      asked = reading (filled_with 0) 0 0 Vhigh ∷ reading (filled_with 0) 0 3 Vinit ∷ reading (filled_with 0) 1 3 Vinit ∷ [];
      answer = whole (6110 ∷ 1685 ∷ 1719 ∷ []);
    }
    -- 8. "S2, block all ones: tag 28 gives 1277, tag 24 gives 5077"
    ∷ record {
      asked = reading (filled_with (2 ^ 32 - 1)) 0 3 Vinit ∷ reading (filled_with (2 ^ 32 - 1)) 1 3 Vhigh ∷ [];
      answer = whole (1277 ∷ 5077 ∷ []);
    }
    -- 9. "C6 v2, 6 dB, 0x200: 2900; v1, 0x3FF: 989"
    ∷ record { asked = whole (reference_code 2 2 512 ∷ reference_code 1 0 1023 ∷ []); answer = whole (2900 ∷ 989 ∷ []) }
    -- 10. "C6 channel code 0xF at 0 dB and 11 dB: −28, −7"
    ∷ record { asked = map (compensation 15) (0 ∷ 3 ∷ []); answer = minus 28 ∷ minus 7 ∷ [] }
    -- 11. "C3 ADC1 11 dB, line answer 1: 2. S3 ADC2 11 dB, 1: 0"
    ∷ record { asked = whole (corrected C3 0 ∷ corrected S3 1 ∷ []); answer = whole (2 ∷ 0 ∷ []) }
    ∷ []

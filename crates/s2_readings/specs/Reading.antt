-- Document 01, "S2, C6 and curves": the readings of the S2's table. In esp-hal: `rtc_calib_parsed` and `rtc_calib_reading` of
-- efuse/esp32s2/mod.rs, from ESP-IDF's components/efuse/esp32s2/esp_efuse_rtc_table.c, line 145. Their refusals: 1, 7,
-- by document 02, #109, with 20 after 1, and 5 after 7.
use Rattle.std.specs.Prelude.{Result, Bool, true, false, not, cond, List, [], ℕ, zero, suc, ℤ, pos, ◌+ℤ◌, ◌*ℤ◌, length, ltb, eqb}
use Rattle.terms.specs.Refusal.{refuse, or_else, unit_refusal, answered}
use Rattle.terms.specs.Sign.{sign_magnitude}
use Rattle.dumps.specs.Dump.{dump_refusal}
use Rattle.dumps.specs.Lengths.{words_of}
use Rattle.efuse.specs.Field.{bits_of}
use Rattle.s2_readings.specs.declared.table.RtcCalibEntry.{RtcCalibEntry}
use Rattle.s2_readings.specs.declared.tag.RtcCalibParam.{RtcCalibParam}
use Rattle.terms.specs.declared.refusal.Refusal.{Refusal}
use Rattle.s2_readings.specs.Chain.{chain_refusal}
use Rattle.s2_readings.specs.Table.{begin_bit, bit_length, multiplier, base, depends, entry_at}
use Rattle.s2_readings.specs.Tag.{tag_of}

-- "its sign-magnitude field in block 2 times its multiplier"; "'skip the eFuse' drops the field term"
unfoldable pub term_of : List ℕ → Bool → RtcCalibEntry → ℤ
term_of dump skip e =
    cond skip (pos 0)
    (sign_magnitude (bit_length e) (bits_of dump 2 (begin_bit e) (bit_length e)) *ℤ multiplier e)

-- that term, "plus its base, plus the reading of the tag it depends on, down to tag 0, which is 0", or down to n links
unfoldable pub within : ℕ → List ℕ → Bool → ℕ → ℤ
within zero dump skip tag = pos 0
within (suc n) dump skip tag =
    cond (eqb tag 0) (pos 0)
    (term_of dump skip (entry_at tag) +ℤ base (entry_at tag) +ℤ within n dump skip (depends (entry_at tag)))

-- "each chain ends within four links"
unfoldable pub reading_of : List ℕ → Bool → ℕ → ℤ
reading_of = within 4

-- 7 for unit and attenuation
-- then 5 for the fields that are read: where version and parameter don't pair there is none
unfoldable pub chosen_refusal : List ℕ → ℕ → ℕ → ℕ → RtcCalibParam → ℕ
chosen_refusal lengths version unit atten param =
    or_else (unit_refusal unit atten)
    (chain_refusal lengths (tag_of version unit atten param))

-- 1 for the dump, 20 for the list
-- then those
unfoldable pub reading_refusal : List ℕ → List ℕ → ℕ → ℕ → ℕ → RtcCalibParam → ℕ
reading_refusal lengths dump version unit atten param =
    or_else (dump_refusal lengths dump)
    (chosen_refusal lengths version unit atten param)

unfoldable pub calib_reading_of : List ℕ → List ℕ → ℕ → ℕ → ℕ → RtcCalibParam → Result ℤ Refusal
calib_reading_of lengths dump version unit atten param =
    answered (reading_refusal lengths dump version unit atten param)
    (reading_of dump false (tag_of version unit atten param))

-- the same for a caller that has checked the list: only the length of block 2 is looked at
-- 1: the dump hasn't 88 words
-- 20: that length is above 8
-- then those
unfoldable pub table_refusal : List ℕ → List ℕ → ℕ → ℕ → ℕ → RtcCalibParam → ℕ
table_refusal lengths dump version unit atten param =
    refuse (not (eqb (length dump) 88)) 1
    (refuse (ltb 8 (words_of lengths 2)) 20
    (chosen_refusal lengths version unit atten param))

unfoldable pub table_reading_of : List ℕ → List ℕ → ℕ → ℕ → ℕ → RtcCalibParam → Result ℤ Refusal
table_reading_of lengths dump version unit atten param =
    answered (table_refusal lengths dump version unit atten param)
    (reading_of dump false (tag_of version unit atten param))

-- the same with the eFuse skipped, so that there is no dump
unfoldable pub skipped_reading_of : ℕ → ℕ → ℕ → RtcCalibParam → Result ℤ Refusal
skipped_reading_of version unit atten param =
    answered (unit_refusal unit atten) (reading_of [] true (tag_of version unit atten param))

-- Document 01, "S2, C6 and curves": the S2's calibration table. In esp-hal: `RTC_CALIB_MAP` of efuse/esp32s2/mod.rs, from ESP-IDF's
-- components/efuse/esp32s2/esp_efuse_rtc_table.c, lines 48 to 89.
use Rattle.std.specs.Prelude.{cond, List, [], ◌∷◌, ℕ, zero, suc, ◌+◌, ℤ, pos, neg_ℤ, get_or, eqb}
use Rattle.s2_readings.specs.declared.table.RtcCalibEntry.{RtcCalibEntry}

-- a tag's entry: the first bit and the length of its field in block 2, its multiplier, its base, and the tag that it depends on
abbrev pub entry : ℕ → ℕ → ℕ → ℤ → ℕ → RtcCalibEntry
entry begin length multiplier base depends =
    record { bit_start = begin; len = length; multiplier = pos multiplier; base = base; depends = depends }

abbrev pub begin_bit : RtcCalibEntry → ℕ
begin_bit e = e.bit_start

abbrev pub bit_length : RtcCalibEntry → ℕ
bit_length e = e.len

abbrev pub multiplier : RtcCalibEntry → ℤ
multiplier e = e.multiplier

abbrev pub base : RtcCalibEntry → ℤ
base e = e.base

abbrev pub depends : RtcCalibEntry → ℕ
depends e = e.depends

-- tag 0, then "tags 1 to 32": those from 1, 9, 17 and 25 on are "v1 low, v1 high, v2 high, v2 init"
unfoldable pub calib_map : List RtcCalibEntry
calib_map =
    entry 0 0 0 (pos 0) 0
    -- from 1 on
    ∷ entry 208 6 4 (pos 2231) 0
    ∷ entry 214 6 4 (pos 1643) 0
    ∷ entry 220 6 4 (pos 1290) 0
    ∷ entry 226 6 4 (pos 701) 0
    ∷ entry 232 6 4 (pos 2305) 0
    ∷ entry 238 6 4 (pos 1693) 0
    ∷ entry 244 6 4 (pos 1343) 0
    ∷ entry 250 6 4 (pos 723) 0
    -- from 9 on
    ∷ entry 144 8 4 (pos 5775) 0
    ∷ entry 152 8 4 (pos 5693) 0
    ∷ entry 160 8 4 (pos 5723) 0
    ∷ entry 168 8 4 (pos 6209) 0
    ∷ entry 176 8 4 (pos 5817) 0
    ∷ entry 184 8 4 (pos 5703) 0
    ∷ entry 192 8 4 (pos 5731) 0
    ∷ entry 200 8 4 (pos 6157) 0
    -- from 17 on
    ∷ entry 197 6 2 (pos 169) 19
    ∷ entry 203 6 2 (neg_ℤ (pos 26)) 19
    ∷ entry 209 9 2 (pos 126) 22
    ∷ entry 218 7 2 (pos 387) 19
    ∷ entry 225 7 2 (pos 177) 22
    ∷ entry 232 10 2 (pos 5815) 0
    ∷ entry 242 7 2 (pos 27) 22
    ∷ entry 249 7 2 (pos 410) 22
    -- from 25 on
    ∷ entry 147 8 2 (pos 1519) 0
    ∷ entry 155 6 2 (pos 88) 25
    ∷ entry 161 5 2 (pos 8) 26
    ∷ entry 166 6 2 (pos 70) 27
    ∷ entry 172 8 2 (pos 1677) 0
    ∷ entry 180 6 2 (pos 23) 29
    ∷ entry 186 5 2 (pos 6) 30
    ∷ entry 191 6 2 (pos 13) 31
    ∷ []

unfoldable pub entry_at : ℕ → RtcCalibEntry
entry_at tag = get_or calib_map tag (entry 0 0 0 (pos 0) 0)

-- a number of each entry, summed along a tag's chain, down to tag 0 or to n links
unfoldable pub along : (RtcCalibEntry → ℕ) → ℕ → ℕ → ℕ
along f zero tag = 0
along f (suc n) tag = cond (eqb tag 0) 0 (f (entry_at tag) + along f n (depends (entry_at tag)))

-- a tag's rank is how many links its chain has: "the longest have four links"
unfoldable pub rank_of : ℕ → ℕ
rank_of tag = along (λ e. 1) 4 tag

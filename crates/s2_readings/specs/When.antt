-- Document 01, "Numbers given when a call is turned down", and document 02, #109: when a reading gives each number. One with the eFuse
-- skipped has terms' `UnitWhen`.
-- A case says too that nothing before it is given; 0 is given where the call isn't turned down.
use Rattle.std.specs.Prelude.{◌≡◌, List, ℕ, ◌+◌, ◌*◌, ◌≤◌, ◌<◌, length}
use Rattle.terms.specs.When.{UnitWhen}
use Rattle.dumps.specs.Lengths.{words_of}
use Rattle.dumps.specs.When.{DumpWhen}
use Rattle.s2_readings.specs.declared.tag.RtcCalibParam.{RtcCalibParam}
use Rattle.s2_readings.specs.Chain.{link_field}
use Rattle.s2_readings.specs.Tag.{tag_of}

-- where the field ends that a tag's chain has after k links
abbrev pub link_end : ℕ → ℕ → ℕ
link_end tag k = (link_field tag k).bit_start + (link_field tag k).bit_count

-- 5: "if any field it reads lies outside" block 2's own length, which is 32 bits a word; "each chain ends within four links"
pub data ChainWhen (lengths : List ℕ) (tag : ℕ) : ℕ → Type 0 where
  outside : (k : ℕ) → k < 4 → 32 * words_of lengths 2 < link_end tag k → ChainWhen lengths tag 5
  all_inside : ((k : ℕ) → k < 4 → link_end tag k ≤ 32 * words_of lengths 2) → ChainWhen lengths tag 0

-- a reading, which takes no map: 1, 20, 7, 5
pub data ReadingWhen (lengths dump : List ℕ) (version unit atten : ℕ) (param : RtcCalibParam) : ℕ → Type 0 where
  reading_dump : {n : ℕ} → DumpWhen lengths dump n → (n ≡ 0 → ⊥) → ReadingWhen lengths dump version unit atten param n
  reading_unit : {n : ℕ} → DumpWhen lengths dump 0 → UnitWhen unit atten n → (n ≡ 0 → ⊥)
      → ReadingWhen lengths dump version unit atten param n
  reading_chain : {n : ℕ} → DumpWhen lengths dump 0 → UnitWhen unit atten 0 → ChainWhen lengths (tag_of version unit atten param) n
      → ReadingWhen lengths dump version unit atten param n

-- the same for a caller that has checked the list, of which only block 2's length is looked at: 1, 20, 7, 5
-- 1: "the dump hasn't 88 words"
-- 20: that length is above 8
pub data TableWhen (lengths dump : List ℕ) (version unit atten : ℕ) (param : RtcCalibParam) : ℕ → Type 0 where
  table_dump : (length dump ≡ 88 → ⊥) → TableWhen lengths dump version unit atten param 1
  table_lengths : length dump ≡ 88 → 8 < words_of lengths 2 → TableWhen lengths dump version unit atten param 20
  table_unit : {n : ℕ} → length dump ≡ 88 → words_of lengths 2 ≤ 8 → UnitWhen unit atten n → (n ≡ 0 → ⊥)
      → TableWhen lengths dump version unit atten param n
  table_chain : {n : ℕ} → length dump ≡ 88 → words_of lengths 2 ≤ 8 → UnitWhen unit atten 0
      → ChainWhen lengths (tag_of version unit atten param) n → TableWhen lengths dump version unit atten param n

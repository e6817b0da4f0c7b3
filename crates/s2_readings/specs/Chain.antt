-- Document 02, #109: "an S2 reading is [refused], after 12, if any field it reads lies outside": those of its tag and of the tags that this
-- one depends on, each in block 2.
use Rattle.std.specs.Prelude.{List, ℕ}
use Rattle.terms.specs.Refusal.{first_of}
use Rattle.efuse.specs.declared.field.EfuseField.{EfuseField}
use Rattle.efuse.specs.Field.{place_refusal}
use Rattle.s2_readings.specs.declared.table.RtcCalibEntry.{RtcCalibEntry}
use Rattle.s2_readings.specs.Rule.{after_links}
use Rattle.s2_readings.specs.Table.{begin_bit, bit_length, entry_at}

-- "its .. field in block 2"; that of tag 0 is empty, and lies in any block
abbrev pub field_of : RtcCalibEntry → EfuseField
field_of e = record { block = 2; bit_start = begin_bit e; bit_count = bit_length e }

-- the field of the tag that a chain has come to after k links
abbrev pub link_field : ℕ → ℕ → EfuseField
link_field tag k = field_of (entry_at (after_links k tag))

-- 5: a field of the chain lies outside; "each chain ends within four links"
unfoldable pub chain_refusal : List ℕ → ℕ → ℕ
chain_refusal lengths tag = first_of (λ k. place_refusal lengths (link_field tag k)) 0 4

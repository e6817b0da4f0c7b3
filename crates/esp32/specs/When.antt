-- Document 01, "Numbers given when a call is turned down": when decoding gives each number: "1, 7, 2, then map records first to last with
-- 3, 4, 5, 6 within each, then .. 9"; document 02 has 18 after 3 (#102) and 20 after 1 (#109), and says when 9 (#104). A case says too that
-- nothing before it is given; 0 is given where decoding isn't turned down.
use Rattle.std.specs.Prelude.{◌≡◌, ℕ, true, List, ℤ, pos, ◌≤ℤ◌, ◌<ℤ◌, ◌≢◌}
use Rattle.terms.specs.declared.chip.MapChip.TheVariants.{Esp32}
use Rattle.inputs.specs.When.{DecodingWhen}
use Rattle.esp32.specs.Code.{low_of, high_of}
use Rattle.esp32.specs.Characterize.{tp_offset, top_of, b_of}
use Rattle.esp32.specs.Decode.{two_point_used, low_bits, high_bits}

-- document 01's t of a unit
abbrev pub top_for : List ℕ → List ℕ → ℕ → ℕ
top_for dump map unit = top_of (low_of unit (low_bits dump map unit)) (high_of unit (high_bits dump map unit))

-- "the whole number 850 − t + offset" of a unit at an attenuation
abbrev pub b_for : List ℕ → List ℕ → ℕ → ℕ → ℤ
b_for dump map unit atten = b_of (top_for dump map unit) (tp_offset unit atten)

-- 1, 20, 7 and those of the map
-- 9: "two-point coefficient underflow": "b is the whole number 850 − t + offset, and refusal 9 is given exactly if it is negative"
pub data DecodeWhen (lengths dump map : List ℕ) (unit atten : ℕ) : ℕ → Type 0 where
  before : {n : ℕ} → DecodingWhen lengths Esp32 dump map unit atten n → (n ≢ 0) → DecodeWhen lengths dump map unit atten n
  underflow : DecodingWhen lengths Esp32 dump map unit atten 0 → two_point_used dump map ≡ true → b_for dump map unit atten <ℤ pos 0
      → DecodeWhen lengths dump map unit atten 9
  decoded : DecodingWhen lengths Esp32 dump map unit atten 0 → (two_point_used dump map ≡ true → pos 0 ≤ℤ b_for dump map unit atten)
      → DecodeWhen lengths dump map unit atten 0

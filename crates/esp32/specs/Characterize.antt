-- Document 01, "ESP32 line rules": a and b, by two points or by Vref (in `vref`); document 02, #104: b by two points, and refusal 9.
-- In esp-hal: `characterize_using_two_point` of calibration/line/esp32.rs, which cites ESP-IDF's
-- components/esp_adc/esp32/adc_cali_line_fitting.c, line 155.
use Rattle.std.specs.Prelude.{ℕ, ◌+◌, ◌-◌, ◌*◌, ◌/◌, List, [], ◌∷◌, ℤ, pos, ◌+ℤ◌, ◌-ℤ◌, int_lt, unsigned_abs}
use Rattle.terms.specs.Refusal.{refuse}
use Rattle.terms.specs.Unit.{entry_of}
use Rattle.vref.specs.declared.coefficients.Coefficients.{Coefficients}
use Rattle.vref.specs.Coefficients.{vref_line}
use Rattle.esp32.specs.declared.characterize.Basis.{Basis}
use Rattle.esp32.specs.declared.characterize.Basis.TheVariants.{TwoPoint, Vref}
use Rattle.esp32.specs.Code.{low_of, high_of}

-- "Scales and offsets are the crate's four-entry tables", of which each unit has its own, with an entry for each attenuation
abbrev pub adc1_tp_scale : List ℕ
adc1_tp_scale = 65504 ∷ 86975 ∷ 120389 ∷ 224310 ∷ []

abbrev pub adc2_tp_scale : List ℕ
adc2_tp_scale = 65467 ∷ 86861 ∷ 120416 ∷ 224708 ∷ []

abbrev pub adc1_tp_offset : List ℕ
adc1_tp_offset = 0 ∷ 1 ∷ 27 ∷ 54 ∷ []

abbrev pub adc2_tp_offset : List ℕ
adc2_tp_offset = 0 ∷ 9 ∷ 26 ∷ 66 ∷ []

unfoldable pub tp_scale : ℕ → ℕ → ℕ
tp_scale unit atten = entry_of unit atten adc1_tp_scale adc2_tp_scale

unfoldable pub tp_offset : ℕ → ℕ → ℕ
tp_offset unit atten = entry_of unit atten adc1_tp_offset adc2_tp_offset

-- "Two-point: d = high − low". "a = (700 × scale + d/2) / d", "Whole division throughout"
unfoldable pub two_point_a : ℕ → ℕ → ℕ → ℕ
two_point_a scale low high = let d : ℕ = high - low in (700 * scale + d / 2) / d

-- "t = (700 × high + d/2) / d"
unfoldable pub top_of : ℕ → ℕ → ℕ
top_of low high = let d : ℕ = high - low in (700 * high + d / 2) / d

-- "b is the whole number 850 − t + offset": a sum with sign
unfoldable pub b_of : ℕ → ℕ → ℤ
b_of t offset = pos 850 -ℤ pos t +ℤ pos offset

-- "and refusal 9 is given exactly if it is negative"
unfoldable pub b_refusal : ℕ → ℕ → ℕ
b_refusal t offset = refuse (int_lt (b_of t offset) (pos 0)) 9 0

-- b as a record has it. A refused one has no record, so that `nat_abs` loses no sign (specs/ExactSum)
unfoldable pub two_point_b : ℕ → ℕ → ℕ
two_point_b t offset = unsigned_abs (b_of t offset)

-- a and b by two points
abbrev pub two_point_line : ℕ → ℕ → ℕ → ℕ → Coefficients
two_point_line unit atten low high =
    record { a = two_point_a (tp_scale unit atten) low high; b = two_point_b (top_of low high) (tp_offset unit atten) }

-- 9 by two points
abbrev pub two_point_refusal : ℕ → ℕ → ℕ → ℕ → ℕ
two_point_refusal unit atten low high = b_refusal (top_of low high) (tp_offset unit atten)

-- A basis is `TwoPoint`, with the raw bits of the unit's low and high codes, or `Vref`: a and b from it
unfoldable pub coefficients_of : ℕ → ℕ → ℕ → Basis → Coefficients
coefficients_of unit atten vref (TwoPoint low high) = two_point_line unit atten (low_of unit low) (high_of unit high)
coefficients_of unit atten vref Vref = vref_line unit atten vref

-- 9 from it; Vref never gives it
unfoldable pub basis_refusal : ℕ → ℕ → Basis → ℕ
basis_refusal unit atten (TwoPoint low high) = two_point_refusal unit atten (low_of unit low) (high_of unit high)
basis_refusal unit atten Vref = 0

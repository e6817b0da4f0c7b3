-- What private functions ask of their arguments, which every field and unit keeps, and what one promises. No public promise cites it.
use Rattle.std.specs.Prelude.{ℕ, ◌+◌, ◌-◌, ◌*◌, ◌^◌, ◌<◌, ◌≤◌, ◌++◌, slice_index}
use Rattle.vref.specs.declared.coefficients.Atten.{Atten}
use Rattle.esp32.specs.declared.characterize.Basis.{Basis}
use Rattle.esp32.specs.declared.characterize.Basis.TheVariants.{TwoPoint, Vref}
use Rattle.esp32.specs.Characterize.{adc1_tp_scale, adc2_tp_scale, adc1_tp_offset, adc2_tp_offset}

-- a code of that width, at a base that it doesn't take below zero
pub record Coded (base width bits : ℕ) : Type 0 where
  pub some : 1 ≤ width
  pub short : width ≤ 9
  pub inside : bits < 2 ^ width
  pub room : 4 * 2 ^ (width - 1) ≤ base
  pub most : base ≤ 3406

-- a unit's points: "d = high − low (never below 1713)", and the largest high is 3406 + 4 × 255
pub record Apart (low high : ℕ) : Type 0 where
  pub least : low + 1713 ≤ high
  pub most : high ≤ 4426

-- a basis's codes, which "7 and 9 bits" can hold
abbrev pub InBits : Basis → Type 0
InBits (TwoPoint low high) = (low < 128) × (high < 512)
InBits Vref = Unit

-- the scale and the offset by two points at unit × 4 + attenuation
abbrev pub tp_atten_of : ℕ → Atten
tp_atten_of k = record { 0 = slice_index (adc1_tp_scale ++ adc2_tp_scale) k; 1 = slice_index (adc1_tp_offset ++ adc2_tp_offset) k }

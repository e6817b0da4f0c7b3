-- What a private function promises of the tables. No public promise cites it.
use Rattle.std.specs.Prelude.{◌++◌, ℕ, ◌+◌, ◌*◌, get_or}
use Rattle.vref.specs.Coefficients.{adc1_vref_scale, adc2_vref_scale, adc1_vref_offset, adc2_vref_offset}

-- the offset and the scale at unit × 4 + attenuation, as one number
abbrev pub packed_of : ℕ → ℕ
packed_of k = get_or (adc1_vref_offset ++ adc2_vref_offset) k 0 * 4294967296 + get_or (adc1_vref_scale ++ adc2_vref_scale) k 0

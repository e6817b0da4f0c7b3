-- Document 01, "ESP32 line rules", and the order of "Numbers given when a call is turned down" for decoding: "1, 7, 2, then map
-- records first to last with 3, 4, 5, 6 within each, then .. 9"; by document 02, 18 comes after 3 (#102), and 20 after 1 (#109). A dump
-- is the list of its words, a map and a list of block lengths that of its bytes. In esp-hal: `new_cal` and `check_efuse_tp` of calibration/line/esp32.rs, which cites ESP-IDF's
-- components/esp_adc/esp32/adc_cali_line_fitting.c, line 155.
use Rattle.std.specs.Prelude.{Result, ℕ, Bool, cond, not, ◌&&◌, List, ◌==◌}
use Rattle.terms.specs.declared.chip.MapChip.TheVariants.{Esp32}
use Rattle.terms.specs.declared.refusal.Refusal.{Refusal}
use Rattle.terms.specs.Refusal.{or_else, told}
use Rattle.terms.specs.Unit.{by_unit}
use Rattle.inputs.specs.Input.{decoding_refusal}
use Rattle.maps.specs.Told.{told_of}
use Rattle.maps.specs.Value.{value_by_id}
use Rattle.line_record.specs.declared.record.LineRecord.{LineRecord}
use Rattle.line_record.specs.declared.record.Source.{Source}
use Rattle.line_record.specs.declared.record.Source.TheVariants as source
use Rattle.esp32.specs.declared.characterize.Basis.{Basis}
use Rattle.esp32.specs.declared.characterize.Basis.TheVariants.{TwoPoint, Vref}
use Rattle.esp32.specs.declared.decode.Found.{Found}
use Rattle.esp32.specs.Code.{vref_of}
use Rattle.esp32.specs.Characterize.{coefficients_of, basis_refusal}

-- id 2 is BLK3_PART_RESERVE, 3 and 4 are ADC1_TP_LOW and ADC2_TP_LOW, 5 and 6 ADC1_TP_HIGH and ADC2_TP_HIGH.
-- "Two-point is used exactly if the reserve bit is 1 and all four codes' raw bits are nonzero"
unfoldable pub two_point_used : List ℕ → List ℕ → Bool
two_point_used dump map =
    (value_by_id Esp32 dump map 2 == 1)
    && not (value_by_id Esp32 dump map 3 == 0)
    && not (value_by_id Esp32 dump map 4 == 0)
    && not (value_by_id Esp32 dump map 5 == 0)
    && not (value_by_id Esp32 dump map 6 == 0)

-- the raw bits of a unit's low and high codes
abbrev pub low_bits : List ℕ → List ℕ → ℕ → ℕ
low_bits dump map unit = by_unit unit (value_by_id Esp32 dump map 3) (value_by_id Esp32 dump map 4)

abbrev pub high_bits : List ℕ → List ℕ → ℕ → ℕ
high_bits dump map unit = by_unit unit (value_by_id Esp32 dump map 5) (value_by_id Esp32 dump map 6)

-- "else Vref"
unfoldable pub basis_of : List ℕ → List ℕ → ℕ → Basis
basis_of dump map unit = cond (two_point_used dump map) (TwoPoint (low_bits dump map unit) (high_bits dump map unit)) Vref

-- what a record is made from: where a and b come from, the raw bits of ADC_VREF, which is id 1, and a and b
unfoldable pub found_of : List ℕ → List ℕ → ℕ → ℕ → Found
found_of dump map unit atten =
    let basis : Basis = basis_of dump map unit in
    let vref : ℕ = value_by_id Esp32 dump map 1 in
    record { basis = basis; vref = vref; line = coefficients_of unit atten (vref_of vref) basis }

-- document 02, #106: "The line record gains its source", which is two points or Vref, without the codes
unfoldable pub source_of : Basis → Source
source_of (TwoPoint low high) = source.TwoPoint
source_of Vref = source.Vref

-- the record made from it; its Vref is that of id 1, whatever a and b come from. "The line record gains .. its attenuation"
abbrev pub record_from : Found → ℕ → ℕ → LineRecord
record_from found unit atten =
    record {
      coeff_a = found.line.a;
      coeff_b = found.line.b;
      vref = vref_of found.vref;
      unit = unit;
      atten = atten;
      source = source_of found.basis;
    }

unfoldable pub decoded_record : List ℕ → List ℕ → ℕ → ℕ → LineRecord
decoded_record dump map unit atten = record_from (found_of dump map unit atten) unit atten

-- 1, 20, 7 and those of the map, then 9
unfoldable pub decode_refusal : List ℕ → List ℕ → List ℕ → ℕ → ℕ → ℕ
decode_refusal lengths dump map unit atten =
    or_else (decoding_refusal lengths Esp32 dump map unit atten)
    (basis_refusal unit atten (basis_of dump map unit))

-- "Decoding answers a record or one number"
unfoldable pub decode_of : List ℕ → List ℕ → List ℕ → ℕ → ℕ → Result LineRecord Refusal
decode_of lengths dump map unit atten =
    told (told_of lengths Esp32 map (decode_refusal lengths dump map unit atten)) (decoded_record dump map unit atten)

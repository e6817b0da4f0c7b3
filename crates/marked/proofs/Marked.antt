-- Document 01's marked cases hold: what is asked computes to what it says, all in one. Assumes nothing.
use mathlib.Core.Path.{◌≡◌, refl}
use mathlib.Core.List.{map, flatten}
use Rattle.terms.specs.Refusal.{first_of, unit_refusal, raw_refusal}
use Rattle.terms.specs.Sign.{sign_magnitude}
use Rattle.dumps.specs.Dump.{dump_refusal}
use Rattle.dumps.specs.Lengths.{each_at_most, lengths_refusal}
use Rattle.efuse.specs.Field.{bits_of, place_refusal, field_bits}
use Rattle.maps.specs.Map.{count_refusal, map_record_refusal, map_refusal}
use Rattle.maps.specs.Told.{told_of}
use Rattle.inputs.specs.Input.{decoding_refusal}
use Rattle.maps.specs.Value.{value_by_id}
use Rattle.vref.specs.Coefficients.{vref_scale, vref_offset}
use Rattle.esp32.specs.Code.{vref_of, two_point_code, point_of, low_of, high_of}
use Rattle.esp32.specs.Characterize.{tp_scale, tp_offset, two_point_a, top_of, b_of, b_refusal, two_point_b, coefficients_of, basis_refusal}
use Rattle.esp32.specs.Decode.{two_point_used, basis_of, source_of, found_of, decoded_record, decode_refusal, decode_of}
use Rattle.line_record.specs.Record.{uses_lookup, line_in_ranges, converter_in_ranges, has_vref_line, fits_source, good_record, record_refusal}
use Rattle.lut.specs.Row.{low_at, high_at}
use Rattle.lut.specs.Lookup.{numerator_at, voltage_at}
use Rattle.line.specs.Convert.{line_voltage, blend_of, beyond_line, answer_at, convert_refusal, convert_of}
use Rattle.s2_readings.specs.Table.{calib_map, entry_at}
use Rattle.s2_readings.specs.Tag.{by_version, tag_of}
use Rattle.s2_readings.specs.Chain.{chain_refusal}
use Rattle.s2_readings.specs.Rule.{after_links}
use Rattle.s2_readings.specs.Reading.{term_of, within, reading_of, chosen_refusal, reading_refusal, calib_reading_of}
use Rattle.terms.specs.C6Version.{version_of}
use Rattle.esp32c6.specs.Code.{version_refusal, code_refusal, offset_of, cal_code, cal_code_of}
use Rattle.esp32c6.specs.Channel.{compens_of, chan_compens_of}
use Rattle.curves.specs.Decimal.{nearest, doublings, scaled, magnitude, coefficient}
use Rattle.curve.specs.Table.{table_of}
use Rattle.curve.specs.Correct.{correct_refusal, correct_of}
use Rattle.curves.specs.Error.{horner, error_of, corrected_of}
use Rattle.marked.specs.Cases.{Case, cases}

pub marked : map (λ (c : Case). c.asked) cases ≡ map (λ (c : Case). c.answer) cases
unfolding
    vref_of two_point_code point_of low_of high_of sign_magnitude
    tp_scale tp_offset vref_scale vref_offset two_point_a top_of b_of b_refusal two_point_b coefficients_of basis_refusal
    uses_lookup line_in_ranges converter_in_ranges has_vref_line fits_source good_record record_refusal
    low_at high_at numerator_at voltage_at line_voltage blend_of beyond_line answer_at convert_refusal convert_of
    first_of each_at_most lengths_refusal dump_refusal bits_of place_refusal field_bits count_refusal map_record_refusal map_refusal told_of decoding_refusal value_by_id
    two_point_used basis_of source_of found_of decoded_record decode_refusal decode_of
    flatten calib_map entry_at by_version tag_of term_of within reading_of after_links chain_refusal chosen_refusal reading_refusal calib_reading_of
    version_of version_refusal code_refusal offset_of cal_code cal_code_of compens_of chan_compens_of
    nearest doublings scaled magnitude coefficient table_of horner error_of corrected_of correct_refusal correct_of unit_refusal raw_refusal
marked = refl

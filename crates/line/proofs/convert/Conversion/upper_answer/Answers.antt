-- `line::Conversion::upper_answer` meets its contract: past the line the lookup has the count, and the test says which of the two it is.
use mathlib.Core.Path.{◌≡◌, sym, ◌∙◌}
use Prim.Native.Nat.{◌-◌}
use native.Mathlib.Omega.{arith}
use Rattle.line.proofs.Answers.{beyond_line_lem, answer_blend, blend_mean}
use Rattle.line.proofs.Exactly.{convert_good}
use Rattle.line.proofs.Lookups.{has_count}
use Rattle.line_record.proofs.Records.{record_converter}
use Rattle.line.proofs.convert.Conversion.upper_answer.Goals as goal

pub invariant_of-count : goal.invariant_of-count
invariant_of-count c =
    let good = convert_good _ _ c.args.self.accepted in
    record { has = has_count _ _ (record_converter _ good.0) (beyond_line_lem _ _ c.requires).1 good.1 }

pub returns : goal.returns
returns c =
    let past = beyond_line_lem _ _ c.requires in
    let left : 2944 - c.args.self.raw ≡ 64 - (c.args.self.raw - 2880) = omega arith in
    c.interpolate_two_points.ensures
    ∙ rw (left, c.calculate_voltage_linear-linear.ensures, c.calculate_voltage_lut-lut_voltage.ensures)
    (blend_mean _ _ _ (omega arith) ∙ sym (answer_blend _ _ past.0 past.1 c.if-self-gt-LUT_HIGH_THRESH.false))

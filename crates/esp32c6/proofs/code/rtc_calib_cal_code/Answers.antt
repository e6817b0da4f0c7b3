-- `esp32c6::rtc_calib_cal_code` meets its contract: where nothing is refused the attenuation's field has ten bits.
use mathlib.Core.Path.{◌≡◌, ap}
use Prim.Native.Nat.{◌+◌, ◌≤◌}
use native.Mathlib.Omega.{arith}
use lib.IntN.{ℤ, nat_abs}
use Rattle.std.specs.Prelude.{Ok}
use Rattle.std.proofs.lemmas.Result.{err_from_is_err_and}
use Rattle.terms.specs.declared.chip.MapChip.TheVariants.{C6}
use Rattle.terms.proofs.Refusals.{handed_on}
use Rattle.maps.proofs.Told.{told_went_well, map_good}
use Rattle.inputs.specs.Input.{fields_refusal}
use Rattle.maps.specs.Value.{value_by_id}
use Rattle.inputs.proofs.Values.{value_is}
use Rattle.esp32c6.specs.Code.{cal_code, cal_code_of}
use Rattle.esp32c6.proofs.Codes.{code_good, offset_range}
use Rattle.esp32c6.proofs.Fields.{cal_fits}
use Rattle.esp32c6.proofs.code.rtc_calib_cal_code.Goals as goal
use Rattle.esp32c6.proofs.code.rtc_calib_cal_code.Goals.{After-record_value-cal_vol}

good : (c : After-record_value-cal_vol) → (fields_refusal c.args.lengths.now C6 c.args.dump.now c.args.map.now ≡ 0) × (c.args.atten ≤ 3)
good c = code_good _ _ _ _ _ _ (told_went_well _ _ _ c.in_ok-check_code.ensures)

value : (c : After-record_value-cal_vol)
    → c.record_value-cal_vol.result ≡ value_by_id C6 c.args.dump.now c.args.map.now (13 + c.args.atten)
value c = let g = good c in value_is _ _ _ _ g.0 _ _ (omega arith) (omega arith) c.record_value-cal_vol.ensures

pub returns-in_err-check_code : goal.returns-in_err-check_code
unfolding cal_code_of
returns-in_err-check_code c =
    let p = err_from_is_err_and c.from_residual.result c.from_residual.ensures.1 in
    rw (p.1, p.2) (handed_on _ _ c.in_err-check_code.ensures)

pub cal_code-requires : goal.cal_code-requires
cal_code-requires c =
    let here = (goal.at.cal_code-requires c).After-record_value-cal_vol in
    let g = good here in
    rw (c.chk_offset.ensures, value here) ((offset_range _ _).0, (offset_range _ _).1, cal_fits _ _ _ g.0 _ g.1)

pub returns : goal.returns
unfolding cal_code_of cal_code
returns c =
    let code = rw (c.chk_offset.ensures, c.rtc_calib_version.ensures, value (goal.at.returns c).After-record_value-cal_vol)
    at c.cal_code.ensures in
    map_good _ _ _ _ (told_went_well _ _ _ c.in_ok-check_code.ensures)
    (ap (λ (z : ℤ). Ok (nat_abs z)) code)

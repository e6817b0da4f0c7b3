-- `esp32c6::rtc_calib_init_code` meets its contract: where nothing is refused the attenuation's field has 15 bits at most.
use mathlib.Core.Path.{◌≡◌, ap}
use Prim.Native.Nat.{ℕ, ◌+◌, ◌^◌, ◌≤◌, ◌<◌}
use native.Mathlib.Omega.{arith}
use Rattle.std.specs.Prelude.{Ok}
use Rattle.std.proofs.lemmas.Result.{err_from_is_err_and}
use Rattle.terms.specs.declared.chip.MapChip.TheVariants.{C6}
use Rattle.terms.proofs.Refusals.{handed_on}
use Rattle.maps.proofs.Told.{told_went_well, map_good}
use Rattle.inputs.specs.Input.{fields_refusal}
use Rattle.maps.specs.Value.{value_by_id}
use Rattle.inputs.proofs.Values.{value_is}
use Rattle.esp32c6.specs.Code.{init_code_of}
use Rattle.esp32c6.proofs.Codes.{code_good}
use Rattle.esp32c6.proofs.Fields.{init_fits}
use Rattle.esp32c6.proofs.code.rtc_calib_init_code.Goals as goal
use Rattle.esp32c6.proofs.code.rtc_calib_init_code.Goals.{After-record_value-init_code}

good : (c : After-record_value-init_code) → (fields_refusal c.args.lengths.now C6 c.args.dump.now c.args.map.now ≡ 0) × (c.args.atten ≤ 3)
good c = code_good _ _ _ _ _ _ (told_went_well _ _ _ c.in_ok-check_code.ensures)

value : (c : After-record_value-init_code) → c.record_value-init_code.result ≡ value_by_id C6 c.args.dump.now c.args.map.now (9 + c.args.atten)
value c = let g = good c in value_is _ _ _ _ g.0 _ _ (omega arith) (omega arith) c.record_value-init_code.ensures

few : (c : After-record_value-init_code) → c.record_value-init_code.result < 2 ^ 15
few c = let g = good c in rw (value c) (init_fits _ _ _ g.0 _ g.1)

pub returns-in_err-check_code : goal.returns-in_err-check_code
unfolding init_code_of
returns-in_err-check_code c =
    let p = err_from_is_err_and c.from_residual.result c.from_residual.ensures.1 in
    rw (p.1, p.2) (handed_on _ _ c.in_err-check_code.ensures)

pub overflow_cast-result : goal.overflow_cast-result
overflow_cast-result c = omega (arith, few c)

pub overflow_add-result : goal.overflow_add-result
overflow_add-result c = omega (arith, few c)

pub returns : goal.returns
unfolding init_code_of
returns c =
    map_good _ _ _ _ (told_went_well _ _ _ c.in_ok-check_code.ensures)
    (ap (λ (n : ℕ). Ok (n + 1600)) (value (goal.at.returns c).After-record_value-init_code))

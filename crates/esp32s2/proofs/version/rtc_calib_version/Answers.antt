-- `esp32s2::rtc_calib_version` meets its contract: where nothing is refused the field has eight bits at most.
use mathlib.Core.Path.{◌≡◌, ap}
use lib.Dec.{lit≤}
use Rattle.std.specs.Prelude.{Ok}
use Rattle.std.proofs.lemmas.Result.{err_from_is_err_and}
use Rattle.terms.specs.declared.chip.MapChip.TheVariants.{S2}
use Rattle.terms.proofs.Refusals.{handed_on}
use Rattle.maps.proofs.Told.{told_went_well, map_good}
use Rattle.inputs.specs.Input.{fields_refusal}
use Rattle.esp32s2.specs.Version.{version_of, calib_version_of}
use Rattle.esp32s2.proofs.Fields.{field_fits, field_is}
use Rattle.esp32s2.proofs.version.rtc_calib_version.Goals as goal
use Rattle.esp32s2.proofs.version.rtc_calib_version.Goals.{After-record_value}

good : (c : After-record_value) → fields_refusal c.args.lengths.now S2 c.args.dump.now c.args.map.now ≡ 0
good c = told_went_well _ _ _ c.in_ok-check_fields.ensures

version : (c : After-record_value) → c.record_value.result ≡ version_of c.args.dump.now c.args.map.now
version c = field_is _ _ _ (good c) 0 (lit≤ tt) c.record_value.ensures

pub returns-in_err-check_fields : goal.returns-in_err-check_fields
unfolding calib_version_of
returns-in_err-check_fields c =
    let p = err_from_is_err_and c.from_residual.result c.from_residual.ensures.1 in
    rw (p.1, p.2) (handed_on _ _ c.in_err-check_fields.ensures)

pub overflow_cast-result : goal.overflow_cast-result
overflow_cast-result c = record { fits = rw (version c) (field_fits _ _ _ (good c) 0 (lit≤ tt)) }

pub returns : goal.returns
unfolding calib_version_of
returns c = map_good _ _ _ _ (good c) (ap Ok (version c))

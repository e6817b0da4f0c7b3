-- `esp32s2::flash_encryption` meets its contract: where nothing is refused the field has eight bits at most.
use mathlib.Core.Path.{◌≡◌, ◌∙◌, ap}
use lib.Dec.{lit≤}
use Rattle.std.specs.Prelude.{Ok}
use Rattle.std.proofs.lemmas.Result.{err_from_is_err_and}
use Rattle.terms.specs.declared.chip.MapChip.TheVariants.{S2}
use Rattle.terms.proofs.Refusals.{handed_on}
use Rattle.maps.proofs.Told.{told_went_well, map_good}
use Rattle.maps.specs.Value.{value_by_id}
use Rattle.inputs.specs.Input.{fields_refusal}
use Rattle.esp32s2.specs.Encryption.{odd_ones, flash_encryption_of}
use Rattle.esp32s2.proofs.Fields.{field_fits, field_is}
use Rattle.esp32s2.proofs.encryption.flash_encryption.Goals as goal
use Rattle.esp32s2.proofs.encryption.flash_encryption.Goals.{After-record_value}

good : (c : After-record_value) → fields_refusal c.args.lengths.now S2 c.args.dump.now c.args.map.now ≡ 0
good c = told_went_well _ _ _ c.in_ok-check_fields.ensures

count : (c : After-record_value) → c.record_value.result ≡ value_by_id S2 c.args.dump.now c.args.map.now 8
count c = field_is _ _ _ (good c) 1 (lit≤ tt) c.record_value.ensures

pub returns-in_err-check_fields : goal.returns-in_err-check_fields
unfolding flash_encryption_of
returns-in_err-check_fields c =
    let p = err_from_is_err_and c.from_residual.result c.from_residual.ensures.1 in
    rw (p.1, p.2) (handed_on _ _ c.in_err-check_fields.ensures)

pub overflow_cast-record_value : goal.overflow_cast-record_value
overflow_cast-record_value c = record { fits = rw (count c) (field_fits _ _ _ (good c) 1 (lit≤ tt)) }

pub returns : goal.returns
unfolding flash_encryption_of
returns c =
    let here = (goal.at.returns c).After-record_value in
    map_good _ _ _ _ (good here) (ap Ok (c.odd_ones.ensures ∙ ap odd_ones (count here)))

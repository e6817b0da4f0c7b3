-- `esp32::find` meets its contract: nothing handed in is refused, so that the codes are in their bits and Vref is in its range.
use Rattle.std.proofs.Common.{◌≡◌, lit≤, ap}
use Rattle.terms.specs.declared.chip.MapChip.TheVariants.{Esp32}
use Rattle.std.specs.Prelude.{Ok}
use Rattle.terms.proofs.Refusals.{went_well, answered_good}
use Rattle.inputs.specs.Input.{fields_refusal}
use Rattle.inputs.proofs.Inputs.{decoding_good}
use Rattle.maps.specs.Value.{value_by_id}
use Rattle.esp32.specs.Decode.{found_of}
use Rattle.esp32.proofs.Codes.{vref_range}
use Rattle.esp32.proofs.Bases.{read, vref_fits, basis_in_bits}
use Rattle.esp32.proofs.decode.find.Goals as goal
use Rattle.esp32.proofs.decode.find.Goals.{After-record_value-vref}

-- what was read is ADC_VREF's value
good : (c : After-record_value-vref) → fields_refusal c.args.lengths.now Esp32 c.args.dump.now c.args.map.now ≡ 0
good c = (decoding_good _ _ _ _ _ _ c.requires).0

vref : (c : After-record_value-vref) → c.record_value-vref.result ≡ value_by_id Esp32 c.args.dump.now c.args.map.now 1
vref c = read _ _ _ (good c) 0 (lit≤ tt) c.record_value-vref.ensures

pub efuse_vref-requires : goal.efuse_vref-requires
efuse_vref-requires c = rw (vref (goal.at.efuse_vref-requires c).After-record_value-vref) (vref_fits _ _ _ (good (goal.at.efuse_vref-requires c).After-record_value-vref))

pub characterize-requires : goal.characterize-requires
characterize-requires c =
    let p = decoding_good _ _ _ _ _ _ c.requires in
    rw (c.efuse_vref.ensures, vref (goal.at.characterize-requires c).After-record_value-vref, c.basis-basis.ensures)
    ((vref_range (vref_fits _ _ _ p.0)).1, basis_in_bits _ _ _ p.0 _)

pub returns : goal.returns
unfolding found_of
returns c =
    let w = went_well _ _ c.in_ok-line.ensures in
    answered_good _ _ (rw c.basis-basis.ensures at w.0)
    (ap Ok (rw (w.1, c.efuse_vref.ensures, vref (goal.at.returns c).After-record_value-vref, c.basis-basis.ensures)))

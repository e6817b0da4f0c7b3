-- `esp32c6::rtc_calib_get_chan_compens` meets its contract: where nothing is refused the channel's field has four bits, and the product
-- is at most 28 from 0, which fits.
use mathlib.Core.Path.{◌≡◌, ◌∙◌, ap}
use Prim.Native.Nat.{◌+◌, ◌-◌, ◌^◌, min, ◌≤◌, ◌<◌}
use native.Mathlib.Nat.{min-le_right}
use native.Mathlib.Omega.{arith}
use lib.IntN.{pos, ◌*ℤ◌}
use mir.Syntax.{w32}
use mir.Val.{to_z, of_z}
use mir.ValLaws.{to_z-of_z, to_z_pos}
use borrow.Author.Rules.{sfits_of}
use Rattle.std.specs.Prelude.{Ok}
use Rattle.std.proofs.lemmas.Result.{err_from_is_err_and}
use Rattle.terms.specs.declared.chip.MapChip.TheVariants.{C6}
use Rattle.terms.specs.Sign.{sign_magnitude}
use Rattle.terms.proofs.Machine.{op_fits, op_back}
use Rattle.terms.proofs.Refusals.{handed_on}
use Rattle.maps.proofs.Told.{told_went_well, map_good}
use Rattle.inputs.specs.Input.{fields_refusal}
use Rattle.maps.specs.Value.{value_by_id}
use Rattle.inputs.proofs.Inputs.{decoding_good}
use Rattle.inputs.proofs.Values.{value_is}
use Rattle.esp32c6.specs.Channel.{compens_of, chan_compens_of}
use Rattle.esp32c6.proofs.Channels.{compens_fits}
use Rattle.esp32c6.proofs.Fields.{channel_fits}
use Rattle.esp32c6.proofs.channel.rtc_calib_get_chan_compens.Goals as goal
use Rattle.esp32c6.proofs.channel.rtc_calib_get_chan_compens.Goals.{After-record_value-chan_diff, After-sign_magnitude}

good : (c : After-record_value-chan_diff) → (fields_refusal c.args.lengths.now C6 c.args.dump.now c.args.map.now ≡ 0) × ((c.args.unit ≤ 1) × (c.args.atten ≤ 3))
good c = decoding_good _ _ _ _ _ _ (told_went_well _ _ _ c.in_ok-check_decoding.ensures)

-- the field that was read
chan-diff : (c : After-record_value-chan_diff)
    → c.record_value-chan_diff.result ≡ value_by_id C6 c.args.dump.now c.args.map.now (17 + min c.args.channel 6)
chan-diff c =
    value_is _ _ _ _ (good c).0 _ _ (omega (arith, c.min.ensures)) (omega (arith, c.min.ensures)) c.record_value-chan_diff.ensures

few : (c : After-record_value-chan_diff) → c.record_value-chan_diff.result < 2 ^ 4
few c = rw (chan-diff c) (channel_fits _ _ _ (good c).0 _ (min-le_right _ 6))

-- the two factors
code : (c : After-sign_magnitude) → to_z w32 (of_z w32 c.sign_magnitude.result) ≡ sign_magnitude 4 c.record_value-chan_diff.result
code c = to_z-of_z w32 _ (sfits_of c.sign_magnitude.type_inv) ∙ c.sign_magnitude.ensures

weight : (c : After-sign_magnitude) → to_z w32 (4 - c.args.atten) ≡ pos (4 - c.args.atten)
weight c = to_z_pos w32 _ (omega arith)

pub returns-in_err-check_decoding : goal.returns-in_err-check_decoding
unfolding chan_compens_of
returns-in_err-check_decoding c =
    let p = err_from_is_err_and c.from_residual.result c.from_residual.ensures.1 in
    rw (p.1, p.2) (handed_on _ _ c.in_err-check_decoding.ensures)

pub overflow_cast-chan_diff : goal.overflow_cast-chan_diff
overflow_cast-chan_diff c = omega (arith, few c)

pub overflow_sub-result : goal.overflow_sub-result
overflow_sub-result c = omega (arith, (good (goal.at.overflow_sub-result c).After-record_value-chan_diff).1.1)

pub overflow_mul-result : goal.overflow_mul-result
unfolding compens_of
overflow_mul-result c =
    let read = (goal.at.overflow_mul-result c).After-record_value-chan_diff in
    let here = (goal.at.overflow_mul-result c).After-sign_magnitude in
    op_fits w32 ◌*ℤ◌ (code here) (weight here) (compens_fits _ _ (few read))

pub returns : goal.returns
unfolding chan_compens_of compens_of
returns c =
    let read = (goal.at.returns c).After-record_value-chan_diff in
    let here = (goal.at.returns c).After-sign_magnitude in
    map_good _ _ _ _ (told_went_well _ _ _ c.in_ok-check_decoding.ensures)
    (ap Ok (op_back w32 ◌*ℤ◌ (code here) (weight here) (compens_fits _ _ (few read)) ∙ ap (compens_of _) (chan-diff read)))

-- The C6's fields have no more bits than document 01's table says, by one computed test a row of it. Assumes nothing.
use mathlib.Core.Path.{◌≡◌}
use mathlib.Core.List.{List}
use Prim.Native.Nat.{ℕ, ◌+◌, ◌^◌, ◌≤◌, ◌<◌}
use native.Mathlib.Omega.{arith}
use Rattle.terms.specs.declared.chip.MapChip.TheVariants.{C6}
use Rattle.terms.proofs.Check.{at_most, rule}
use Rattle.maps.specs.Map.{counts_of}
use Rattle.inputs.specs.Input.{fields_refusal}
use Rattle.maps.specs.Value.{value_by_id}
use Rattle.inputs.proofs.Values.{value_fits}

module _ (lengths dump map : List ℕ) (good : fields_refusal lengths C6 dump map ≡ 0) where
  module _ (atten : ℕ) (h : atten ≤ 3) where
    pub init_fits : value_by_id C6 dump map (9 + atten) < 2 ^ 15
    init_fits =
        value_fits lengths C6 dump map good (9 + atten) atten (omega arith) (omega arith) 15
        (rule (λ k. at_most (counts_of (9 + k)).max 15) 4 tt atten (omega arith))

    pub cal_fits : value_by_id C6 dump map (13 + atten) < 2 ^ 10
    cal_fits =
        value_fits lengths C6 dump map good (13 + atten) (4 + atten) (omega arith) (omega arith) 10
        (rule (λ k. at_most (counts_of (13 + k)).max 10) 4 tt atten (omega arith))

  pub channel_fits : (channel : ℕ) → channel ≤ 6 → value_by_id C6 dump map (17 + channel) < 2 ^ 4
  channel_fits channel h =
      value_fits lengths C6 dump map good (17 + channel) (8 + channel) (omega arith) (omega arith) 4
      (rule (λ k. at_most (counts_of (17 + k)).max 4) 7 tt channel (omega arith))

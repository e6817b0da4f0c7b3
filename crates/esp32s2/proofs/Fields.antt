-- The S2's fields have eight bits at most, by one computed test. Assumes nothing.
use mathlib.Core.Path.{◌≡◌, refl}
use mathlib.Core.List.{List}
use Prim.Native.Nat.{ℕ, ◌+◌, ◌^◌, ◌<◌}
use Rattle.terms.specs.declared.chip.MapChip.TheVariants.{S2}
use Rattle.terms.proofs.Check.{at_most, rule}
use Rattle.maps.specs.Map.{counts_of}
use Rattle.inputs.specs.Input.{fields_refusal}
use Rattle.maps.specs.Value.{record_value, value_by_id}
use Rattle.inputs.proofs.Values.{value_fits, value_is}

module _ (lengths dump map : List ℕ) (good : fields_refusal lengths S2 dump map ≡ 0) where
  pub field_fits : (k : ℕ) → k < 2 → value_by_id S2 dump map (7 + k) < 2 ^ 8
  field_fits k h =
      value_fits lengths S2 dump map good (7 + k) k refl h 8 (rule (λ k. at_most (counts_of (7 + k)).max 8) 2 tt k h)

  -- record k's value is that of id 7 + k
  pub field_is : (k : ℕ) → k < 2 → {v : ℕ} → v ≡ record_value lengths dump map k → v ≡ value_by_id S2 dump map (7 + k)
  field_is k h = value_is lengths S2 dump map good (7 + k) k refl h

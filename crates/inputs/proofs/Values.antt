-- Laws of a mapped field's value, where nothing is refused: how many bits it has, and that the record's value is the id's.
-- Assumes nothing.
use mathlib.Core.Path.{◌≡◌, ◌∙◌}
use mathlib.Core.List.{List}
use Prim.Native.Nat.{ℕ, ◌+◌, ◌-◌, ◌^◌, ◌≤◌, ◌<◌}
use native.Mathlib.Omega.{arith}
use Rattle.terms.specs.declared.chip.MapChip.{MapChip}
use Rattle.efuse.specs.declared.field.EfuseField.{EfuseField}
use Rattle.efuse.specs.Field.{field_bits}
use Rattle.efuse.proofs.Bits.{bits_fit}
use Rattle.efuse.proofs.Places.{value_good}
use Rattle.maps.specs.Map.{ids_of, field_of, counts_of}
use Rattle.inputs.specs.Input.{fields_refusal}
use Rattle.maps.specs.Value.{record_value, value_by_id}
use Rattle.maps.proofs.Maps.{count_range, record_good, map_record, map_read}
use Rattle.inputs.proofs.Inputs.{fields_good}

-- of the field with an id of that chip, which is record k's
module _ (lengths : List ℕ) (chip : MapChip) (dump map : List ℕ)
    (good : fields_refusal lengths chip dump map ≡ 0) (id k : ℕ) (there : id ≡ (ids_of chip).first + k) (h : k < (ids_of chip).len) where
  abbrev field : EfuseField
  field = field_of map k

  place : id - (ids_of chip).first ≡ k
  place = omega arith

  -- it has no more bits than the table says
  pub value_fits : (width : ℕ) → (counts_of id).max ≤ width → value_by_id chip dump map id < 2 ^ width
  unfolding value_by_id field_bits
  value_fits width most =
      let passed = rw (← there) at (map_record lengths map chip (fields_good lengths chip dump map good).1 k h) in
      let few = count_range id _ (record_good lengths map id k passed).1 in
      rw place (bits_fit dump field.block width _ _ (omega arith))

  -- its value is read
  pub value_is : {v : ℕ} → v ≡ record_value lengths dump map k → v ≡ value_by_id chip dump map id
  unfolding record_value value_by_id
  value_is e =
      let g = fields_good lengths chip dump map good in
      let read = map_read lengths map chip g.1 k h dump g.0 in
      e ∙ value_good lengths dump field read ∙ rw place

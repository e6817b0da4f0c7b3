-- Document 01, "Dumps, maps and logs" and "Reading a field": the value of a mapped field, by its record and by its id.
use Rattle.std.specs.Prelude.{List, ℕ, ◌-◌}
use Rattle.terms.specs.declared.chip.MapChip.{MapChip}
use Rattle.efuse.specs.Field.{field_bits, value_at}
use Rattle.maps.specs.Map.{ids_of, field_of}

-- the value of the field of record k, at 32 bits; zero where it can't be read
unfoldable pub record_value : List ℕ → List ℕ → List ℕ → ℕ → ℕ
record_value lengths dump map k = value_at lengths dump (field_of map k)

-- the bits of the field with that id: all of them, since no field of a map has more than 15
unfoldable pub value_by_id : MapChip → List ℕ → List ℕ → ℕ → ℕ
value_by_id chip dump map id = field_bits 32 dump (field_of map (id - (ids_of chip).first))

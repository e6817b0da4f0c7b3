-- Document 01, "Numbers given when a call is turned down", and document 02, #109: when what goes by a map gives each number before it reads.
-- A case says too that nothing before it in the call's order is given; 0 is given where the call isn't turned down.
use Rattle.std.specs.Prelude.{◌≡◌, List, ℕ}
use Rattle.terms.specs.declared.chip.MapChip.{MapChip}
use Rattle.terms.specs.When.{UnitWhen}
use Rattle.dumps.specs.When.{DumpWhen}
use Rattle.maps.specs.When.{MapWhen}

-- a dump, its list and a chip's map: 1, 20, then the map's
pub data FieldsWhen (lengths : List ℕ) (chip : MapChip) (dump map : List ℕ) : ℕ → Type 0 where
  fields_dump : {n : ℕ} → DumpWhen lengths dump n → (n ≡ 0 → ⊥) → FieldsWhen lengths chip dump map n
  fields_map : {n : ℕ} → DumpWhen lengths dump 0 → MapWhen lengths chip map n → FieldsWhen lengths chip dump map n

-- with a unit and an attenuation: "Order: 1, 7, 2, then map records", and 20 after 1
pub data DecodingWhen (lengths : List ℕ) (chip : MapChip) (dump map : List ℕ) (unit atten : ℕ) : ℕ → Type 0 where
  decode_dump : {n : ℕ} → DumpWhen lengths dump n → (n ≡ 0 → ⊥) → DecodingWhen lengths chip dump map unit atten n
  decode_unit : {n : ℕ} → DumpWhen lengths dump 0 → UnitWhen unit atten n → (n ≡ 0 → ⊥) → DecodingWhen lengths chip dump map unit atten n
  decode_map : {n : ℕ} → DumpWhen lengths dump 0 → UnitWhen unit atten 0 → MapWhen lengths chip map n
      → DecodingWhen lengths chip dump map unit atten n

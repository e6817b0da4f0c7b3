-- What a call that goes by a map tells with its refusal: 1, 20 and 7 are of no record, so that those of a record are the map's.
-- Assumes nothing.
use mathlib.Core.Path.{◌≡◌, refl, sym, ◌∙◌}
use mathlib.Core.Bool.{true, false, true≢false}
use mathlib.Core.List.{List}
use Prim.Native.Nat.{ℕ}
use Rattle.terms.specs.declared.chip.MapChip.{MapChip}
use Rattle.std.specs.Prelude.{Err}
use Rattle.terms.specs.declared.refusal.Refusal.{Refusal}
use Rattle.terms.specs.Exactly.{Exactly}
use Rattle.terms.specs.Refusal.{or_else, outcome_of, outcome_told, unit_refusal}
use Rattle.terms.specs.When.{UnitWhen, bad_unit, good_unit}
use Rattle.dumps.specs.When.{DumpWhen, bad_dump, dump_lengths}
use Rattle.maps.specs.Tells.{ToldWhen}
use Rattle.maps.specs.Told.{of_record, told_of}
use Rattle.maps.specs.When.{MapWhen}
use Rattle.maps.proofs.Tells.{told_exactly}
use Rattle.terms.proofs.Exactly.{case, unit_exactly}
use Rattle.dumps.specs.Dump.{dump_refusal}
use Rattle.dumps.proofs.Exactly.{dump_exactly}
use Rattle.maps.proofs.Told.{lengths_plain, told_first}
use Rattle.inputs.specs.Input.{fields_refusal, decoding_refusal}
use Rattle.inputs.specs.When.{FieldsWhen, fields_dump, fields_map, DecodingWhen, decode_dump, decode_unit, decode_map}
use Rattle.inputs.proofs.Exactly.{fields_exactly, decoding_exactly}

pub dump_plain : {lengths dump : List ℕ} {n : ℕ} → DumpWhen lengths dump n → of_record n ≡ false
dump_plain (bad_dump h) = refl
dump_plain (dump_lengths d l) = lengths_plain l

pub unit_plain : {unit atten n : ℕ} → UnitWhen unit atten n → of_record n ≡ false
unit_plain (bad_unit h) = refl
unit_plain (good_unit u a) = refl

-- what the dump and the unit refuse comes before whatever is wrong with the map
module _ (lengths : List ℕ) (chip : MapChip) (map : List ℕ) where
  pub dump_first : (dump : List ℕ) (after : ℕ) {why : Refusal} → Err why ≡ outcome_of (dump_refusal lengths dump)
      → Err why ≡ outcome_told (told_of lengths chip map (or_else (dump_refusal lengths dump) after))
  dump_first dump after e = told_first lengths map chip (dump_refusal lengths dump) after (dump_plain (case (dump_exactly lengths dump))) e

  pub unit_first : (unit atten after : ℕ) {why : Refusal} → Err why ≡ outcome_of (unit_refusal unit atten)
      → Err why ≡ outcome_told (told_of lengths chip map (or_else (unit_refusal unit atten) after))
  unit_first unit atten after e = told_first lengths map chip (unit_refusal unit atten) after (unit_plain (case (unit_exactly unit atten))) e

module _ (lengths : List ℕ) (chip : MapChip) (dump map : List ℕ) where
  fields_of_map : (n : ℕ) → FieldsWhen lengths chip dump map n → of_record n ≡ true → MapWhen lengths chip map n
  fields_of_map n (fields_dump d some) t = absurd (true≢false (sym t ∙ dump_plain d))
  fields_of_map n (fields_map d m) t = m

  -- `check_fields`
  pub fields_told : Exactly (told_of lengths chip map (fields_refusal lengths chip dump map)) (ToldWhen lengths chip map (FieldsWhen lengths chip dump map))
  fields_told = told_exactly lengths map chip (fields_exactly lengths chip dump map) fields_of_map

  module _ (unit atten : ℕ) where
    pub decoding_of_map : (n : ℕ) → DecodingWhen lengths chip dump map unit atten n → of_record n ≡ true → MapWhen lengths chip map n
    decoding_of_map n (decode_dump d some) t = absurd (true≢false (sym t ∙ dump_plain d))
    decoding_of_map n (decode_unit d u some) t = absurd (true≢false (sym t ∙ unit_plain u))
    decoding_of_map n (decode_map d u m) t = m

    -- `check_decoding`
    pub decoding_told : Exactly (told_of lengths chip map (decoding_refusal lengths chip dump map unit atten))
        (ToldWhen lengths chip map (DecodingWhen lengths chip dump map unit atten))
    decoding_told = told_exactly lengths map chip (decoding_exactly lengths chip dump map unit atten) decoding_of_map

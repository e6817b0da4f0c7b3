-- Each number that what goes by a map gives before it reads is given exactly when: each case gives its number by the laws of the
-- refusals, and the tests leave no other case. Assumes nothing.
use mathlib.Core.Path.{◌≡◌}
use mathlib.Core.List.{List}
use Prim.Native.Nat.{ℕ}
use Rattle.terms.specs.declared.chip.MapChip.{MapChip}
use Rattle.terms.specs.Exactly.{Exactly}
use Rattle.terms.proofs.Exactly.{Some, exactly, case, by_first, unit_exactly}
use Rattle.terms.proofs.Refusals.{or_else_given}
use Rattle.dumps.proofs.Exactly.{dump_exactly}
use Rattle.maps.proofs.Exactly.{map_exactly}
use Rattle.inputs.specs.Input.{fields_refusal, decoding_refusal}
use Rattle.inputs.specs.When.{FieldsWhen, fields_dump, fields_map, DecodingWhen, decode_dump, decode_unit, decode_map}

module _ (lengths : List ℕ) (chip : MapChip) (dump map : List ℕ) where
  fields_gives : (n : ℕ) → FieldsWhen lengths chip dump map n → fields_refusal lengths chip dump map ≡ n
  unfolding fields_refusal
  fields_gives n (fields_dump d some) = or_else_given _ _ ((dump_exactly lengths dump n).1 d) some
  fields_gives n (fields_map d m) = rw ((dump_exactly lengths dump 0).1 d) ((map_exactly lengths map chip n).1 m)

  fields_some : Some (FieldsWhen lengths chip dump map)
  fields_some =
      by_first (dump_exactly lengths dump)
      (λ d. (_, fields_map d (case (map_exactly lengths map chip))))
      (λ n d some. (n, fields_dump d some))

  pub fields_exactly : Exactly (fields_refusal lengths chip dump map) (FieldsWhen lengths chip dump map)
  fields_exactly = exactly fields_gives fields_some

  module _ (unit atten : ℕ) where
    decoding_gives : (n : ℕ) → DecodingWhen lengths chip dump map unit atten n → decoding_refusal lengths chip dump map unit atten ≡ n
    unfolding decoding_refusal
    decoding_gives n (decode_dump d some) = or_else_given _ _ ((dump_exactly lengths dump n).1 d) some
    decoding_gives n (decode_unit d u some) =
        rw ((dump_exactly lengths dump 0).1 d) (or_else_given _ _ ((unit_exactly unit atten n).1 u) some)
    decoding_gives n (decode_map d u m) =
        rw ((dump_exactly lengths dump 0).1 d, (unit_exactly unit atten 0).1 u) ((map_exactly lengths map chip n).1 m)

    decoding_some : Some (DecodingWhen lengths chip dump map unit atten)
    decoding_some =
        by_first (dump_exactly lengths dump)
        (λ d.
        by_first (unit_exactly unit atten)
        (λ u. (_, decode_map d u (case (map_exactly lengths map chip))))
        (λ n u some. (n, decode_unit d u some)))
        (λ n d some. (n, decode_dump d some))

    pub decoding_exactly : Exactly (decoding_refusal lengths chip dump map unit atten) (DecodingWhen lengths chip dump map unit atten)
    decoding_exactly = exactly decoding_gives decoding_some

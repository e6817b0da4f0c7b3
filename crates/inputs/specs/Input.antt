-- Document 01, "Numbers given when a call is turned down": "Order: 1, 7, 2, then map records first to last with 3, 4, 5, 6 within
-- each", by document 02, #102, 18 after 3, and by #109 20 after 1, which comes before what a call has of its own.
use Rattle.std.specs.Prelude.{List, ℕ}
use Rattle.terms.specs.declared.chip.MapChip.{MapChip}
use Rattle.terms.specs.Refusal.{or_else, unit_refusal}
use Rattle.dumps.specs.Dump.{dump_refusal}
use Rattle.maps.specs.Map.{map_refusal}

-- of a call that takes no unit and no attenuation
-- 1 for the dump, 20 for the list
-- then those of the map
unfoldable pub fields_refusal : List ℕ → MapChip → List ℕ → List ℕ → ℕ
fields_refusal lengths chip dump map = or_else (dump_refusal lengths dump) (map_refusal lengths chip map)

-- 1 for the dump, 20 for the list
-- 7 for unit and attenuation
-- then those of the map
unfoldable pub decoding_refusal : List ℕ → MapChip → List ℕ → List ℕ → ℕ → ℕ → ℕ
decoding_refusal lengths chip dump map unit atten =
    or_else (dump_refusal lengths dump)
    (or_else (unit_refusal unit atten)
    (map_refusal lengths chip map))

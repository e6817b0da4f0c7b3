-- Document 02, #102: "Refusals 3 to 6 and the new one on a map also tell the record's number from 0, and the nonzero byte tells its place
-- 5, 6 or 7, the first such; .. Other refusals tell 0 and 0." On a map is every call that takes one.
use Rattle.std.specs.Prelude.{Bool, cond, ◌&&◌, ◌||◌, List, ℕ, leb, eqb}
use Rattle.terms.specs.declared.chip.MapChip.{MapChip}
use Rattle.terms.specs.declared.refusal.Refusal.{Refusal}
use Rattle.terms.specs.Refusal.{first_at}
use Rattle.maps.specs.Map.{stray_of, ids_of, map_record_refusals}

-- "3 to 6 and the new one"
abbrev pub of_record : ℕ → Bool
of_record number = leb 3 number && leb number 6 || eqb number 18

-- of len records, whose ids rise from a first one on: the first that has a fault
abbrev pub bad_record : List ℕ → List ℕ → ℕ → ℕ → ℕ
bad_record lengths map first len = first_at (map_record_refusals lengths map first) 0 len

-- what they tell with a number
abbrev pub told_from : List ℕ → List ℕ → ℕ → ℕ → ℕ → Refusal
told_from lengths map first len number =
    record {
      number = number;
      «record» = cond (of_record number) (bad_record lengths map first len) 0;
      place = cond (eqb number 18) (stray_of map (bad_record lengths map first len)) 0;
    }

-- what a call on a chip's map tells with a number
unfoldable pub told_of : List ℕ → MapChip → List ℕ → ℕ → Refusal
told_of lengths chip map number = told_from lengths map (ids_of chip).first (ids_of chip).len number

-- What is told of a bad record of an ESP32's map, in words (document 02, #102): which one it is, by its number and its id's name, and what
-- is wrong with it.
use Rattle.std.specs.Prelude.{cond, List, ◌++◌, ℕ, ◌+◌, eqb}
use Rattle.terms.specs.declared.refusal.Refusal.{Refusal}
use Rattle.terms.specs.Said.{said}
use Rattle.words.specs.Put.{decimal}

-- the name of the id of a record, from 0: document 01's table of the ids 1 to 6
abbrev pub id_of : ℕ → List ℕ
id_of k =
    cond (eqb k 0) (said "ADC_VREF")
    (cond (eqb k 1) (said "BLK3_PART_RESERVE")
    (cond (eqb k 2) (said "ADC1_TP_LOW")
    (cond (eqb k 3) (said "ADC2_TP_LOW")
    (cond (eqb k 4) (said "ADC1_TP_HIGH")
    (said "ADC2_TP_HIGH")))))

-- which record of the map it is
abbrev pub place_of : ℕ → List ℕ
place_of k = (((said ": record " ++ decimal k) ++ said " (") ++ id_of k) ++ said "): "

-- what is wrong with it
abbrev pub wrong_id : ℕ → List ℕ
wrong_id k = said "its id isn't " ++ decimal (k + 1)

abbrev pub wrong_byte : ℕ → List ℕ
wrong_byte place = (said "byte " ++ decimal place) ++ said " isn't zero"

abbrev pub wrong_of : Refusal → List ℕ
wrong_of why =
    cond (eqb why.number 3) (wrong_id why.«record»)
    (cond (eqb why.number 18) (wrong_byte why.place)
    (cond (eqb why.number 4) (said "its block is above 10")
    (cond (eqb why.number 5) (said "its bit start is above 255, or its block is too short for it")
    (said "its bit count isn't its id's"))))

-- which record, and then what
unfoldable pub bad_text : Refusal → List ℕ
bad_text why = place_of why.«record» ++ wrong_of why

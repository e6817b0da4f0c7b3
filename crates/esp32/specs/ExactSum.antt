-- Document 02, #104: "b is the whole number 850 − t + offset": the statement that a record by two points has that very sum as its b,
-- nothing cut off it and nothing wrapped around.
use Rattle.std.specs.Prelude.{◌≡◌, Ok, ℕ, true, List, pos}
use Rattle.line_record.specs.declared.record.LineRecord.{LineRecord}
use Rattle.esp32.specs.Decode.{two_point_used, decode_of}
use Rattle.esp32.specs.When.{b_for}

-- wherever decoding by two points answers a record
abbrev pub ExactSum : List ℕ → List ℕ → List ℕ → ℕ → ℕ → Type 0
ExactSum lengths dump map unit atten =
    (r : LineRecord) → decode_of lengths dump map unit atten ≡ Ok r → two_point_used dump map ≡ true
    → pos r.coeff_b ≡ b_for dump map unit atten

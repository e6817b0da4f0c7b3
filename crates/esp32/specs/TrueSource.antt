-- Document 02, #106, "A record should remember where it came from": the statement that what a decoded record says of it is true.
use Rattle.std.specs.Prelude.{◌≡◌, Ok, ℕ, true, ◌↔◌, List}
use Rattle.line_record.specs.declared.record.LineRecord.{LineRecord}
use Rattle.line_record.specs.declared.record.Source.TheVariants.{TwoPoint}
use Rattle.esp32.specs.Decode.{two_point_used, decode_of}

-- a record's source is two points exactly if they are used, and Vref else; its unit and its attenuation are those that were asked for
pub record SaysTrue (dump map : List ℕ) (unit atten : ℕ) (r : LineRecord) : Type 0 where
  pub source : (r.source ≡ TwoPoint) ↔ (two_point_used dump map ≡ true)
  pub of_unit : r.unit ≡ unit
  pub at_atten : r.atten ≡ atten

-- wherever decoding answers a record
abbrev pub TrueSource : List ℕ → List ℕ → List ℕ → ℕ → ℕ → Type 0
TrueSource lengths dump map unit atten =
    (r : LineRecord) → decode_of lengths dump map unit atten ≡ Ok r → SaysTrue dump map unit atten r

-- Document 01, "Numbers given when a call is turned down": when the record check gives each number; 0 is given where it isn't turned down.
use Rattle.std.specs.Prelude.{◌≡◌, ℕ, ◌≤◌}
use Rattle.vref.specs.Coefficients.{vref_line}
use Rattle.line_record.specs.declared.record.LineRecord.{LineRecord}
use Rattle.line_record.specs.declared.record.Source.TheVariants.{Vref}

-- "A record handed in has a up to 131071, b up to 4095, vref 995 to 1205, unit 0 or 1"
pub record InRanges (r : LineRecord) : Type 0 where
  pub a : r.coeff_a ≤ 131071
  pub b : r.coeff_b ≤ 4095
  pub vref_least : 995 ≤ r.vref
  pub vref_most : r.vref ≤ 1205
  pub unit : r.unit ≤ 1
  -- document 02, #106: "10 covers .. an attenuation above 3"
  pub atten : r.atten ≤ 3

-- "exactly the a and b that its vref, unit and attenuation give"
pub record HasVrefLine (r : LineRecord) : Type 0 where
  pub a : r.coeff_a ≡ (vref_line r.unit r.atten r.vref).a
  pub b : r.coeff_b ≡ (vref_line r.unit r.atten r.vref).b

-- "A Vref record must have" them; "A two-point record keeps the ranges of document 01"
pub record GoodRecord (r : LineRecord) : Type 0 where
  pub ranges : InRanges r
  pub line : r.source ≡ Vref → HasVrefLine r

-- 10: "line record outside its ranges"; "10 covers this"
pub data RecordWhen (r : LineRecord) : ℕ → Type 0 where
  bad_record_case : (GoodRecord r → ⊥) → RecordWhen r 10
  good_record_case : GoodRecord r → RecordWhen r 0

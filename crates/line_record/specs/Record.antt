-- Document 01, "ESP32 line rules": a record handed in, with its refusal 10; document 02, #106: "The line record gains its source and its
-- attenuation". In esp-hal: `AdcCalLine` of calibration/line/esp32.rs, which has neither.
use Rattle.std.specs.Prelude.{Bool, not, ◌&&◌, ℕ, leb, eqb}
use Rattle.terms.specs.Refusal.{refuse}
use Rattle.vref.specs.declared.coefficients.Coefficients.{Coefficients}
use Rattle.vref.specs.Coefficients.{vref_line}
use Rattle.line_record.specs.declared.record.LineRecord.{LineRecord}
use Rattle.line_record.specs.declared.record.Source.{Source}
use Rattle.line_record.specs.declared.record.Source.TheVariants.{TwoPoint, Vref}

-- "the use of the lookup follows from attenuation 3 and is no longer stored beside it"
unfoldable pub uses_lookup : LineRecord → Bool
uses_lookup r = eqb r.atten 3

-- "A record handed in has a up to 131071, b up to 4095"
unfoldable pub line_in_ranges : LineRecord → Bool
line_in_ranges r = leb r.coeff_a 131071 && leb r.coeff_b 4095

-- "vref 995 to 1205, unit 0 or 1"; "10 covers .. an attenuation above 3"
unfoldable pub converter_in_ranges : LineRecord → Bool
converter_in_ranges r = leb 995 r.vref && leb r.vref 1205 && leb r.unit 1 && leb r.atten 3

-- "exactly the a and b that its vref, unit and attenuation give"
unfoldable pub has_vref_line : LineRecord → Bool
has_vref_line r =
    let line : Coefficients = vref_line r.unit r.atten r.vref in
    eqb r.coeff_a line.a && eqb r.coeff_b line.b

-- "A Vref record must have" them; "A two-point record keeps the ranges of document 01"
unfoldable pub fits_source : Source → LineRecord → Bool
fits_source TwoPoint r = line_in_ranges r
fits_source Vref r = has_vref_line r

unfoldable pub good_record : LineRecord → Bool
good_record r = converter_in_ranges r && fits_source r.source r

-- 10: "line record outside its ranges"; "Refusals: 10 covers this and an attenuation above 3"
unfoldable pub record_refusal : LineRecord → ℕ
record_refusal r = refuse (not (good_record r)) 10 0

-- "decoding answers a record or one number": what document 01 has in a record's place beside a number, zeros
abbrev pub no_record : LineRecord
no_record = record { coeff_a = 0; coeff_b = 0; vref = 0; unit = 0; atten = 0; source = TwoPoint }

-- The line record, as C is handed and given it. Document 02, #106: "The line record gains its source"; in C that is a byte.
use Rattle.std.specs.Prelude.{cond, ℕ, eqb, Option, Some, None}
use Rattle.line_record.specs.declared.record.LineRecord.{LineRecord}
use Rattle.line_record.specs.declared.record.Source.{Source}
use Rattle.line_record.specs.declared.record.Source.TheVariants.{TwoPoint, Vref}
use Rattle.capi_line.specs.declared.record.SkvLineRecord.{SkvLineRecord}

abbrev pub with_source : SkvLineRecord → Source → LineRecord
with_source r source =
    record {
      coeff_a = r.coeff_a;
      coeff_b = r.coeff_b;
      vref = r.vref;
      unit = r.unit;
      atten = r.attenuation;
      source = source;
    }

-- the record that C handed in: a byte of 0 is two points, 1 is Vref, and any other names no source
unfoldable pub handed : SkvLineRecord → Option LineRecord
handed r =
    cond (eqb r.source 0) (Some (with_source r TwoPoint))
    (cond (eqb r.source 1) (Some (with_source r Vref)) None)

-- what a call answers by it: a record without a source is refused with 10, as any other that the check doesn't accept
abbrev pub by_record : {A : Type 0} → Option LineRecord → (LineRecord → A) → A → A
by_record (Some r) answer refused = answer r
by_record None answer refused = refused

abbrev pub source_c : Source → ℕ
source_c TwoPoint = 0
source_c Vref = 1

abbrev pub record_c : LineRecord → SkvLineRecord
record_c r =
    record {
      coeff_a = r.coeff_a;
      coeff_b = r.coeff_b;
      vref = r.vref;
      unit = r.unit;
      attenuation = r.atten;
      source = source_c r.source;
    }

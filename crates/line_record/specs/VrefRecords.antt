-- Document 02, #106: "A Vref record must have exactly the a and b that its vref, unit and attenuation give": the statement that the
-- check accepts one such record for each vref, unit and attenuation, and no other Vref record.
use Rattle.std.specs.Prelude.{◌≡◌, ℕ, ◌≤◌}
use Rattle.vref.specs.Coefficients.{vref_line}
use Rattle.line_record.specs.declared.record.LineRecord.{LineRecord}
use Rattle.line_record.specs.declared.record.Source.TheVariants.{Vref}
use Rattle.line_record.specs.Record.{record_refusal}

-- the Vref record of a unit, an attenuation and a vref
abbrev pub vref_record : ℕ → ℕ → ℕ → LineRecord
vref_record unit atten vref =
    record {
      coeff_a = (vref_line unit atten vref).a;
      coeff_b = (vref_line unit atten vref).b;
      vref = vref;
      unit = unit;
      atten = atten;
      source = Vref;
    }

pub record VrefRecords : Type 0 where
  -- each of the 2 × 4 × 211 is accepted, whether or not a code stands for its vref
  pub each : (unit atten vref : ℕ) → unit ≤ 1 → atten ≤ 3 → 995 ≤ vref → vref ≤ 1205 → record_refusal (vref_record unit atten vref) ≡ 0
  -- and a Vref record that is accepted is that of its own unit, attenuation and vref
  pub only : (r : LineRecord) → r.source ≡ Vref → record_refusal r ≡ 0 → r ≡ vref_record r.unit r.atten r.vref

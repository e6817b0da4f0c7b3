-- The check accepts exactly the records that Vref gives, among those by Vref: their a and b are inside the ranges, and any other's aren't
-- what they have to be. Assumes nothing.
use mathlib.Core.Path.{refl}
use Rattle.vref.proofs.Lines.{vref_ranges}
use Rattle.line_record.specs.VrefRecords.{VrefRecords}
use Rattle.line_record.proofs.Records.{record_whole, record_good}

pub vref_records : VrefRecords
vref_records =
    record {
      each = λ unit atten vref u h least most.
          let line = vref_ranges unit atten vref most in
          record_good _
          (record {
            ranges = record { a = line.0; b = line.1; vref_least = least; vref_most = most; unit = u; atten = h };
            line = λ s. record { a = refl; b = refl };
          });
      only = λ r s e.
          let line = (record_whole r e).line s in
          λ i. record { coeff_a = line.a i; coeff_b = line.b i; vref = r.vref; unit = r.unit; atten = r.atten; source = s i };
    }

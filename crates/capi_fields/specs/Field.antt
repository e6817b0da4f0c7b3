-- Reading a field, as C is handed and given it.
use Rattle.std.specs.Prelude.{ℕ, Result}
use Rattle.terms.specs.declared.refusal.Refusal.{Refusal}
use Rattle.terms.specs.Refusal.{refusal_of, value_of}
use Rattle.efuse.specs.declared.field.EfuseField.{EfuseField}
use Rattle.capi_fields.specs.declared.field.SkvField.{SkvField}
use Rattle.capi_fields.specs.declared.field.SkvRead.{SkvRead}
use Rattle.capi.specs.Answer.{refusal_c}

-- the field that C handed in
abbrev pub field_from : SkvField → EfuseField
field_from f = record { block = f.block; bit_start = f.bit_start; bit_count = f.bit_count }

abbrev pub read_c : Result ℕ Refusal → SkvRead
read_c read = record { refusal = refusal_c (refusal_of read); value = value_of 0 read }

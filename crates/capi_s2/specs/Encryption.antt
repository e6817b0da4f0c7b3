-- Flash encryption, as C is given it.
use Rattle.std.specs.Prelude.{Bool, false, Result}
use Rattle.terms.specs.declared.refusal.Refusal.{Refusal}
use Rattle.terms.specs.Refusal.{refusal_of, value_of}
use Rattle.capi_s2.specs.declared.encryption.SkvFlashEncryption.{SkvFlashEncryption}
use Rattle.capi.specs.Answer.{refusal_c, yes_or_no}

abbrev pub flash_encryption_c : Result Bool Refusal → SkvFlashEncryption
flash_encryption_c answer = record { refusal = refusal_c (refusal_of answer); on = yes_or_no (value_of false answer) }

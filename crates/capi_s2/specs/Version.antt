-- The S2's version, as C is given it.
use Rattle.std.specs.Prelude.{ℕ, Result}
use Rattle.terms.specs.declared.refusal.Refusal.{Refusal}
use Rattle.terms.specs.Refusal.{refusal_of, value_of}
use Rattle.capi_s2.specs.declared.version.SkvVersion.{SkvVersion}
use Rattle.capi.specs.Answer.{refusal_c}

abbrev pub version_c : Result ℕ Refusal → SkvVersion
version_c version = record { refusal = refusal_c (refusal_of version); version = value_of 0 version }

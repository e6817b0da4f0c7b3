-- What C is given of an answer: its refusal, with what it tells, zeros where the call wasn't turned down; and the values, zeros beside a
-- refusal.
use Rattle.std.specs.Prelude.{Bool, cond, ℕ, ℤ, pos, Result}
use Rattle.terms.specs.declared.quantity.Millivolt.{Millivolt}
use Rattle.terms.specs.declared.refusal.Refusal.{Refusal}
use Rattle.terms.specs.Refusal.{refusal_of, value_of}
use Rattle.capi.specs.declared.answer.SkvRefusal.{SkvRefusal}
use Rattle.capi.specs.declared.answer.SkvOutcome.{SkvOutcome}
use Rattle.capi.specs.declared.answer.SkvVoltage.{SkvVoltage}
use Rattle.capi.specs.declared.answer.SkvCode.{SkvCode}
use Rattle.capi.specs.declared.answer.SkvReading.{SkvReading}

abbrev pub refusal_c : Refusal → SkvRefusal
refusal_c why = record { number = why.number; «record» = why.«record»; place = why.place }

abbrev pub outcome_c : Result Unit Refusal → SkvOutcome
outcome_c outcome = record { refusal = refusal_c (refusal_of outcome) }

abbrev pub voltage_c : Result Millivolt Refusal → SkvVoltage
voltage_c answer = record { refusal = refusal_c (refusal_of answer); voltage = record { mv = (value_of (record { 0 = 0 }) answer).0 } }

abbrev pub code_c : Result ℕ Refusal → SkvCode
code_c answer = record { refusal = refusal_c (refusal_of answer); code = value_of 0 answer }

abbrev pub reading_c : Result ℤ Refusal → SkvReading
reading_c answer = record { refusal = refusal_c (refusal_of answer); value = value_of (pos 0) answer }

-- a yes or no as a byte
abbrev pub yes_or_no : Bool → ℕ
yes_or_no answer = cond answer 1 0

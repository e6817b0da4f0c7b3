-- Document 01, "ESP32 line rules": what each unit has its own of, "(unit 0 or 1)".
use Rattle.std.specs.Prelude.{cond, List, ℕ, get_or, eqb}

-- unit 0 is ADC1
abbrev pub by_unit : {A : Type 0} → ℕ → A → A → A
by_unit unit adc1 adc2 = cond (eqb unit 0) adc1 adc2

-- an entry of the unit's table, 0 past its end
abbrev pub entry_of : ℕ → ℕ → List ℕ → List ℕ → ℕ
entry_of unit k adc1 adc2 = get_or (by_unit unit adc1 adc2) k 0

-- Curve correction, as C is handed it.
use Rattle.terms.specs.declared.quantity.Millivolt.{Millivolt}
use Rattle.capi.specs.declared.answer.SkvMillivolt.{SkvMillivolt}

-- the voltage that C handed in
abbrev pub millivolt_from : SkvMillivolt → Millivolt
millivolt_from voltage = record { 0 = voltage.mv }

-- `lut::lut_row` meets its contract: each arm is the table's entry, by computing, and past the table it is the default.
use Rattle.lut.proofs.Points.{row_past}
use Rattle.lut.proofs.row.lut_row.Goals as goal

pub returns-in_default : goal.returns-in_default
returns-in_default c = row_past _ c.in_default.in_default-own.rest

-- `efuse::read_field_le` meets its contract: a refusal returns before anything is written.
use Rattle.terms.proofs.Refusals.{went_well}
use Rattle.efuse.proofs.Places.{into_good}
use Rattle.efuse.proofs.field.read_field_le.Goals as goal

pub returns-clause-lent : goal.returns-clause-lent
returns-clause-lent c = (into_good _ _ _ _ (went_well _ tt c.in_ok-check_read.ensures).0 c.write_bytes.ensures).1

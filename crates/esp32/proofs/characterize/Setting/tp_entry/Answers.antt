-- `esp32::Setting::tp_entry` meets its contract: the entry at unit × 4 + attenuation is the unit's at the attenuation.
use Rattle.esp32.proofs.Coefficients.{tp_is}
use Rattle.esp32.proofs.characterize.Setting.tp_entry.Goals as goal

pub returns : goal.returns
returns c = tp_is _ _ c.args.self.inside.0 c.args.self.inside.1 c.tp_atten.ensures

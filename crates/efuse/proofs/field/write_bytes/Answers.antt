-- `efuse::write_bytes` meets its contract: at each turn the first i bytes are those of the field.
use mathlib.Core.Path.{sym, ◌∙◌}
use native.Mathlib.Omega.{arith}
use Rattle.terms.proofs.Tab.{fill_more, fill_done}
use Rattle.efuse.specs.Field.{bytes_of}
use Rattle.efuse.proofs.Fields.{field_byte}
use Rattle.efuse.proofs.field.write_bytes.Goals as goal

pub loop-i-preserved : goal.loop-i-preserved
loop-i-preserved c = fill_more _ _ _ _ c.loop-i.invariant (omega arith) (c.byte_at.ensures ∙ sym (field_byte _ _ _ _ (omega arith)))

pub returns : goal.returns
unfolding bytes_of
returns c = fill_done _ _ _ c.loop-i.invariant (omega arith)

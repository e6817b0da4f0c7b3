-- `curves::flat::coeffs` meets its contract: one computed test, what the rule makes of the 109 decimals.
use mathlib.Core.Path.{refl}
use Rattle.curves.specs.Decimal.{nearest, doublings, scaled, magnitude, coefficient}
use Rattle.curves.specs.Flat.{curves, decimals, flat}
use Rattle.curves.proofs.flat.coeffs.Goals as goal

pub returns : goal.returns
unfolding flat decimals curves coefficient magnitude scaled nearest doublings
returns c = refl

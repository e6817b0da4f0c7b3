use mathlib.Core.Path.{◌≡◌}
use Rattle.terms.proofs.Refusals.{Passed}
use Rattle.efuse.specs.Field.{place_refusal}
use Rattle.s2_readings.specs.Chain.{link_field}
use Rattle.s2_readings.specs.Rule.{after_links}
use Rattle.s2_readings.proofs.reading.check_chain.Given as goal

abbrev pub invariant-loop : goal.invariant-loop
invariant-loop l = Passed (λ k. place_refusal l.lengths (link_field l.tag k)) 4 l.counter × (l.at ≡ after_links l.counter l.tag)

use Rattle.terms.proofs.Refusals.{Passed}
use Rattle.maps.specs.Map.{map_record_refusals}
use Rattle.maps.proofs.map.check_records.Given as goal

abbrev pub invariant-loop-k : goal.invariant-loop-k
invariant-loop-k l = Passed (map_record_refusals l.lengths l.map l.first) l.n l.k

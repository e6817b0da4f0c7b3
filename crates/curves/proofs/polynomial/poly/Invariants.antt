use Rattle.std.specs.Iterator.Adapters.{rev_source}
use Rattle.std.specs.Slice.Iter.{iter_rest}
use Rattle.curves.proofs.Walk.{Walk}
use Rattle.curves.proofs.polynomial.poly.Given as goal

-- poly is the polynomial of the coefficients behind those that are still to come
abbrev pub invariant-loop-c : goal.invariant-loop-c
invariant-loop-c l = Walk l.coeffs (iter_rest (rev_source l.c-iterator)) l.v l.poly

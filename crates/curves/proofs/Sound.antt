-- The test of `Spans`, computed over all forty curves for the line answers from 1 to 4095, in two halves: over the whole range at once
-- the intervals would be too wide. Assumes nothing.
use mathlib.Core.List.{List}
use Prim.Native.Nat.{ℕ, ◌<◌}
use lib.IntN.{ℤ}
use Rattle.terms.proofs.Check.{Check, by, also, rule}
use Rattle.terms.proofs.Order.{either}
use Rattle.curves.specs.Decimal.{nearest, doublings, scaled, magnitude, coefficient}
use Rattle.curves.specs.Flat.{curves, curve_of}
use Rattle.curves.specs.NothingLost.{Steps}
use Rattle.curves.proofs.Spans.{Over, Below, steady, room}

abbrev halves : {P : ℕ → Type 0} → Check (Over 1 2047 P) → Check (Over 2048 4095 P) → Check (Over 1 4095 P)
halves lower upper = by (λ p v least most. either v 2047 (p.0 v least) (λ h. p.1 v h most)) (also lower upper)

abbrev sound : (cs : List ℤ) → Check (Over 1 4095 (Steps cs) × Over 1 4095 (Below cs))
sound cs = also (halves (steady 1 2047 cs) (steady 2048 4095 cs)) (halves (room 1 2047 cs) (room 2048 4095 cs))

pub curves_sound : (k : ℕ) → k < 40 → Over 1 4095 (Steps (curve_of k)) × Over 1 4095 (Below (curve_of k))
unfolding curve_of curves coefficient magnitude scaled nearest doublings
curves_sound = rule (λ k. sound (curve_of k)) 40 tt

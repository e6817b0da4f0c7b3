-- Laws of the refusals that a call which goes by a map begins with: what is known where nothing is refused. Assumes nothing.
use mathlib.Core.Path.{◌≡◌}
use mathlib.Core.List.{List}
use Prim.Native.Nat.{ℕ, ◌≤◌}
use Rattle.terms.specs.declared.chip.MapChip.{MapChip}
use Rattle.terms.specs.Refusal.{unit_refusal}
use Rattle.terms.proofs.Refusals.{or_else_none, unit_inside}
use Rattle.dumps.specs.Dump.{dump_refusal}
use Rattle.maps.specs.Map.{map_refusal}
use Rattle.inputs.specs.Input.{fields_refusal, decoding_refusal}

module _ (lengths : List ℕ) (chip : MapChip) (dump map : List ℕ) where
  -- a dump and a map that aren't refused
  pub fields_good : fields_refusal lengths chip dump map ≡ 0 → (dump_refusal lengths dump ≡ 0) × (map_refusal lengths chip map ≡ 0)
  unfolding fields_refusal
  fields_good e = or_else_none (dump_refusal lengths dump) _ e

  -- where decoding goes on, its fields may be read, and unit and attenuation are inside
  pub decoding_good : (unit atten : ℕ) → decoding_refusal lengths chip dump map unit atten ≡ 0
      → (fields_refusal lengths chip dump map ≡ 0) × ((unit ≤ 1) × (atten ≤ 3))
  unfolding decoding_refusal fields_refusal
  decoding_good unit atten e =
      let p = or_else_none (dump_refusal lengths dump) _ e in
      let q = or_else_none (unit_refusal unit atten) _ p.1 in
      (simp (p.0, q.1), unit_inside unit atten q.0)

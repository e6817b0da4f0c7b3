-- The refusal and the value of each answer are document 01's. Assumes nothing.
use mathlib.Core.Path.{◌≡◌}
use mathlib.Core.List.{List}
use Prim.Native.Nat.{ℕ}
use Rattle.terms.specs.Refusal.{plain, outcome_of, refusal_of}
use Rattle.terms.specs.Says.{Says}
use Rattle.terms.proofs.Says.{says, outcome_says}
use Rattle.efuse.specs.declared.field.EfuseField.{EfuseField}
use Rattle.efuse.specs.Field.{read_refusal, field_bits, read_of}

module _ (lengths dump : List ℕ) (f : EfuseField) where
  -- `read_field`, by the width
  pub read_says : (width : ℕ) → Says 0 (read_of width lengths dump f) (plain (read_refusal lengths dump f)) (field_bits width dump f)
  unfolding read_of
  read_says width = says 0 _ _

  -- `read_field_le`: what it writes is its only value
  pub read_le_says : refusal_of (outcome_of (read_refusal lengths dump f)) ≡ plain (read_refusal lengths dump f)
  read_le_says = outcome_says _

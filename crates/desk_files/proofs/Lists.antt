-- Laws of the list that is gone by: it has no more than there is room for, and without a file it is eleven eights. Assumes nothing.
use Rattle.std.proofs.Common.{◌≡◌, ℕ, List, [], ◌∷◌, ◌++◌, take, refl, arith}
use Rattle.std.specs.Prelude.{Option, Some, None, IfSome}
use Rattle.std.specs.Counts.{IsPrefixLen}
use Rattle.terms.proofs.Counted.{counted}
use Rattle.dumps.specs.Lengths.{eights}
use Rattle.desk_files.specs.Read.{lengths_of, list_of}

module _ (bytes : List ℕ) where
  pub list_counts : (found : Option ℕ) → IfSome found (λ len. IsPrefixLen len bytes) → IsPrefixLen (list_of bytes found).len (list_of bytes found).bytes
  list_counts (Some len) h = h
  list_counts None h = counted 11 (eights ++ (0 ∷ [])) (omega arith)

  -- "a missing file meaning eleven eights"
  pub list_missing : lengths_of (list_of bytes None) ≡ eights
  list_missing = refl

  -- and else it is the file's bytes
  pub list_read : (len : ℕ) → lengths_of (list_of bytes (Some len)) ≡ take len bytes
  list_read len = refl

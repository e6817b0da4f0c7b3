-- Each number that the S2's codes give before the table is read is given exactly when. Assumes nothing.
use mathlib.Core.Path.{◌≡◌, refl, sym}
use mathlib.Core.List.{List}
use Prim.Native.Nat.{ℕ}
use Rattle.terms.specs.declared.chip.MapChip.TheVariants.{S2}
use Rattle.terms.specs.Exactly.{Exactly}
use Rattle.terms.proofs.Exactly.{Some, exactly, by_first}
use Rattle.terms.proofs.Order.{equal_or}
use Rattle.inputs.specs.Input.{decoding_refusal}
use Rattle.inputs.specs.When.{DecodingWhen}
use Rattle.inputs.proofs.Exactly.{decoding_exactly}
use Rattle.esp32s2.specs.Version.{version_of}
use Rattle.s2_codes.specs.Code.{version_refusal}
use Rattle.s2_codes.specs.When.{VersionWhen, before, bad_version, good_version}
use Rattle.s2_codes.proofs.Codes.{code_decoding, code_twelve, code_given}

module _ (lengths dump map : List ℕ) (unit atten : ℕ) where
  abbrev input : Exactly (decoding_refusal lengths S2 dump map unit atten) (DecodingWhen lengths S2 dump map unit atten)
  input = decoding_exactly lengths S2 dump map unit atten

  code_gives : (n : ℕ) → VersionWhen lengths dump map unit atten n → version_refusal lengths dump map unit atten ≡ n
  code_gives n (before k some) = sym (code_decoding _ _ _ _ _ (sym ((input n).1 k)) some)
  code_gives _ (bad_version k v) = sym (code_twelve _ _ _ _ _ refl ((input 0).1 k) refl v)
  code_gives _ (good_version k v) = sym (code_given _ _ _ _ _ refl ((input 0).1 k) refl v)

  version_some : DecodingWhen lengths S2 dump map unit atten 0 → Some (VersionWhen lengths dump map unit atten)
  version_some k = equal_or (version_of dump map) 2 (λ v. (0, good_version k v)) (λ v. (12, bad_version k v))

  pub version_exactly : Exactly (version_refusal lengths dump map unit atten) (VersionWhen lengths dump map unit atten)
  version_exactly = exactly code_gives (by_first input version_some (λ n k some. (n, before k some)))

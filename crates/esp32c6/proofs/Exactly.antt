-- Each number of the C6's codes is given exactly when. Assumes nothing.
use mathlib.Core.Path.{◌≡◌, refl, sym, ◌∙◌}
use mathlib.Core.Logic.{inl, inr}
use mathlib.Core.List.{List}
use Prim.Native.Nat.{ℕ}
use borrow.Author.Tests.{ne_eqb}
use Rattle.terms.specs.declared.chip.MapChip.TheVariants.{C6}
use Rattle.terms.specs.Exactly.{Exactly}
use Rattle.terms.proofs.Exactly.{Some, exactly, by_first}
use Rattle.terms.proofs.Order.{equal_or}
use Rattle.inputs.specs.Input.{decoding_refusal}
use Rattle.inputs.specs.When.{DecodingWhen}
use Rattle.inputs.proofs.Exactly.{decoding_exactly}
use Rattle.terms.specs.C6Version.{version_of}
use Rattle.esp32c6.specs.Code.{version_refusal, code_refusal}
use Rattle.esp32c6.specs.When.{CodeWhen, before, bad_version, good_version}
use Rattle.esp32c6.proofs.Codes.{code_decoding, code_version}

module _ (lengths dump map : List ℕ) (minor unit atten : ℕ) where
  abbrev input : Exactly (decoding_refusal lengths C6 dump map unit atten) (DecodingWhen lengths C6 dump map unit atten)
  input = decoding_exactly lengths C6 dump map unit atten

  code_gives : (n : ℕ) → CodeWhen lengths dump map minor unit atten n → code_refusal lengths dump map minor unit atten ≡ n
  unfolding version_refusal
  code_gives n (before k some) = sym (code_decoding _ _ _ _ _ _ (sym ((input n).1 k)) some)
  code_gives _ (bad_version k one two) = code_version _ _ _ _ _ _ refl ((input 0).1 k) ∙ simp (ne_eqb _ _ one, ne_eqb _ _ two)
  code_gives _ (good_version k (inl one)) = code_version _ _ _ _ _ _ refl ((input 0).1 k) ∙ rw one
  code_gives _ (good_version k (inr two)) = code_version _ _ _ _ _ _ refl ((input 0).1 k) ∙ rw two

  version_some : DecodingWhen lengths C6 dump map unit atten 0 → Some (CodeWhen lengths dump map minor unit atten)
  version_some k =
      equal_or (version_of minor) 1
      (λ one. (0, good_version k (inl one)))
      (λ one. equal_or (version_of minor) 2 (λ two. (0, good_version k (inr two))) (λ two. (12, bad_version k one two)))

  pub code_exactly : Exactly (code_refusal lengths dump map minor unit atten) (CodeWhen lengths dump map minor unit atten)
  code_exactly = exactly code_gives (by_first input version_some (λ n k some. (n, before k some)))

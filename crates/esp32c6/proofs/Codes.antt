-- Laws of the C6's codes: which case their refusal is, what is known where none is given, and that every code fits. Assumes nothing.
use mathlib.Core.Path.{◌≡◌, refl, sym, ◌∙◌, ap}
use mathlib.Core.Bool.{false, not, ◌||◌}
use mathlib.Core.List.{List}
use Prim.Native.Nat.{ℕ, ◌+◌, ◌^◌, ◌≤◌, ◌<◌}
use native.Mathlib.Omega.{arith}
use lib.Dec.{eqb}
use lib.IntN.{ℤ, pos, ◌+ℤ◌}
use mir.Syntax.{w32}
use mir.Val.{SFits}
use Rattle.terms.specs.declared.chip.MapChip.TheVariants.{C6}
use Rattle.terms.specs.Sign.{sign_magnitude}
use Rattle.terms.proofs.Order.{picked}
use Rattle.terms.proofs.Refusals.{or_else_none, or_else_some}
use Rattle.terms.proofs.Sign.{sign_fits}
use Rattle.terms.proofs.Whole.{up, dn, sum_is, not_negative}
use Rattle.terms.specs.C6Version.{version_of}
use Rattle.maps.specs.Told.{of_record}
use Rattle.maps.proofs.Told.{refuse_plain}
use Rattle.inputs.specs.Input.{fields_refusal, decoding_refusal}
use Rattle.inputs.proofs.Inputs.{decoding_good}
use Rattle.esp32c6.specs.Code.{version_refusal, code_refusal, offset_of}

-- 12 is of no record
pub version_plain : (minor : ℕ) → of_record (version_refusal minor) ≡ false
unfolding version_refusal
version_plain minor = refuse_plain (not (eqb (version_of minor) 1 || eqb (version_of minor) 2)) 12 refl

module _ (lengths dump map : List ℕ) (minor unit atten : ℕ) where
  -- which case the refusal of a code is
  module _ {n : ℕ} (e : n ≡ decoding_refusal lengths C6 dump map unit atten) where
    pub code_decoding : (n ≡ 0 → ⊥) → n ≡ code_refusal lengths dump map minor unit atten
    unfolding code_refusal
    code_decoding h = rw (← e) (sym (or_else_some n _ h))

    pub code_version : n ≡ 0 → code_refusal lengths dump map minor unit atten ≡ version_refusal minor
    unfolding code_refusal
    code_version z = simp (sym e ∙ z)

  -- where none is given, the fields may be read
  pub code_good : code_refusal lengths dump map minor unit atten ≡ 0 → (fields_refusal lengths C6 dump map ≡ 0) × (atten ≤ 3)
  unfolding code_refusal
  code_good e =
      let p = decoding_good lengths C6 dump map unit atten (or_else_none (decoding_refusal lengths C6 dump map unit atten) _ e).0 in
      (p.0, p.1.1)

-- an offset is one of three
pub offset_first : (atten : ℕ) → offset_of 1 atten ≡ 1500
unfolding offset_of
offset_first atten = refl

pub offset_second : (atten : ℕ) → (2850 ≤ offset_of 2 atten) × (offset_of 2 atten ≤ 2900)
unfolding offset_of
offset_second atten = picked (λ n. (2850 ≤ n) × (n ≤ 2900)) (eqb atten 2) (omega arith) (omega arith)

pub offset_range : (version atten : ℕ) → (1500 ≤ offset_of version atten) × (offset_of version atten ≤ 2900)
unfolding offset_of
offset_range version atten =
    let P : ℕ → Type 0 = λ n. (1500 ≤ n) × (n ≤ 2900) in
    picked P (eqb version 1) (omega arith) (picked P (eqb atten 2) (omega arith) (omega arith))

-- a reference code is at most 511 from its offset, and so isn't negative and fits
module _ (offset bits : ℕ) (least : 1500 ≤ offset) (most : offset ≤ 2900) (few : bits < 2 ^ 10) where
  abbrev code : ℤ
  code = pos offset +ℤ sign_magnitude 10 bits

  pub code_whole : code ≡ pos (up code)
  code_whole = not_negative code (omega (arith, sum_is (pos offset) (sign_magnitude 10 bits), sign_fits 10 bits (omega arith) few))

  pub code_near : (offset ≤ up code + 511) × (up code ≤ offset + 511)
  code_near =
      omega (arith, sum_is (pos offset) (sign_magnitude 10 bits), sign_fits 10 bits (omega arith) few, ap dn code_whole)

  pub code_small : up code < 2 ^ 16
  code_small = omega (arith, code_near)

  pub code_fits : SFits w32 code
  code_fits = rw code_whole (record { sfits = omega (arith, code_near) })

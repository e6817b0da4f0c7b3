-- Laws of the S2's codes: which case their refusal is, and what is known where none is given. Assumes nothing.
use mathlib.Core.Path.{◌≡◌, refl, sym, ◌∙◌}
use mathlib.Core.List.{List}
use Prim.Native.Nat.{ℕ, ◌≤◌}
use borrow.Author.Tests.{eq-eqb, ne_eqb}
use Rattle.terms.specs.declared.chip.MapChip.TheVariants.{S2}
use Rattle.terms.specs.declared.refusal.Refusal.{Refusal}
use Rattle.terms.specs.Refusal.{plain}
use Rattle.terms.proofs.Refusals.{or_else_none, or_else_some, by_number_good, by_number_refused, number_is}
use Rattle.terms.proofs.Order.{zero_or}
use Rattle.maps.specs.Told.{told_of}
use Rattle.maps.proofs.Told.{told_number}
use Rattle.inputs.specs.Input.{decoding_refusal}
use Rattle.inputs.proofs.Inputs.{fields_good, decoding_good}
use Rattle.esp32s2.specs.Version.{version_of}
use Rattle.s2_readings.specs.declared.tag.RtcCalibParam.{RtcCalibParam}
use Rattle.s2_readings.specs.Chain.{chain_refusal}
use Rattle.s2_readings.specs.Private.{Ready}
use Rattle.s2_readings.specs.Tag.{tag_of}
use Rattle.s2_readings.proofs.Readings.{dump_ready}
use Rattle.s2_codes.specs.Code.{version_refusal, code_told}

module _ (lengths dump map : List ℕ) (unit atten : ℕ) where
  module _ {n : ℕ} (e : n ≡ decoding_refusal lengths S2 dump map unit atten) where
    pub code_decoding : (n ≡ 0 → ⊥) → n ≡ version_refusal lengths dump map unit atten
    unfolding version_refusal
    code_decoding h = rw (← e) (sym (or_else_some n _ h))

    -- of what isn't refused before it, by the version
    module _ (z : n ≡ 0) {version : ℕ} (v : version ≡ version_of dump map) where
      pub code_twelve : (version ≡ 2 → ⊥) → 12 ≡ version_refusal lengths dump map unit atten
      unfolding version_refusal
      code_twelve h = simp (sym e ∙ z, ← v, ne_eqb _ _ h)

      pub code_given : version ≡ 2 → 0 ≡ version_refusal lengths dump map unit atten
      unfolding version_refusal
      code_given h = simp (sym e ∙ z, ← v, eq-eqb _ _ h)

  -- where none is given, the table may be read
  pub code_good : version_refusal lengths dump map unit atten ≡ 0 → Ready lengths dump × ((unit ≤ 1) × (atten ≤ 3))
  unfolding version_refusal
  code_good e =
      let p = decoding_good lengths S2 dump map unit atten (or_else_none (decoding_refusal lengths S2 dump map unit atten) _ e).0 in
      (dump_ready lengths dump (fields_good lengths S2 dump map p.0).0, p.1)

  -- which case the whole refusal is: the first part's, or the table's
  module _ (param : RtcCalibParam) where
    pub code_before : {why : Refusal} → why ≡ told_of lengths S2 map (version_refusal lengths dump map unit atten) → (why.number ≡ 0 → ⊥)
        → code_told lengths dump map unit atten param ≡ why
    unfolding code_told
    code_before e h = by_number_refused _ _ _ (λ z. h (number_is e ∙ z)) ∙ sym e

    pub code_table : version_refusal lengths dump map unit atten ≡ 0
        → code_told lengths dump map unit atten param ≡ plain (chain_refusal lengths (tag_of 2 unit atten param))
    unfolding code_told
    code_table e = by_number_good _ _ _ (told_number lengths map S2 _ ∙ e)

    -- where the whole isn't given, neither part is
    pub code_accepted : (code_told lengths dump map unit atten param).number ≡ 0
        → (version_refusal lengths dump map unit atten ≡ 0) × (chain_refusal lengths (tag_of 2 unit atten param) ≡ 0)
    code_accepted z =
        zero_or (version_refusal lengths dump map unit atten)
        (λ e. (e, sym (number_is (code_table e)) ∙ z))
        (λ some.
        (let first : ℕ = (told_of lengths S2 map (version_refusal lengths dump map unit atten)).number in
        let same : first ≡ version_refusal lengths dump map unit atten = told_number lengths map S2 _ in
        let there : first ≡ 0 → ⊥ = λ e. some (sym same ∙ e) in
        absurd (there (sym (number_is (code_before refl there)) ∙ z))))

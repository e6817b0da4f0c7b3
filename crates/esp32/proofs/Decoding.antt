-- Laws of decoding: which case its refusal is, what is known where nothing is refused, which case a decoding is, and that a
-- decoded record passes the record check. Assumes nothing.
use Rattle.std.proofs.Common.{◌≡◌, ℕ, ◌≤◌, false, List, pos, sym, refl, ap, ◌∙◌}
use lib.Signed.{lt_z}
use Rattle.terms.specs.declared.chip.MapChip.TheVariants.{Esp32}
use Rattle.terms.specs.declared.refusal.Refusal.{Refusal}
use Rattle.std.specs.Prelude.{Ok, Err}
use Rattle.terms.specs.Refusal.{plain, answered, outcome_told}
use Rattle.terms.proofs.Refusals.{or_else_none, or_else_some, number_is, told_refused, went_well, was_refused}
use Rattle.inputs.specs.Input.{fields_refusal, decoding_refusal}
use Rattle.maps.specs.Told.{of_record, told_of}
use Rattle.maps.specs.Value.{value_by_id}
use Rattle.maps.proofs.Told.{refuse_plain, told_as, told_same, told_is_number, told_went_well, map_good}
use Rattle.inputs.proofs.Inputs.{decoding_good}
use Rattle.vref.specs.declared.coefficients.Coefficients.{Coefficients}
use Rattle.line_record.specs.declared.record.LineRecord.{LineRecord}
use Rattle.esp32.specs.declared.characterize.Basis.{Basis}
use Rattle.esp32.specs.declared.characterize.Basis.TheVariants.{TwoPoint, Vref}
use Rattle.line_record.specs.Record.{record_refusal}
use Rattle.esp32.specs.Code.{vref_of, low_of, high_of}
use Rattle.esp32.specs.Characterize.{tp_offset, top_of, b_of, b_refusal, basis_refusal}
use Rattle.esp32.specs.Decode.{basis_of, found_of, decoded_record, decode_refusal, decode_of}
use Rattle.line_record.proofs.Records.{record_good}
use Rattle.esp32.proofs.Codes.{vref_range}
use Rattle.esp32.proofs.Coefficients.{line_ranges, by_vref}
use Rattle.esp32.proofs.Bases.{vref_fits}

-- 9 is of no record
basis_plain : (unit atten : ℕ) (basis : Basis) → of_record (basis_refusal unit atten basis) ≡ false
unfolding b_refusal basis_refusal
basis_plain unit atten (TwoPoint low high) = refuse_plain (lt_z (b_of (top_of (low_of unit low) (high_of unit high)) (tp_offset unit atten)) (pos 0)) 9 refl
basis_plain unit atten Vref = refl

module _ (lengths dump map : List ℕ) (unit atten : ℕ) where
  abbrev input : ℕ
  input = decoding_refusal lengths Esp32 dump map unit atten

  abbrev decoding : ℕ
  decoding = decode_refusal lengths dump map unit atten

  -- which case a decoding's refusal is
  pub decode_input : {n : ℕ} → n ≡ input → (n ≡ 0 → ⊥) → n ≡ decoding
  unfolding decode_refusal
  decode_input e h = rw (← e) (sym (or_else_some _ _ h))

  pub decode_basis : input ≡ 0 → {basis : Basis} → basis ≡ basis_of dump map unit
      → {n : ℕ} → n ≡ basis_refusal unit atten basis → n ≡ decoding
  unfolding decode_refusal
  decode_basis e s h = h ∙ rw (s, e)

  -- and what it tells
  pub decode_passed_on : {why : Refusal} → why ≡ told_of lengths Esp32 map input → (why.number ≡ 0 → ⊥) → why ≡ told_of lengths Esp32 map decoding
  decode_passed_on e h =
      let n = told_is_number lengths map Esp32 e in told_same lengths map Esp32 e (sym (decode_input n h) ∙ n)

  pub decode_nine : input ≡ 0 → {basis : Basis} → basis ≡ basis_of dump map unit → {n : ℕ} → n ≡ basis_refusal unit atten basis
      → {why : Refusal} → why ≡ plain n → why ≡ told_of lengths Esp32 map decoding
  decode_nine e s h p = told_as lengths map Esp32 p (rw h (basis_plain unit atten _)) (sym (decode_basis e s h))

  -- what is known where nothing is refused
  pub decode_good : decoding ≡ 0
      → (fields_refusal lengths Esp32 dump map ≡ 0) × ((unit ≤ 1) × (atten ≤ 3)) × (basis_refusal unit atten (basis_of dump map unit) ≡ 0)
  unfolding decode_refusal
  decode_good e =
      let p = or_else_none input _ e in
      let good = decoding_good lengths Esp32 dump map unit atten p.0 in
      (good.0, good.1, p.1)

  -- which case a decoding is, as a `return` asks it
  pub decode_refused : {why : Refusal} → why ≡ told_of lengths Esp32 map decoding → (why.number ≡ 0 → ⊥)
      → Err why ≡ decode_of lengths dump map unit atten
  unfolding decode_of
  decode_refused e h = told_refused _ _ e h

  pub decode_record : {r : LineRecord} → decoding ≡ 0 → r ≡ decoded_record dump map unit atten
      → Ok r ≡ decode_of lengths dump map unit atten
  unfolding decode_of
  decode_record e r = map_good lengths map Esp32 _ e (ap Ok r)

  -- by what the check of what is handed in answers, and the search for what a record is made from
  pub input_refused : {why : Refusal} → Err why ≡ outcome_told (told_of lengths Esp32 map input) → Err why ≡ decode_of lengths dump map unit atten
  input_refused {why} e =
      let w = was_refused _ tt e in
      let some : why.number ≡ 0 → ⊥ = λ z. w.0 (sym (number_is w.1) ∙ z) in
      decode_refused (decode_passed_on w.1 some) some

  module _ {v : Unit} (good : Ok v ≡ outcome_told (told_of lengths Esp32 map input)) where
    abbrev nine : ℕ
    nine = basis_refusal unit atten (basis_of dump map unit)

    pub basis_refused : {A : Type 0} (found : A) {why : Refusal} → Err why ≡ answered nine found → Err why ≡ decode_of lengths dump map unit atten
    basis_refused found e =
        let w = was_refused _ found e in
        decode_refused (decode_nine (told_went_well lengths map Esp32 good) refl refl w.1) (λ z. w.0 (sym (number_is w.1) ∙ z))

    pub found_good : {A : Type 0} (found : A) {f : A} → Ok f ≡ answered nine found → (decoding ≡ 0) × (f ≡ found)
    found_good found e =
        let w = went_well _ found e in (sym (decode_basis (told_went_well lengths map Esp32 good) refl (sym w.0)), w.1)

  -- what is decoded passes the record check
  pub decoded_passes : decoding ≡ 0 → record_refusal (decoded_record dump map unit atten) ≡ 0
  unfolding decoded_record found_of
  decoded_passes e =
      let good = decode_good e in
      let vref = vref_range (vref_fits lengths dump map good.0) in
      let mv : ℕ = vref_of (value_by_id Esp32 dump map 1) in
      let line = line_ranges unit atten mv (basis_of dump map unit) vref.1 good.2 in
      record_good _
      (record {
        ranges = record { a = line.0; b = line.1; vref_least = vref.0; vref_most = vref.1; unit = good.1.0; atten = good.1.1 };
        line = λ s. let by = by_vref unit atten mv (basis_of dump map unit) s in record { a = ap (λ (l : Coefficients). l.a) by; b = ap (λ (l : Coefficients). l.b) by };
      })

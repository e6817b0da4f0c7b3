-- Each number of decoding is given exactly when: those that every decoder begins with, then the basis's. Assumes nothing.
use Rattle.std.proofs.Common.{◌≡◌, ℕ, ◌+◌, true, false, List, ℤ, pos, ◌≤ℤ◌, ◌<ℤ◌, sym, refl, ◌∙◌, true≢false}
use Rattle.terms.specs.declared.chip.MapChip.TheVariants.{Esp32}
use Rattle.terms.specs.Exactly.{Exactly}
use Rattle.terms.proofs.Exactly.{Some, exactly, by_first}
use Rattle.terms.proofs.Order.{either, whether}
use Rattle.inputs.specs.Input.{decoding_refusal}
use Rattle.inputs.specs.When.{DecodingWhen}
use Rattle.inputs.proofs.Exactly.{decoding_exactly}
use Rattle.esp32.specs.Characterize.{tp_offset, basis_refusal}
use Rattle.esp32.specs.Decode.{two_point_used, basis_of, decode_refusal}
use Rattle.esp32.specs.When.{top_for, b_for, DecodeWhen, before, underflow, decoded}
use Rattle.esp32.proofs.Coefficients.{b_negative, b_not_negative, b_refused, b_good}
use Rattle.esp32.proofs.Bases.{basis_two_point, basis_vref}
use Rattle.esp32.proofs.Decoding.{decode_input, decode_basis}

module _ (lengths dump map : List ℕ) (unit atten : ℕ) where
  abbrev number : ℕ
  number = decode_refusal lengths dump map unit atten

  abbrev Before : ℕ → Type 0
  Before n = DecodingWhen lengths Esp32 dump map unit atten n

  abbrev input : Exactly (decoding_refusal lengths Esp32 dump map unit atten) Before
  input = decoding_exactly lengths Esp32 dump map unit atten

  -- the unit's b at the attenuation, and the number that its basis gives
  abbrev b : ℤ
  b = b_for dump map unit atten

  abbrev basis : ℕ
  basis = basis_refusal unit atten (basis_of dump map unit)

  basis_underflow : two_point_used dump map ≡ true → b <ℤ pos 0 → basis ≡ 9
  unfolding basis_refusal
  basis_underflow t h = rw (basis_two_point dump map unit t) (b_refused _ _ h)

  basis_good : two_point_used dump map ≡ true → pos 0 ≤ℤ b → basis ≡ 0
  unfolding basis_refusal
  basis_good t h = rw (basis_two_point dump map unit t) (b_good _ _ h)

  basis_never : two_point_used dump map ≡ false → basis ≡ 0
  unfolding basis_refusal
  basis_never t = rw (basis_vref dump map unit t)

  by_basis : Before 0 → {n : ℕ} → basis ≡ n → number ≡ n
  by_basis k e = sym (decode_basis _ _ _ _ _ ((input 0).1 k) refl (sym e))

  decode_gives : (n : ℕ) → DecodeWhen lengths dump map unit atten n → number ≡ n
  decode_gives n (before k some) = sym (decode_input _ _ _ _ _ (sym ((input n).1 k)) some)
  decode_gives _ (underflow k t h) = by_basis k (basis_underflow t h)
  decode_gives _ (decoded k h) =
      whether (two_point_used dump map) (λ t. by_basis k (basis_good t (h t))) (λ t. by_basis k (basis_never t))

  basis_some : Before 0 → Some (DecodeWhen lengths dump map unit atten)
  basis_some k =
      whether (two_point_used dump map)
      (λ t.
      either (top_for dump map unit) (850 + tp_offset unit atten)
      (λ h. (0, decoded k (λ s. b_not_negative _ _ h)))
      (λ h. (9, underflow k t (b_negative _ _ h))))
      (λ t. (0, decoded k (λ s. absurd (true≢false (sym s ∙ t)))))

  pub decode_exactly : Exactly number (DecodeWhen lengths dump map unit atten)
  decode_exactly = exactly decode_gives (by_first input basis_some (λ n k some. (n, before k some)))

-- Laws of what a decoding reads: fields of a map that passed fit their bits, and which basis they make. Assumes nothing.
use Rattle.std.proofs.Common.{◌≡◌, ℕ, ◌+◌, ◌^◌, ◌<◌, true, false, not, ◌&&◌, eqb, List, sym, refl, ◌∙◌, le_refl, lit≤, eq-eqb, ne_eqb}
use Rattle.terms.specs.declared.chip.MapChip.TheVariants.{Esp32}
use Rattle.terms.specs.Unit.{by_unit}
use Rattle.terms.proofs.Order.{picked}
use Rattle.terms.proofs.Units.{by_unit_lem}
use Rattle.maps.specs.Map.{counts_of}
use Rattle.inputs.specs.Input.{fields_refusal}
use Rattle.maps.specs.Value.{record_value, value_by_id}
use Rattle.inputs.proofs.Values.{value_fits, value_is}
use Rattle.line_record.specs.declared.record.Source.TheVariants as source
use Rattle.esp32.specs.declared.characterize.Basis.{Basis}
use Rattle.esp32.specs.declared.characterize.Basis.TheVariants.{TwoPoint, Vref}
use Rattle.esp32.specs.Private.{InBits}
use Rattle.esp32.specs.Decode.{two_point_used, low_bits, high_bits, basis_of, source_of}

module _ (dump map : List ℕ) (unit : ℕ) where
  -- which basis it is
  pub basis_two_point : two_point_used dump map ≡ true → basis_of dump map unit ≡ TwoPoint (low_bits dump map unit) (high_bits dump map unit)
  unfolding basis_of
  basis_two_point e = rw e

  pub basis_vref : two_point_used dump map ≡ false → basis_of dump map unit ≡ Vref
  unfolding basis_of
  basis_vref e = rw e

  -- and which source a record of it has
  pub source_two_point : two_point_used dump map ≡ true → source_of (basis_of dump map unit) ≡ source.TwoPoint
  unfolding source_of
  source_two_point e = rw (basis_two_point e)

  pub source_vref : two_point_used dump map ≡ false → source_of (basis_of dump map unit) ≡ source.Vref
  unfolding source_of
  source_vref e = rw (basis_vref e)

-- where nothing of a dump and a map is refused
module _ (lengths dump map : List ℕ) (good : fields_refusal lengths Esp32 dump map ≡ 0) where
  -- record k's value is that of id 1 + k, and fits its bits
  pub read : (k : ℕ) → k < 6 → {v : ℕ} → v ≡ record_value lengths dump map k → v ≡ value_by_id Esp32 dump map (1 + k)
  read k h = value_is lengths Esp32 dump map good (1 + k) k refl h

  fits : (k : ℕ) → k < 6 → value_by_id Esp32 dump map (1 + k) < 2 ^ (counts_of (1 + k)).max
  fits k h = value_fits lengths Esp32 dump map good (1 + k) k refl h _ (le_refl _)

  pub vref_fits : value_by_id Esp32 dump map 1 < 32
  vref_fits = fits 0 (lit≤ tt)

  module _ (unit : ℕ) where
    low_fits : low_bits dump map unit < 128
    low_fits = by_unit_lem (λ bits. bits < 128) unit (fits 2 (lit≤ tt)) (fits 3 (lit≤ tt))

    high_fits : high_bits dump map unit < 512
    high_fits = by_unit_lem (λ bits. bits < 512) unit (fits 4 (lit≤ tt)) (fits 5 (lit≤ tt))

    pub basis_in_bits : InBits (basis_of dump map unit)
    unfolding basis_of
    basis_in_bits = picked InBits (two_point_used dump map) (low_fits, high_fits) tt

    abbrev basis : Basis
    basis = basis_of dump map unit

    -- which basis it is by the fields in the order in which they are read, as a `return` asks it
    module _ {reserve : ℕ} (r : reserve ≡ record_value lengths dump map 1) where
      reserve_is : reserve ≡ value_by_id Esp32 dump map 2
      reserve_is = read 1 (lit≤ tt) r

      pub no_reserve : (reserve ≡ 1 → ⊥) → Vref ≡ basis
      unfolding basis_of two_point_used
      no_reserve h = simp (← reserve_is, ne_eqb _ _ h)

      module _ (one : reserve ≡ 1) {low1 : ℕ} (l : low1 ≡ record_value lengths dump map 2) where
        low1_is : low1 ≡ value_by_id Esp32 dump map 3
        low1_is = read 2 (lit≤ tt) l

        pub no_low1 : low1 ≡ 0 → Vref ≡ basis
        unfolding basis_of two_point_used
        no_low1 h = simp (← reserve_is, eq-eqb _ _ one, ← low1_is, eq-eqb _ _ h)

        module _ (some-low1 : low1 ≡ 0 → ⊥) {low2 : ℕ} (m : low2 ≡ record_value lengths dump map 3) where
          low2_is : low2 ≡ value_by_id Esp32 dump map 4
          low2_is = read 3 (lit≤ tt) m

          pub no_low2 : low2 ≡ 0 → Vref ≡ basis
          unfolding basis_of two_point_used
          no_low2 h = simp (← reserve_is, eq-eqb _ _ one, ← low1_is, ne_eqb _ _ some-low1, ← low2_is, eq-eqb _ _ h)

          module _ (some-low2 : low2 ≡ 0 → ⊥) {high1 : ℕ} (n : high1 ≡ record_value lengths dump map 4) where
            high1_is : high1 ≡ value_by_id Esp32 dump map 5
            high1_is = read 4 (lit≤ tt) n

            used : two_point_used dump map ≡ not (eqb high1 0) && not (eqb (value_by_id Esp32 dump map 6) 0)
            unfolding two_point_used
            used =
                simp
                (← reserve_is, eq-eqb _ _ one, ← low1_is, ne_eqb _ _ some-low1, ← low2_is, ne_eqb _ _ some-low2, ← high1_is)

            pub no_high1 : high1 ≡ 0 → Vref ≡ basis
            no_high1 h = sym (basis_vref dump map unit (used ∙ rw (eq-eqb _ _ h)))

            module _ (some-high1 : high1 ≡ 0 → ⊥) {high2 : ℕ} (o : high2 ≡ record_value lengths dump map 5) where
              high2_is : high2 ≡ value_by_id Esp32 dump map 6
              high2_is = read 5 (lit≤ tt) o

              last : two_point_used dump map ≡ not (eqb high2 0)
              last = used ∙ rw (ne_eqb _ _ some-high1, ← high2_is)

              pub no_high2 : high2 ≡ 0 → Vref ≡ basis
              no_high2 h = sym (basis_vref dump map unit (last ∙ rw (eq-eqb _ _ h)))

              pub all_codes : (high2 ≡ 0 → ⊥) → {low high : ℕ} → low ≡ by_unit unit low1 low2 → high ≡ by_unit unit high1 high2
                  → TwoPoint low high ≡ basis
              all_codes h p q =
                  rw (p, q, low1_is, low2_is, high1_is, high2_is)
                  (sym (basis_two_point dump map unit (last ∙ rw (ne_eqb _ _ h))))

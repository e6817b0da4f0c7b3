-- Laws of the record check: what isn't refused is good, and what is good isn't refused. Assumes nothing.
use mathlib.Core.Path.{◌≡◌, refl, sym, ◌∙◌}
use mathlib.Core.Bool.{Bool, true, false, not, ◌&&◌}
use mathlib.Core.Logic.{◌⊎◌, inl, inr}
use Prim.Native.Nat.{◌≤◌}
use lib.Dec.{leb, eqb}
use borrow.Author.Tests.{leb-true, le-leb, eqb-true, eq-eqb, not-false}
use Rattle.terms.specs.Refusal.{refuse}
use Rattle.terms.proofs.Refusals.{refuse_none, and_true}
use Rattle.vref.specs.declared.coefficients.Coefficients.{Coefficients}
use Rattle.vref.specs.Coefficients.{vref_line, is_vref_line}
use Rattle.vref.proofs.Lines.{vref_ranges, there_test, by_line}
use Rattle.line_record.specs.declared.record.LineRecord.{LineRecord}
use Rattle.line_record.specs.declared.record.Source.{Source}
use Rattle.line_record.specs.declared.record.Source.TheVariants.{TwoPoint, Vref}
use Rattle.line_record.specs.Record.{line_in_ranges, converter_in_ranges, has_vref_line, fits_source, good_record, record_refusal}
use Rattle.line_record.specs.When.{InRanges, HasVrefLine, GoodRecord}

module _ (r : LineRecord) where
  -- the converter's ranges, by their test
  pub converter_holds : converter_in_ranges r ≡ true → (995 ≤ r.vref) × (r.vref ≤ 1205) × (r.unit ≤ 1) × (r.atten ≤ 3)
  unfolding converter_in_ranges
  converter_holds e =
      let least : Bool = leb 995 r.vref in
      let most : Bool = leb r.vref 1205 in
      let unit : Bool = leb r.unit 1 in
      let p = and_true (least && most && unit) (leb r.atten 3) e in
      let q = and_true (least && most) unit p.0 in
      let s = and_true least most q.0 in
      (leb-true _ _ s.0, leb-true _ _ s.1, leb-true _ _ q.1, leb-true _ _ p.1)

  converter_test : InRanges r → converter_in_ranges r ≡ true
  unfolding converter_in_ranges
  converter_test h = simp (le-leb _ _ h.vref_least, le-leb _ _ h.vref_most, le-leb _ _ h.unit, le-leb _ _ h.atten)

  -- the line's
  line_holds : line_in_ranges r ≡ true → (r.coeff_a ≤ 131071) × (r.coeff_b ≤ 4095)
  unfolding line_in_ranges
  line_holds e =
      let p = and_true (leb r.coeff_a 131071) (leb r.coeff_b 4095) e in
      (leb-true _ _ p.0, leb-true _ _ p.1)

  line_test : InRanges r → line_in_ranges r ≡ true
  unfolding line_in_ranges
  line_test h = simp (le-leb _ _ h.a, le-leb _ _ h.b)

  -- the line by Vref, by its test
  abbrev line : Coefficients
  line = vref_line r.unit r.atten r.vref

  vref_holds : has_vref_line r ≡ true → HasVrefLine r
  unfolding has_vref_line
  vref_holds e =
      let p = and_true (eqb r.coeff_a line.a) (eqb r.coeff_b line.b) e in
      record { a = eqb-true _ _ p.0; b = eqb-true _ _ p.1 }

  vref_test : HasVrefLine r → has_vref_line r ≡ true
  unfolding has_vref_line
  vref_test h = simp (eq-eqb _ _ h.a, eq-eqb _ _ h.b)

  pub vref_tested : converter_in_ranges r ≡ true
      → is_vref_line r.unit r.atten r.vref r.coeff_a r.coeff_b ≡ has_vref_line r
  unfolding has_vref_line
  vref_tested e =
      let there = converter_holds e in
      by_line _ _ _ _ _ (there_test r.unit r.atten r.vref there.2 there.3 there.1)

  -- what a record's source asks of them
  pub fits_two_point : {source : Source} → source ≡ TwoPoint → fits_source source r ≡ line_in_ranges r
  unfolding fits_source
  fits_two_point s = rw s

  pub fits_vref : {source : Source} → source ≡ Vref → fits_source source r ≡ has_vref_line r
  unfolding fits_source
  fits_vref s = rw s

  fits_test : (source : Source) → InRanges r → (source ≡ Vref → HasVrefLine r) → fits_source source r ≡ true
  unfolding fits_source
  fits_test TwoPoint ranges h = line_test ranges
  fits_test Vref ranges h = vref_test (h refl)

  -- by either source a and b are inside their ranges
  fits_ranges : (source : Source) → r.vref ≤ 1205 → fits_source source r ≡ true → (r.coeff_a ≤ 131071) × (r.coeff_b ≤ 4095)
  unfolding fits_source
  fits_ranges TwoPoint v e = line_holds e
  fits_ranges Vref v e =
      let most = vref_ranges r.unit r.atten r.vref v in
      let is = vref_holds e in
      (rw is.a most.0, rw is.b most.1)

  -- what isn't refused, and what is good
  both : record_refusal r ≡ 0 → (converter_in_ranges r ≡ true) × (fits_source r.source r ≡ true)
  unfolding record_refusal good_record
  both e =
      let good : Bool = converter_in_ranges r && fits_source r.source r in
      and_true (converter_in_ranges r) (fits_source r.source r) (not-false good (refuse_none (not good) 9 0 e).0)

  pub record_converter : record_refusal r ≡ 0 → converter_in_ranges r ≡ true
  record_converter e = (both e).0

  pub record_sound : record_refusal r ≡ 0 → InRanges r
  record_sound e =
      let converter = converter_holds (both e).0 in
      let line = fits_ranges r.source converter.1 (both e).1 in
      record { a = line.0; b = line.1; vref_least = converter.0; vref_most = converter.1; unit = converter.2; atten = converter.3 }

  pub record_whole : record_refusal r ≡ 0 → GoodRecord r
  record_whole e = record { ranges = record_sound e; line = λ s. vref_holds (sym (fits_vref s) ∙ (both e).1) }

  pub record_good : GoodRecord r → record_refusal r ≡ 0
  unfolding record_refusal good_record
  record_good h = rw (converter_test h.ranges, fits_test r.source h.ranges h.line)

  -- it gives no other number
  pub record_number : (record_refusal r ≡ 0) ⊎ (record_refusal r ≡ 10)
  unfolding record_refusal
  record_number = by (good_record r)
    where
      by : (good : Bool) → (refuse (not good) 10 0 ≡ 0) ⊎ (refuse (not good) 10 0 ≡ 10)
      by true = inl refl
      by false = inr refl

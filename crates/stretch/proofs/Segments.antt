-- Laws of the fill's segments: how far each goes, and that in it the quotients of a slope are the answers. Assumes nothing.
use mathlib.Core.Path.{◌≡◌, sym, ◌∙◌, ap}
use mathlib.Core.Bool.{true, false, true≢false}
use Prim.Native.Nat.{ℕ, ◌+◌, ◌*◌, ◌-◌, ◌/◌, ◌%◌, ◌≤◌, ◌<◌}
use native.Mathlib.Nat.{mul-add}
use native.Mathlib.Omega.{arith}
use borrow.Author.Tests.{lt-ltb, le-ltb}
use Rattle.terms.specs.Table.{tab}
use Rattle.terms.proofs.Order.{either, whether}
use Rattle.terms.proofs.Tab.{tab_same}
use Rattle.line_record.specs.declared.record.LineRecord.{LineRecord}
use Rattle.line.specs.declared.lookup.Slope.{Slope}
use Rattle.line_record.specs.Record.{uses_lookup, record_refusal}
use Rattle.line.specs.Lookup.{lookup_sum, lookup_voltage, lut_slope}
use Rattle.line.specs.Convert.{line_voltage, blend_of, beyond_line}
use Rattle.stretch.specs.Fill.{answers_from}
use Rattle.stretch.specs.Private.{along, line_slope, InStep, Blended, segment_left}
use Rattle.lut.proofs.Sums.{voltage_is, sum_most, sum_along}
use Rattle.line.proofs.Answers.{beyond_line_lem, beyond_yes, beyond_plain, beyond_below, answer_line, answer_blend, answer_upper, line_sum_most}
use Rattle.line_record.proofs.Records.{record_converter, record_sound}
use Rattle.line.proofs.Lookups.{has_count, slope_some}

-- how far a segment goes
module _ (r : LineRecord) (count : ℕ) where
  pub segment_plain : uses_lookup r ≡ false → segment_left r count ≡ 4096 - count
  unfolding segment_left
  segment_plain e = simp e

  pub segment_line : uses_lookup r ≡ true → count < 2880 → segment_left r count ≡ 2880 - count
  unfolding segment_left
  segment_line e h = simp (e, lt-ltb _ _ h)

  pub segment_step : uses_lookup r ≡ true → 2880 ≤ count → segment_left r count ≡ 64 - count % 64
  unfolding segment_left
  segment_step e h = simp (e, le-ltb _ _ h)

  -- it has a count, and ends by 4096
  pub segment_ends : count ≤ 4095 → (0 < segment_left r count) × (count + segment_left r count ≤ 4096)
  segment_ends h =
      whether (uses_lookup r)
      (λ e.
      either 2880 count
      (λ l. let s = segment_step e l in omega arith)
      (λ l. let s = segment_line e l in omega arith))
      (λ e. let s = segment_plain e in omega arith)

-- the line's slope from a first count on
module _ (r : LineRecord) (first : ℕ) {s : Slope} (p : s ≡ line_slope r first) where
  pub line_voltage_lem : (k : ℕ) → along s k / 65536 ≡ line_voltage r (first + k)
  unfolding line_voltage
  line_voltage_lem k = rw p (omega (arith, mul-add r.coeff_a first k))

  pub line_tab : (n : ℕ) → tab (λ k. along s k / 65536) n ≡ tab (λ k. line_voltage r (first + k)) n
  line_tab n = tab_same _ _ _ (λ k h. line_voltage_lem k)

  pub line_fits : (n : ℕ) → record_refusal r ≡ 0 → first + n ≤ 4096 → along s n < 65536 * 65536
  line_fits n good h =
      rw p (omega (arith, mul-add r.coeff_a first n, line_sum_most r (record_sound r good) (first + n) h))

-- the lookup's, of which n counts are at most up to the next point
module _ (r : LineRecord) (first n : ℕ) {s : Slope} (p : s ≡ lut_slope r first) (good : record_refusal r ≡ 0) (step : InStep first n) where
  lut_sum : (k : ℕ) → first % 64 + k ≤ 64 → along s k ≡ lookup_sum r (first + k)
  lut_sum k near =
      let ranges = record_sound r good in
      let has = has_count r first (record_converter r good) step.from step.upto in
      rw (p ∙ sym (slope_some r first has))
      (sym (sum_along _ _ first step.from step.upto ranges.vref_least ranges.vref_most k near))

  lut_voltage : (k : ℕ) → first % 64 + k ≤ 64 → along s k / 12800 ≡ lookup_voltage r (first + k)
  lut_voltage k near = ap (λ (sum : ℕ). sum / 12800) (lut_sum k near) ∙ sym (voltage_is _ _ (first + k))

  pub lut_fits : along s n < 65536 * 12800
  lut_fits =
      let ranges = record_sound r good in
      omega (
        arith,
        lut_sum n step.room,
        sum_most r.unit r.vref (first + n) (omega arith) ranges.vref_most (omega arith),
      )

  pub blended : {line : Slope} → line ≡ line_slope r first → first < 2944 → Blended line s (first - 2880) n
  blended q below =
      record { counts = omega arith; line_fits = line_fits r first q n good (omega arith); lut_fits = lut_fits }

  -- from 2944 on its quotients are the answers
  pub upper_tab : uses_lookup r ≡ true → 2944 ≤ first → tab (λ k. along s k / 12800) n ≡ answers_from r first n
  upper_tab uses l =
      tab_same _ _ _
      (λ k h. lut_voltage k (omega arith) ∙ sym (answer_upper r (first + k) uses (omega arith)))

  -- and below that their blend with the line's
  pub blend_tab : {line : Slope} → line ≡ line_slope r first → uses_lookup r ≡ true → first < 2944
      → tab (λ k. blend_of (along line k / 65536) (along s k / 12800) (first - 2880 + k)) n ≡ answers_from r first n
  blend_tab q uses below =
      tab_same _ _ _
      (λ k h.
      let gone : first - 2880 + k ≡ first + k - 2880 = omega arith in
      rw (line_voltage_lem r first q k, lut_voltage k (omega arith), gone)
      (sym (answer_blend r (first + k) uses (omega arith) (omega arith))))

-- where a count is past the line, its segment goes up to the next point
pub in_step : (r : LineRecord) (first n : ℕ) → beyond_line r first ≡ true → first ≤ 4095 → n ≤ segment_left r first
    → (uses_lookup r ≡ true) × InStep first n
in_step r first n past upto left =
    let p = beyond_line_lem r first past in
    let s = segment_step r first p.0 p.1 in
    (p.0, record { from = p.1; upto = upto; room = omega arith })

-- where a count isn't past the line, none of its segment is
module _ (r : LineRecord) (first n : ℕ) (none : beyond_line r first ≡ false) (left : n ≤ segment_left r first) where
  line_segment : (k : ℕ) → k < n → beyond_line r (first + k) ≡ false
  line_segment k h =
      whether (uses_lookup r)
      (λ e.
      either 2880 first
      (λ l. absurd (true≢false (sym (beyond_yes r first e l) ∙ none)))
      (λ l. let s = segment_line r first e l in beyond_below r (first + k) (omega arith)))
      (λ e. beyond_plain r (first + k) e)

  pub line_answers : tab (λ k. line_voltage r (first + k)) n ≡ answers_from r first n
  line_answers = tab_same _ _ _ (λ k h. sym (answer_line r (first + k) (line_segment k h)))

-- Laws of the calls for a reading: which case a refusal is, what is known where none is given, and that for a caller that has checked its
-- dump and its list there is only 5. Assumes nothing.
use mathlib.Core.Path.{◌≡◌, sym, ◌∙◌, ap}
use mathlib.Core.Bool.{false, not}
use mathlib.Core.List.{List}
use Prim.Native.Nat.{ℕ, ◌≤◌, ◌<◌}
use native.Mathlib.Omega.{arith}
use lib.IntN.{ℤ}
use lib.ListN.{length}
use lib.Dec.{ltb, eqb}
use borrow.Author.Tests.{eq-eqb, ne_eqb, eqb-true, not-false, lt-ltb, le-ltb, ltb-false}
use Rattle.std.specs.Prelude.{Ok, Err}
use Rattle.terms.specs.declared.refusal.Refusal.{Refusal}
use Rattle.terms.specs.Refusal.{plain, outcome_of, unit_refusal}
use Rattle.terms.proofs.Refusals.{refuse_none, or_else_none, or_else_given, went_well, was_refused, handed_on, first_refused, unit_inside}
use Rattle.dumps.specs.Dump.{dump_refusal}
use Rattle.dumps.specs.Lengths.{words_of}
use Rattle.dumps.proofs.Dumps.{dump_whole}
use Rattle.dumps.proofs.Lists.{lengths_good}
use Rattle.s2_readings.specs.declared.tag.RtcCalibParam.{RtcCalibParam}
use Rattle.s2_readings.specs.Chain.{chain_refusal}
use Rattle.s2_readings.specs.Private.{Ready}
use Rattle.s2_readings.specs.Reading.{reading_of, chosen_refusal, reading_refusal, calib_reading_of, table_refusal, table_reading_of}
use Rattle.s2_readings.specs.Tag.{tag_of}

-- a dump and a list that aren't refused
pub dump_ready : (lengths dump : List ℕ) → dump_refusal lengths dump ≡ 0 → Ready lengths dump
dump_ready lengths dump e =
    let p = dump_whole lengths dump e in
    record { whole = p.0; room = (lengths_good lengths p.1).1 2 (omega arith) }

-- which case 7 and 5 are
module _ (lengths : List ℕ) (version unit atten : ℕ) (param : RtcCalibParam) where
  pub chosen_unit : {n : ℕ} → n ≡ unit_refusal unit atten → (n ≡ 0 → ⊥) → n ≡ chosen_refusal lengths version unit atten param
  unfolding chosen_refusal
  chosen_unit e h = sym (or_else_given _ _ (sym e) h)

  pub chosen_chain : unit_refusal unit atten ≡ 0
      → chosen_refusal lengths version unit atten param ≡ chain_refusal lengths (tag_of version unit atten param)
  unfolding chosen_refusal
  chosen_chain e = simp e

module _ (lengths dump : List ℕ) (version unit atten : ℕ) (param : RtcCalibParam) where
  abbrev tag : ℕ
  tag = tag_of version unit atten param

  abbrev chosen : ℕ
  chosen = chosen_refusal lengths version unit atten param

  abbrev table : ℕ
  table = table_refusal lengths dump version unit atten param

  -- which case those before them are
  pub table_short : (length dump ≡ 88 → ⊥) → 1 ≡ table
  unfolding table_refusal
  table_short h = simp (ne_eqb _ _ h)

  pub table_long : length dump ≡ 88 → 8 < words_of lengths 2 → 20 ≡ table
  unfolding table_refusal
  table_long d h = simp (eq-eqb _ _ d, lt-ltb _ _ h)

  pub table_chosen : Ready lengths dump → table ≡ chosen
  unfolding table_refusal
  table_chosen r = simp (eq-eqb _ _ r.whole, le-ltb _ _ r.room)

  -- where nothing is refused
  pub table_good : table ≡ 0 → Ready lengths dump × (unit ≤ 1) × (atten ≤ 3) × (chain_refusal lengths tag ≡ 0)
  unfolding table_refusal chosen_refusal
  table_good e =
      let p = refuse_none (not (eqb (length dump) 88)) 0 _ e in
      let q = refuse_none (ltb 8 (words_of lengths 2)) 19 _ p.1 in
      let s = or_else_none (unit_refusal unit atten) _ q.1 in
      let u = unit_inside unit atten s.0 in
      (record { whole = eqb-true _ _ (not-false _ p.0); room = ltb-false _ _ q.0 }, u.0, u.1, s.1)

  -- the dump's and the list's numbers come first; past them both calls give the same
  pub reading_dump : {why : Refusal} → Err why ≡ outcome_of (dump_refusal lengths dump)
      → Err why ≡ calib_reading_of lengths dump version unit atten param
  unfolding calib_reading_of reading_refusal
  reading_dump e = handed_on _ _ (first_refused _ _ e)

  pub reading_table : dump_refusal lengths dump ≡ 0
      → table_reading_of lengths dump version unit atten param ≡ calib_reading_of lengths dump version unit atten param
  unfolding table_reading_of calib_reading_of reading_refusal
  reading_table e = rw (e, table_chosen (dump_ready lengths dump e))

  -- for a caller that has checked its input: the answer is the reading, or 5
  module _ (ready : Ready lengths dump) (u : unit_refusal unit atten ≡ 0) where
    table_chain : table ≡ chain_refusal lengths tag
    table_chain = table_chosen ready ∙ chosen_chain lengths version unit atten param u

    pub table_value : {v : ℤ} → Ok v ≡ table_reading_of lengths dump version unit atten param
        → (chain_refusal lengths tag ≡ 0) × (v ≡ reading_of dump false tag)
    unfolding table_reading_of
    table_value e = let p = went_well (plain table) _ e in (sym table_chain ∙ p.0, p.1)

    pub table_refused : {r : Refusal} → Err r ≡ table_reading_of lengths dump version unit atten param
        → (chain_refusal lengths tag ≡ 0 → ⊥) × (r ≡ plain (chain_refusal lengths tag))
    unfolding table_reading_of
    table_refused e = let p = was_refused (plain table) _ e in (λ z. p.0 (table_chain ∙ z), p.1 ∙ ap plain table_chain)

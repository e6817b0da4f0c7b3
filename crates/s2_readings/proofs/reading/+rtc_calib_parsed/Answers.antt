-- `s2_readings::rtc_calib_parsed` meets its contract, by the tag's rank, which falls at each call of itself: its sum is document 01's,
-- and fits.
use mathlib.Core.Path.{◌≡◌, sym, ◌∙◌, ap}
use Prim.Native.Nat.{ℕ}
use native.Mathlib.Omega.{arith}
use mathlib.Core.List.{List}
use mathlib.Core.Bool.{Bool}
use lib.IntN.{ℤ, ◌+ℤ◌}
use mir.Syntax.{w16, w32}
use mir.Val.{SFits, to_z, of_z}
use mir.ValLaws.{to_z-of_z}
use borrow.Author.Rules.{sfits_of}
use Rattle.terms.proofs.Machine.{op_fits, op_back, wider_back}
use Rattle.s2_readings.specs.declared.table.RtcCalibEntry.{RtcCalibEntry}
use Rattle.s2_readings.specs.Table.{base, depends, entry_at}
use Rattle.s2_readings.specs.Reading.{term_of, reading_of}
use Rattle.s2_readings.proofs.Rule.{Rule, rule_of}
use Rattle.s2_readings.proofs.Links.{first_readable, rest_readable}
use Rattle.s2_readings.proofs.Chains.{reading_none, reading_step}
use Rattle.s2_readings.proofs.Fits.{base_fits, sum_fits, step_fits}
use Rattle.s2_readings.proofs.reading.+rtc_calib_parsed.Goals as goal

-- the base of the tag's entry, as the machine widens it
plus : {tag : ℕ} {e : RtcCalibEntry} → Rule tag → e ≡ entry_at tag → to_z w32 (of_z w32 (to_z w16 (of_z w16 e.base))) ≡ base (entry_at tag)
plus rule is = wider_back _ (rw is (base_fits _ rule)) ∙ ap base is

-- the tag's own two terms, as the machine adds them
own : {tag : ℕ} {e : RtcCalibEntry} (dump : List ℕ) (skip : Bool) (raw : ℤ) → Rule tag → e ≡ entry_at tag → SFits w32 raw
    → raw ≡ term_of dump skip (entry_at tag)
    → to_z w32 (of_z w32 (to_z w32 (of_z w32 raw) +ℤ to_z w32 (of_z w32 (to_z w16 (of_z w16 e.base)))))
    ≡ term_of dump skip (entry_at tag) +ℤ base (entry_at tag)
own dump skip raw rule is fits term =
    op_back w32 ◌+ℤ◌ (to_z-of_z w32 _ fits ∙ term) (plus rule is) (sum_fits _ rule _ _)

pub returns-then-tag-eq0 : goal.returns-then-tag-eq0
returns-then-tag-eq0 t c = rw c.if-tag-eq0.true (sym (reading_none _ _))

pub raw-requires : goal.raw-requires
raw-requires t c = (λ e. first_readable _ _ _ (c.requires.0 e), omega (arith, c.if-tag-eq0.false), c.requires.1)

pub overflow_add-result : goal.overflow_add-result
overflow_add-result t c =
    let rule = rule_of _ c.if-tag-eq0.false c.requires.1 in
    op_fits w32 ◌+ℤ◌ (to_z-of_z w32 _ (sfits_of c.raw.type_inv) ∙ c.raw.ensures) (plus rule c.entry_at-entry.ensures) (sum_fits _ rule _ _)

pub rtc_calib_parsed-requires : goal.rtc_calib_parsed-requires
rtc_calib_parsed-requires t c =
    let rule = rule_of _ c.if-tag-eq0.false c.requires.1 in
    rw c.entry_at-entry.ensures (rw c.decreases at rule.falls, (λ e. rest_readable _ _ _ (c.requires.0 e), rule.next))

pub overflow_add-result-2 : goal.overflow_add-result-2
overflow_add-result-2 t c =
    let rule = rule_of _ c.if-tag-eq0.false c.requires.1 in
    op_fits w32 ◌+ℤ◌
    (own _ _ _ rule c.entry_at-entry.ensures (sfits_of c.raw.type_inv) c.raw.ensures)
    (to_z-of_z w32 _ (sfits_of c.rtc_calib_parsed.type_inv) ∙ c.rtc_calib_parsed.ensures ∙ ap (reading_of _ _) (ap depends c.entry_at-entry.ensures))
    (step_fits _ _ _ c.requires.1 c.if-tag-eq0.false)

pub returns : goal.returns
returns t c =
    let rule = rule_of _ c.if-tag-eq0.false c.requires.1 in
    op_back w32 ◌+ℤ◌
    (own _ _ _ rule c.entry_at-entry.ensures (sfits_of c.raw.type_inv) c.raw.ensures)
    (to_z-of_z w32 _ (sfits_of c.rtc_calib_parsed.type_inv) ∙ c.rtc_calib_parsed.ensures ∙ ap (reading_of _ _) (ap depends c.entry_at-entry.ensures))
    (step_fits _ _ _ c.requires.1 c.if-tag-eq0.false)
    ∙ sym (reading_step _ _ _ c.if-tag-eq0.false c.requires.1)

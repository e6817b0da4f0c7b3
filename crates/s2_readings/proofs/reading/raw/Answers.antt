-- `s2_readings::raw` meets its contract: by the table's rule the tag's field may be read, and the product fits.
use mathlib.Core.Path.{◌≡◌, ◌∙◌, ap}
use mathlib.Core.List.{List}
use Prim.Native.Nat.{ℕ, ◌^◌, ◌<◌, ◌≤◌}
use native.Mathlib.Omega.{arith}
use lib.IntN.{ℤ, ◌*ℤ◌}
use lib.Pow.{pow_mono}
use mir.Syntax.{w16, w32}
use mir.Val.{SFits, to_z, of_z}
use mir.ValLaws.{to_z-of_z}
use borrow.Author.Rules.{sfits_of}
use Rattle.terms.specs.Sign.{sign_magnitude}
use Rattle.terms.proofs.Machine.{op_fits, op_back, wider_fits, wider_back}
use Rattle.efuse.specs.Field.{bits_of, value_at}
use Rattle.efuse.proofs.Bits.{bits_lt}
use Rattle.s2_readings.specs.declared.table.RtcCalibEntry.{RtcCalibEntry}
use Rattle.s2_readings.specs.Chain.{field_of}
use Rattle.s2_readings.specs.Table.{begin_bit, bit_length, multiplier, entry_at}
use Rattle.s2_readings.specs.Reading.{term_of}
use Rattle.s2_readings.proofs.Rule.{Rule, rule_of}
use Rattle.s2_readings.proofs.Links.{field_read}
use Rattle.s2_readings.proofs.Fits.{multiplier_fits, product_fits}
use Rattle.s2_readings.proofs.reading.raw.Goals as goal
use Rattle.s2_readings.proofs.reading.raw.Goals.{After-sign_magnitude, After-value_at-code}

-- a field's bits, and its code in sign and magnitude
abbrev field_bits : List ℕ → RtcCalibEntry → ℕ
field_bits dump e = bits_of dump 2 (begin_bit e) (bit_length e)

abbrev code_of : List ℕ → RtcCalibEntry → ℤ
code_of dump e = sign_magnitude (bit_length e) (field_bits dump e)

rule : (tag : ℕ) → 1 ≤ tag → tag < 33 → Rule tag
rule tag some h = rule_of tag (λ e. omega arith) h

-- the field's bits, all of them
bits_read : (c : After-value_at-code) → c.value_at-code.result ≡ field_bits c.args.dump.now (entry_at c.args.tag)
bits_read c =
    c.value_at-code.ensures
    ∙ ap (value_at _ _) (c.field_of.ensures ∙ ap field_of c.entry_at-entry.ensures)
    ∙ field_read _ _ _ (rule _ c.requires.1 c.requires.2) (c.requires.0 c.if-skip_efuse.false)

small : (c : After-sign_magnitude) → SFits w16 c.entry_at-entry.result.multiplier
small c = rw c.entry_at-entry.ensures (multiplier_fits _ (rule _ c.requires.1 c.requires.2))

factor : (c : After-sign_magnitude)
    → to_z w32 (of_z w32 (to_z w16 (of_z w16 c.entry_at-entry.result.multiplier))) ≡ multiplier (entry_at c.args.tag)
factor c =
    wider_back _ (small c) ∙ ap multiplier c.entry_at-entry.ensures

code : (c : After-value_at-code) {z : ℤ} → ◌≡◌ {A = ℤ} z (sign_magnitude c.entry_at-entry.result.len c.value_at-code.result) → z ≡ code_of c.args.dump.now (entry_at c.args.tag)
code c e = e ∙ rw (bits_read c, c.entry_at-entry.ensures)

pub returns-then-skip_efuse : goal.returns-then-skip_efuse
unfolding term_of
returns-then-skip_efuse c = rw c.if-skip_efuse.true

pub overflow_cast-code : goal.overflow_cast-code
overflow_cast-code c =
    let few : 2 ^ bit_length (entry_at c.args.tag) ≤ 2 ^ 10 = pow_mono (rule _ c.requires.1 c.requires.2).few in
    record { fits = omega (arith, bits_read c, bits_lt c.args.dump.now 2 (begin_bit (entry_at c.args.tag)) (bit_length (entry_at c.args.tag))) }

pub overflow_cast-result : goal.overflow_cast-result
overflow_cast-result c = wider_fits _ (small (goal.at.overflow_cast-result c).After-sign_magnitude)

pub overflow_mul-result : goal.overflow_mul-result
overflow_mul-result c =
    op_fits w32 ◌*ℤ◌
    (to_z-of_z w32 _ (sfits_of c.sign_magnitude.type_inv) ∙ code (goal.at.overflow_mul-result c).After-value_at-code c.sign_magnitude.ensures)
    (factor (goal.at.overflow_mul-result c).After-sign_magnitude)
    (product_fits _ (rule _ c.requires.1 c.requires.2) _)

pub returns : goal.returns
unfolding term_of
returns c =
    rw c.if-skip_efuse.false
    (op_back w32 ◌*ℤ◌
    (to_z-of_z w32 _ (sfits_of c.sign_magnitude.type_inv) ∙ code (goal.at.returns c).After-value_at-code c.sign_magnitude.ensures)
    (factor (goal.at.returns c).After-sign_magnitude)
    (product_fits _ (rule _ c.requires.1 c.requires.2) _))

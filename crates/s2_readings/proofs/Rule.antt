-- The table's rule, by one computed test: every field lies inside block 2, every chain ends within four links, and by the bases and
-- widths along a chain its reading is between 577 and 7986. Assumes nothing.
use mathlib.Core.Path.{◌≡◌, refl}
use Prim.Native.Nat.{ℕ, zero, suc, ◌+◌, ◌*◌, ◌-◌, ◌^◌, ◌≤◌, ◌<◌}
use native.Mathlib.Omega.{arith}
use lib.Dec.{T}
use lib.IntN.{pos, nat_abs}
use lib.Signed.{non_neg, pos-nat_abs}
use Rattle.terms.proofs.Check.{Check, at_most, by, also, all, rule}
use Rattle.terms.proofs.Whole.{up, dn}
use Rattle.s2_readings.specs.declared.table.RtcCalibEntry.{RtcCalibEntry}
use Rattle.s2_readings.specs.Table.{begin_bit, bit_length, multiplier, base, depends, calib_map, entry_at, along, rank_of}

-- how far a field term can be from 0
abbrev pub span_of : RtcCalibEntry → ℕ
span_of e = (2 ^ (bit_length e - 1) - 1) * nat_abs (multiplier e)

abbrev pub up_base : RtcCalibEntry → ℕ
up_base e = up (base e)

abbrev pub dn_base : RtcCalibEntry → ℕ
dn_base e = dn (base e)

-- by the bases along a chain, less its widths and with them, its reading is from low to high
pub record Spread (low high tag : ℕ) : Type 0 where
  pub least : along span_of 4 tag + along dn_base 4 tag + low ≤ along up_base 4 tag
  pub most : along span_of 4 tag + along up_base 4 tag ≤ high + along dn_base 4 tag

abbrev pub spread : (low high tag : ℕ) → Check (Spread low high tag)
spread low high tag =
    by (λ p. record { least = p.0; most = p.1 })
    (also (at_most (along span_of 4 tag + along dn_base 4 tag + low) (along up_base 4 tag))
    (at_most (along span_of 4 tag + along up_base 4 tag) (high + along dn_base 4 tag)))

pub record Rule (tag : ℕ) : Type 0 where
  pub some : 1 ≤ bit_length (entry_at tag)
  pub few : bit_length (entry_at tag) ≤ 10
  pub end : begin_bit (entry_at tag) + bit_length (entry_at tag) ≤ 256
  pub factor : pos (nat_abs (multiplier (entry_at tag))) ≡ multiplier (entry_at tag)
  pub small : nat_abs (multiplier (entry_at tag)) ≤ 4
  pub base_up : up_base (entry_at tag) ≤ 8191
  pub base_dn : dn_base (entry_at tag) ≤ 8191
  pub next : depends (entry_at tag) < 33
  pub falls : rank_of (depends (entry_at tag)) < rank_of tag
  pub four : rank_of tag ≤ 4
  pub between : Spread 577 7986 tag

whole : (e : RtcCalibEntry) → Check (pos (nat_abs (multiplier e)) ≡ multiplier e)
whole e = record { passes = non_neg (multiplier e); shows = pos-nat_abs (multiplier e) }

check : (tag : ℕ) → Check (Rule tag)
check tag =
    let e : RtcCalibEntry = entry_at tag in
    by
    (λ p.
    (let q = p.1.1.1.1.1.1 in
    record {
      some = p.0;
      few = p.1.0;
      end = p.1.1.0;
      factor = p.1.1.1.0;
      small = p.1.1.1.1.0;
      base_up = p.1.1.1.1.1.0;
      base_dn = q.0;
      next = q.1.0;
      falls = q.1.1.0;
      four = q.1.1.1.0;
      between = q.1.1.1.1;
    }))
    (also (at_most 1 (bit_length e))
    (also (at_most (bit_length e) 10)
    (also (at_most (begin_bit e + bit_length e) 256)
    (also (whole e)
    (also (at_most (nat_abs (multiplier e)) 4)
    (also (at_most (up_base e) 8191)
    (also (at_most (dn_base e) 8191)
    (also (at_most (suc (depends e)) 33)
    (also (at_most (suc (rank_of (depends e))) (rank_of tag))
    (also (at_most (rank_of tag) 4)
    (spread 577 7986 tag)))))))))))

passed : T (all (λ k. (check (suc k)).passes) 32)
unfolding check whole entry_at calib_map rank_of along
passed = tt

-- the rule of each tag from 1 to 32
pub rule_of : (tag : ℕ) → (tag ≡ 0 → ⊥) → tag < 33 → Rule tag
rule_of zero some h = absurd (some refl)
rule_of (suc k) some h = rule (λ k. check (suc k)) 32 passed k (omega arith)

-- The range of every code that isn't refused: an initial code is from 1265 to 2127, and a reference code from 4321 to 7986. Assumes nothing.
use mathlib.Core.Path.{◌≡◌, refl, sym}
use mathlib.Core.Bool.{false}
use mathlib.Core.List.{List}
use Prim.Native.Nat.{ℕ, ◌+◌, ◌*◌, ◌≤◌, ◌<◌}
use native.Mathlib.Omega.{arith}
use lib.IntN.{pos}
use Rattle.terms.specs.Refusal.{value_of}
use Rattle.terms.proofs.Check.{rule}
use Rattle.s2_readings.specs.declared.tag.RtcCalibParam.{RtcCalibParam}
use Rattle.s2_readings.specs.declared.tag.RtcCalibParam.TheVariants.{Vhigh, Vinit}
use Rattle.s2_readings.specs.Table.{calib_map, entry_at, along}
use Rattle.s2_readings.specs.Reading.{reading_of}
use Rattle.s2_readings.specs.Tag.{by_version, first_tag, tag_of}
use Rattle.s2_readings.proofs.Rule.{Spread, spread}
use Rattle.s2_readings.proofs.Ranges.{Between, by_spread}
use Rattle.s2_readings.proofs.Tags.{tag_is}
use Rattle.s2_codes.specs.Code.{code_told, code_of, init_code_of, cal_code_of}
use Rattle.s2_codes.proofs.Codes.{code_good, code_accepted}

-- the codes: both parameters pair with version 2, and each has eight tags, which one computed test goes through
pub init_pairs : first_tag 2 Vinit ≡ 25
unfolding by_version
init_pairs = refl

pub high_pairs : first_tag 2 Vhigh ≡ 17
unfolding by_version
high_pairs = refl

init_spread : (k : ℕ) → k < 8 → Spread 1265 2127 (25 + k)
unfolding calib_map entry_at along
init_spread = rule (λ k. spread 1265 2127 (25 + k)) 8 tt

high_spread : (k : ℕ) → k < 8 → Spread 4321 7986 (17 + k)
unfolding calib_map entry_at along
high_spread = rule (λ k. spread 4321 7986 (17 + k)) 8 tt

module _ (lengths dump map : List ℕ) (unit atten : ℕ) where
  -- a parameter of version 2 whose eight tags are from a first one on, and whose code isn't refused
  module _ (param : RtcCalibParam) (first : ℕ) (pairs : first_tag 2 param ≡ first) (some : 0 < first) {low high : ℕ}
      (eight-tags : (k : ℕ) → k < 8 → Spread low high (first + k)) (good : (code_told lengths dump map unit atten param).number ≡ 0) where
    inside : (unit ≤ 1) × (atten ≤ 3)
    inside = (code_good lengths dump map unit atten (code_accepted lengths dump map unit atten param good).0).1

    code_between : Between low high (reading_of dump false (tag_of 2 unit atten param))
    code_between =
        by_spread dump false 2 unit atten param inside.0 inside.1 (λ e. omega (arith, pairs))
        (rw (tag_is 2 unit atten param pairs some) (eight-tags (unit * 4 + atten) (omega (arith, inside))))

    -- the code is the reading itself, and in its range
    code_answer : let v = value_of 0 (code_of lengths dump map unit atten param) in
        (pos v ≡ reading_of dump false (tag_of 2 unit atten param)) × ((low ≤ v) × (v ≤ high))
    unfolding code_of
    code_answer = rw good (sym code_between.whole, (code_between.least, code_between.most))

  pub init_code_range : (code_told lengths dump map unit atten Vinit).number ≡ 0
      → let v = value_of 0 (init_code_of lengths dump map unit atten) in
      (pos v ≡ reading_of dump false (tag_of 2 unit atten Vinit)) × ((1265 ≤ v) × (v ≤ 2127))
  init_code_range = code_answer Vinit 25 init_pairs (omega arith) init_spread

  pub cal_code_range : (code_told lengths dump map unit atten Vhigh).number ≡ 0
      → let v = value_of 0 (cal_code_of lengths dump map unit atten) in
      (pos v ≡ reading_of dump false (tag_of 2 unit atten Vhigh)) × ((4321 ≤ v) × (v ≤ 7986))
  cal_code_range = code_answer Vhigh 17 high_pairs (omega arith) high_spread

-- Laws of a record's lookup: where it has a count, and that there its slope goes on to the next point. Assumes nothing.
use mathlib.Core.Path.{◌≡◌}
use mathlib.Core.Bool.{true, false, ◌&&◌}
use Prim.Native.Nat.{ℕ, ◌+◌, ◌*◌, ◌-◌, ◌/◌, ◌%◌, ◌≤◌}
use native.Mathlib.Omega.{arith}
use lib.Dec.{leb}
use borrow.Author.Tests.{leb-true, le-leb}
use Rattle.terms.proofs.Refusals.{and_true}
use Rattle.lut.specs.Point.{point_at}
use Rattle.lut.specs.declared.row.Row.{Row}
use Rattle.lut.specs.Row.{row_of}
use Rattle.lut.proofs.Points.{Made, point_made, point_most}
use Rattle.lut.proofs.Sums.{around, around_sum, around_rise, mean, mean_most}
use Rattle.line_record.specs.declared.record.LineRecord.{LineRecord}
use Rattle.line_record.specs.Record.{converter_in_ranges}
use Rattle.line.specs.Lookup.{has_lookup, lookup_sum, slope_from, lut_slope}
use Rattle.line_record.proofs.Records.{converter_holds}

-- points are small, and so is a sum between them
pub sum_room : (here there raw : ℕ) → here ≤ 642545 → there ≤ 642545 → here * (64 - raw % 64) + there * (raw % 64) ≤ 642545 * 64
sum_room here there raw h t = mean_most here there 642545 (raw % 64) h t (omega arith)

module _ (r : LineRecord) (raw : ℕ) where
  -- where it has a count
  pub has_count : converter_in_ranges r ≡ true → 2880 ≤ raw → raw ≤ 4095 → has_lookup r raw ≡ true
  unfolding has_lookup
  has_count ranges l h = simp (ranges, le-leb _ _ l, le-leb _ _ h)

  pub has_lookup_lem : has_lookup r raw ≡ true → (converter_in_ranges r ≡ true) × (2880 ≤ raw) × (raw ≤ 4095)
  unfolding has_lookup
  has_lookup_lem e =
      let p = and_true (converter_in_ranges r && leb 2880 raw) (leb raw 4095) e in
      let q = and_true (converter_in_ranges r) (leb 2880 raw) p.0 in
      (q.0, leb-true _ _ q.1, leb-true _ _ p.1)

  -- a point of it, by its row's two numbers
  pub point_row : has_lookup r raw ≡ true → {next : ℕ} → next ≤ 1 → {row : Row} → row ≡ row_of (20 * r.unit + ((raw - 2880) / 64 + next))
      → Made r.unit r.vref ((raw - 2880) / 64 + next) row.0 row.1
  point_row e h is =
      let p = has_lookup_lem e in
      let ranges = converter_holds r p.0 in
      point_made _ _ _ ranges.2 (omega arith) ranges.1 is

  -- the points around it: by them it has its sum, and the next count what that adds
  pub record Lies (here there : ℕ) : Type 0 where
    pub order : here ≤ there
    pub small : there ≤ 642545
    pub sum : mean here there (raw % 64) + 6400 ≡ lookup_sum r raw
    pub rise : there - here ≡ lookup_sum r (raw + 1) - lookup_sum r raw

  pub points : has_lookup r raw ≡ true → {here there : ℕ}
      → here ≡ point_at r.unit r.vref ((raw - 2880) / 64 + 0) → there ≡ point_at r.unit r.vref ((raw - 2880) / 64 + 1)
      → Lies here there
  points e h t =
      let p = has_lookup_lem e in
      let ranges = converter_holds r p.0 in
      let a = around r.unit r.vref raw p.1 ranges.0 ranges.1 (omega arith) h t in
      record {
        order = a.order;
        small = a.small;
        sum = around_sum r.unit r.vref raw p.1 a;
        rise = around_rise r.unit r.vref raw p.1 a;
      }

  pub points_rise : has_lookup r raw ≡ true → {here there : ℕ}
      → here ≡ point_at r.unit r.vref ((raw - 2880) / 64 + 0) → there ≡ point_at r.unit r.vref ((raw - 2880) / 64 + 1)
      → here ≤ there
  points_rise e h t = (points e h t).order

  pub point_small : has_lookup r raw ≡ true → {next p : ℕ} → next ≤ 1 → p ≡ point_at r.unit r.vref ((raw - 2880) / 64 + next) → p ≤ 642545
  point_small e h is =
      let p = has_lookup_lem e in
      rw is (point_most _ _ _ (omega arith) (converter_holds r p.0).1)

  -- the slope's two cases
  pub slope_some : has_lookup r raw ≡ true → slope_from r raw ≡ lut_slope r raw
  unfolding lut_slope
  slope_some e = rw e

  pub slope_none : has_lookup r raw ≡ false → record { sum = 0; rise = 0 } ≡ lut_slope r raw
  unfolding lut_slope
  slope_none e = rw e

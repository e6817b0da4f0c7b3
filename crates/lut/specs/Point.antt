-- The lookup's points without signs: what private functions that use the tables promise. No public promise cites it.
use Rattle.std.specs.Prelude.{ℕ, ◌+◌, ◌*◌, ◌-◌}
use Rattle.lut.specs.Row.{low_at, high_at}

-- 200 times the millivolts at point k of a unit's tables: low × (1200 − vref) + high × (vref − 1000)
unfoldable pub point_at : ℕ → ℕ → ℕ → ℕ
point_at unit vref k = 1200 * low_at unit k - 1000 * high_at unit k + vref * (high_at unit k - low_at unit k)

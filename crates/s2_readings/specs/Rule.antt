-- Document 01, "S2, C6 and curves": "The table's rule (each chain ends within four links, each field is inside block 2) is proved once".
use Rattle.std.specs.Prelude.{◌≡◌, ℕ, zero, suc, ◌+◌, ◌≤◌}
use Rattle.s2_readings.specs.Table.{begin_bit, bit_length, depends, entry_at}

-- the tag that a chain has come to after n links; tag 0 depends on itself
unfoldable pub after_links : ℕ → ℕ → ℕ
after_links zero tag = tag
after_links (suc n) tag = after_links n (depends (entry_at tag))

pub record TableRule (tag : ℕ) : Type 0 where
  -- "each chain ends within four links", "down to tag 0"
  pub ends : after_links 4 tag ≡ 0
  -- "each field is inside block 2", which has 256 bits
  pub inside : begin_bit (entry_at tag) + bit_length (entry_at tag) ≤ 256

-- Document 01, "Numbers given when a call is turned down": when 7 and 8 are given, and when a run of records gives a number.
use Rattle.std.specs.Prelude.{◌≡◌, ◌⊎◌, ℕ, ◌≤◌, ◌<◌}

-- 7: "unit above 1 or attenuation above 3"
pub data UnitWhen (unit atten : ℕ) : ℕ → Type 0 where
  bad_unit : (1 < unit) ⊎ (3 < atten) → UnitWhen unit atten 7
  good_unit : unit ≤ 1 → atten ≤ 3 → UnitWhen unit atten 0

-- 8: "raw above 4095"
pub data RawWhen (raw : ℕ) : ℕ → Type 0 where
  bad_raw : 4095 < raw → RawWhen raw 8
  good_raw : raw ≤ 4095 → RawWhen raw 0

-- "records first to last": record k is the first that has a fault, and its number is n; `When k` is when record k gives a number
pub record FirstFault (When : ℕ → ℕ → Type 0) (len n k : ℕ) : Type 0 where
  pub inside : k < len
  pub earlier : (j : ℕ) → j < k → When j 0
  pub here : When k n
  pub some : n ≡ 0 → ⊥

pub data FirstWhen (When : ℕ → ℕ → Type 0) (len : ℕ) : ℕ → Type 0 where
  fault : {n : ℕ} (k : ℕ) → FirstFault When len n k → FirstWhen When len n
  no_fault : ((k : ℕ) → k < len → When k 0) → FirstWhen When len 0

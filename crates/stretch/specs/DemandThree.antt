-- Demand 3, whole: what holds of every record that `check_record` accepts. Proved in proofs/DemandThree.
use Rattle.std.specs.Prelude.{◌≡◌, true, false, List, ℕ, ◌≤◌, min, max, length, get_or, Ok}
use Rattle.terms.specs.Refusal.{value_of}
use Rattle.line_record.specs.declared.record.LineRecord.{LineRecord}
use Rattle.line_record.specs.Record.{uses_lookup}
use Rattle.line.specs.Lookup.{lookup_voltage}
use Rattle.line.specs.Convert.{line_voltage, convert_of}
use Rattle.stretch.specs.Stretches.{Stretch, walked, covered}

-- what `convert` answers at a count, in millivolts
abbrev pub millivolts : LineRecord → ℕ → ℕ
millivolts cal raw = (value_of (record { 0 = 0 }) (convert_of cal raw)).0

pub record DemandThree (cal : LineRecord) : Type 0 where
  -- "the table has 4,096 numbers, all stretches have one record, and each is lent as the table's own part that starts at its first
  -- count"; "stretches may overlap or repeat". After all fills the table is as long as it was
  pub long : (ss : List Stretch) (table : List ℕ) → length table ≡ 4096 → length (walked cal ss table) ≡ 4096
  -- at each count that a stretch has, it holds what `convert` answers there, which isn't a refusal
  pub filled_in : (ss : List Stretch) (table : List ℕ) → length table ≡ 4096
      → (k : ℕ) → covered ss k ≡ true → convert_of cal k ≡ Ok (record { 0 = get_or (walked cal ss table) k 0 })
  -- and "nothing else" is written: any other number is the one that was there
  pub left_alone : (ss : List Stretch) (table : List ℕ) → length table ≡ 4096
      → (k : ℕ) → covered ss k ≡ false → get_or (walked cal ss table) k 0 ≡ get_or table k 0
  -- "Attenuation 3: line below 2880, blend 2880 to 2944, lookup above", which is by the lookup. There the lookup voltage never falls
  pub lookup_rises : uses_lookup cal ≡ true
      → (c d : ℕ) → 2880 ≤ c → c ≤ d → d ≤ 4095 → lookup_voltage cal c ≤ lookup_voltage cal d
  -- the blend lies between line and lookup
  pub blend_between : uses_lookup cal ≡ true
      → (c : ℕ) → 2880 ≤ c → c ≤ 2944
      → (min (line_voltage cal c) (lookup_voltage cal c) ≤ millivolts cal c)
      × (millivolts cal c ≤ max (line_voltage cal c) (lookup_voltage cal c))
  -- it starts at the line and ends at the lookup
  pub blend_starts : uses_lookup cal ≡ true → millivolts cal 2880 ≡ line_voltage cal 2880
  pub blend_ends : uses_lookup cal ≡ true → millivolts cal 2944 ≡ lookup_voltage cal 2944
  -- "Others: line": without the lookup the answer never falls
  pub plain_rises : uses_lookup cal ≡ false → (c d : ℕ) → c ≤ d → d ≤ 4095 → millivolts cal c ≤ millivolts cal d

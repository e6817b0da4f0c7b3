-- Document 01, "Numbers given when a call is turned down": when the C6's codes give each number. Channel compensation has inputs'
-- `DecodingWhen`.
-- A case says too that nothing before it is given; 0 is given where the call isn't turned down.
use Rattle.std.specs.Prelude.{◌≡◌, ◌⊎◌, List, ℕ}
use Rattle.terms.specs.declared.chip.MapChip.TheVariants.{C6}
use Rattle.inputs.specs.When.{DecodingWhen}
use Rattle.terms.specs.C6Version.{version_of}

-- 1, 20, 7 and those of the map, then 12
-- 12: "C6 version not 1 or 2"
pub data CodeWhen (lengths dump map : List ℕ) (minor unit atten : ℕ) : ℕ → Type 0 where
  before : {n : ℕ} → DecodingWhen lengths C6 dump map unit atten n → (n ≡ 0 → ⊥) → CodeWhen lengths dump map minor unit atten n
  bad_version : DecodingWhen lengths C6 dump map unit atten 0 → (version_of minor ≡ 1 → ⊥) → (version_of minor ≡ 2 → ⊥)
      → CodeWhen lengths dump map minor unit atten 12
  good_version : DecodingWhen lengths C6 dump map unit atten 0 → (version_of minor ≡ 1) ⊎ (version_of minor ≡ 2)
      → CodeWhen lengths dump map minor unit atten 0

-- The chips by their numbers, as C and the lists name them.
use Rattle.std.specs.Prelude.{List, [], ◌∷◌, ℕ, get_or}
use Rattle.terms.specs.declared.chip.Chip.{Chip}
use Rattle.terms.specs.declared.chip.Chip.TheVariants.{Esp32, S2, C3, C5, C6, C61, H2, P4, S3}

-- from 0 on, with the minor block version that a C6 brings
abbrev pub chips : ℕ → List Chip
chips minor = Esp32 ∷ S2 ∷ C3 ∷ C5 ∷ C6 minor ∷ C61 ∷ H2 ∷ P4 ∷ S3 ∷ []

-- a number that names no chip is taken for an ESP32, since "ESP32 and S2 have no curve"
abbrev pub numbered : ℕ → ℕ → Chip
numbered chip minor = get_or (chips minor) chip Esp32

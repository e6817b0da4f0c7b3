-- Words in definitions of text: a quoted text as the list of its bytes.
use Rattle.std.specs.Prelude.{List, [], ◌∷◌, ℕ}
use Prim.Native.Char.{code}
use Prim.Native.String.{String, [] as no_text, ◌∷◌ as ◌then◌}

-- all ASCII, so that each character is one byte
abbrev pub said : String → List ℕ
said no_text = []
said (c then s) = code c ∷ said s

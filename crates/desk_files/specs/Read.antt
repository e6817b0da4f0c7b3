-- What was read of the desk's files.
use Rattle.std.specs.Prelude.{Option, Some, None, List, [], ◌∷◌, ◌++◌, ℕ, take}
use Rattle.dumps.specs.Lengths.{eights}
use Rattle.desk_files.specs.declared.read.Dump.{Dump}
use Rattle.desk_files.specs.declared.read.Lengths.{Lengths}
use Rattle.desk_files.specs.declared.read.Map.{Map}

-- what stands in the room for a dump's words, in that for the map's bytes, and in that for the list
abbrev pub words_of : Dump → List ℕ
words_of dump = take dump.len dump.words

abbrev pub bytes_of : Map → List ℕ
bytes_of map = take map.len map.bytes

abbrev pub lengths_of : Lengths → List ℕ
lengths_of list = take list.len list.bytes

-- document 02, #109: the file's bytes, "a missing file meaning eleven eights", which stand in the room before a zero
abbrev pub list_of : List ℕ → Option ℕ → Lengths
list_of bytes (Some len) = record { bytes = bytes; len = len }
list_of bytes None = record { bytes = eights ++ (0 ∷ []); len = 11 }

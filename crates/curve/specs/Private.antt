-- How the code has a chip's table: only the contract of a private function cites it, so no public promise goes by it.
use Rattle.std.specs.Prelude.{Option, Some, None, ℕ}
use Rattle.std.proofs.Math.Option.{none}
use Rattle.std.proofs.Math.Option as maybe
use Rattle.curves.specs.Curves.{Table, numbered}

-- the table of a number, where there is one
abbrev pub found : Option ℕ → maybe.Option Table
found None = none
found (Some t) = numbered t

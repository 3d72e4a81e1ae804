use mathlib.Core.Path.{sym}
use mathlib.Core.List.{map}
use Prim.Native.Nat.{ℕ, ◌+◌, ◌*◌, ◌/◌, ◌%◌}
use lib.ListN.{get_or-map}
use Rattle.format.specs.declared.Field.{Field}
use Rattle.format.specs.Table.{rows}
use Rattle.format.proofs.get.Goals as goal

-- the four numbers of a field as groups of digits, as the code's table has them, and back
abbrev packed : Field → ℕ
packed f = f.at * 10000 + f.width * 100 + f.big * 10 + f.sources

abbrev unpacked : ℕ → Field
unpacked n = record { at = n / 10000; width = n / 100 % 100; big = n / 10 % 10; sources = n % 10 }

pub returns : goal.returns
returns c = sym (get_or-map unpacked (map packed rows) c.args.k 0)

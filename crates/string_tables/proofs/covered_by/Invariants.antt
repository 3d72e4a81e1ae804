-- What the kinds before k cover, in exact sums.
use Prim.Native.Nat.{◌≤◌, ◌*◌}
use mathlib.Core.Path.{◌≡◌}
use Rattle.image.specs.Kinds.{covered, identified}
use Rattle.format.specs.Table.{kind_entry}
use Rattle.format.specs.Number.{entry_in}
use Rattle.string_tables.proofs.covered_by.Given as goal

abbrev pub invariant-loop-k : goal.invariant-loop-k
invariant-loop-k l =
    (l.strings ≡ covered (entry_in l.at kind_entry l.image) l.k)
    × (l.identifiers ≡ identified (entry_in l.at kind_entry l.image) l.k)
    × (l.strings ≤ l.k * 2147483648) × (l.identifiers ≤ l.k * 2147483648)

-- The lines up to p are read; behind the last one its values are those of the file.
use mathlib.Core.Path.{◌≡◌}
use Prim.Native.Nat.{◌-◌}
use lib.ListN.{length}
use Rattle.po_pairs.specs.Held.{ReadTo}
use Rattle.po_pairs.proofs.read_values.Given as goal

abbrev pub invariant-loop-p : goal.invariant-loop-p
invariant-loop-p l =
    (length l.text ≡ length l.initial.text) × (length l.ends ≡ length l.initial.ends)
    × ReadTo l.file l.text l.ends l.p

abbrev pub decreases-loop-p : goal.decreases-loop-p
decreases-loop-p l = length l.file - l.p.at

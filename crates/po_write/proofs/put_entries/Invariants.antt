-- The file of the strings before j stands at the front.
use mathlib.Core.Path.{◌≡◌}
use lib.ListN.{length}
use lib.Seq.{sets}
use Rattle.po_write.specs.File.{file_to}
use Rattle.po_write.proofs.put_entries.Given as goal

abbrev pub invariant-loop-j : goal.invariant-loop-j
invariant-loop-j l =
    (length l.out ≡ length l.initial.out) × (l.to ≡ length (file_to l.p.layout l.image l.j))
    × (l.out ≡ sets l.initial.out 0 (file_to l.p.layout l.image l.j))

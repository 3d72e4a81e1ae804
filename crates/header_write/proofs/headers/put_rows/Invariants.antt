-- What is still to be written from row i on makes of the buffer what all rows make of the first one.
use Prim.Native.Nat.{◌+◌}
use mathlib.Core.Path.{◌≡◌}
use lib.ListN.{length, drop}
use Rattle.header_write.specs.Headers.{put_all, run}
use Rattle.header_write.proofs.headers.put_rows.Given as goal

abbrev pub invariant-loop-i : goal.invariant-loop-i
invariant-loop-i l =
    (length l.buf ≡ length l.initial.buf)
    × (put_all l.layout (run (l.first + l.i) (drop l.i l.values)) l.buf ≡ put_all l.layout (run l.first l.values) l.initial.buf)

-- What is counted, and the length of what is left, is the length of all.
use mathlib.Core.Path.{◌≡◌}
use mathlib.Core.Bool.{true}
use Prim.Native.Nat.{◌+◌, ◌*◌, ◌≤◌, ◌-◌}
use lib.ListN.{length}
use Rattle.utf.specs.Utf16.{is_utf16, utf8_of}
use Rattle.po_text.specs.Written.{escaped}
use Rattle.po_strings.specs.Texts.{units_in, units_left}
use Rattle.po_strings.proofs.written_length.Given as goal

abbrev pub invariant-loop-point : goal.invariant-loop-point
invariant-loop-point l =
    (l.i ≤ l.t.count) × (l.n ≤ 4 * l.i) × (is_utf16 (units_left l.image l.t l.i) ≡ true)
    × (l.n + length (escaped (utf8_of (units_left l.image l.t l.i))) ≡ length (escaped (utf8_of (units_in l.image l.t))))

abbrev pub decreases-loop-point : goal.decreases-loop-point
decreases-loop-point l = l.t.count - l.i

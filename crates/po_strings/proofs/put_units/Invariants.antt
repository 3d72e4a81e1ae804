-- What is left, stored behind what is there, gives all stored at the start.
use mathlib.Core.Path.{◌≡◌}
use mathlib.Core.Bool.{true}
use Prim.Native.Nat.{◌+◌, ◌≤◌, ◌-◌}
use lib.ListN.{length}
use lib.Seq.{sets}
use Rattle.utf.specs.Utf16.{is_utf16, utf8_of}
use Rattle.po_text.specs.Written.{escaped}
use Rattle.po_strings.specs.Texts.{units_in, units_left}
use Rattle.po_strings.proofs.put_units.Given as goal

abbrev pub invariant-loop-point : goal.invariant-loop-point
invariant-loop-point l =
    (l.i ≤ l.t.count) × (length l.out ≡ length l.initial.out) × (is_utf16 (units_left l.image l.t l.i) ≡ true)
    × (l.to + length (escaped (utf8_of (units_left l.image l.t l.i))) ≡ l.at + length (escaped (utf8_of (units_in l.image l.t))))
    × (sets l.out l.to (escaped (utf8_of (units_left l.image l.t l.i)))
    ≡ sets l.initial.out l.at (escaped (utf8_of (units_in l.image l.t))))

abbrev pub decreases-loop-point : goal.decreases-loop-point
decreases-loop-point l = l.t.count - l.i

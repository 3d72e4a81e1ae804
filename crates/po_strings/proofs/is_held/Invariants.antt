-- Each code point before i is good: what is left is as good as all.
use mathlib.Core.Path.{◌≡◌}
use Prim.Native.Nat.{◌≤◌, ◌-◌}
use Rattle.bits.specs.Choice.{both}
use Rattle.utf.specs.Utf16.{is_utf16}
use Rattle.po_text.specs.Written.{writable}
use Rattle.po_strings.specs.Texts.{is_held, units_in, units_left}
use Rattle.po_strings.proofs.is_held.Given as goal

abbrev pub invariant-loop-point : goal.invariant-loop-point
invariant-loop-point l =
    (l.i ≤ l.t.count) × (both (is_utf16 (units_left l.image l.t l.i)) (writable (units_left l.image l.t l.i))
    ≡ is_held (units_in l.image l.t))

abbrev pub decreases-loop-point : goal.decreases-loop-point
decreases-loop-point l = l.t.count - l.i

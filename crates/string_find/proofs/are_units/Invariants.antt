-- The units before j are those of the bytes before i: what is left to compare is the same as in the whole.
use mathlib.Core.Path.{◌≡◌}
use Prim.Native.Nat.{◌+◌}
use lib.ListN.{length, drop}
use Rattle.footer.specs.Footer.{same}
use Rattle.utf.specs.Utf8.{Small, units_from, utf16}
use Rattle.string_find.specs.Find.{units_at}
use Rattle.string_find.proofs.are_units.Given as goal

abbrev pub invariant-loop-byte : goal.invariant-loop-byte
invariant-loop-byte l =
    Small l.r × (l.j + length (units_from l.r (drop l.byte-index l.value)) ≡ length (utf16 l.value))
    × (same (units_at l.image l.start l.wide l.j (length (units_from l.r (drop l.byte-index l.value))))
    (units_from l.r (drop l.byte-index l.value))
    ≡ same (units_at l.image l.start l.wide 0 (length (utf16 l.value))) (utf16 l.value))

-- The strings before the cursor are summed.
use mathlib.Core.Path.{◌≡◌}
use Prim.Native.Nat.{◌≤◌, ◌*◌}
use Rattle.footer.specs.Finalize.{size_limit}
use Rattle.string_walk.specs.Places.{CursorOf}
use Rattle.string_steps.specs.Room.{old_bytes}
use Rattle.string_steps.proofs.old_bytes.Given as goal

abbrev pub invariant-loop-id : goal.invariant-loop-id
invariant-loop-id l =
    (l.c.id ≡ l._id) × CursorOf l.p l.image l.c × (l.sum ≡ old_bytes l.p.layout l.image l.c.id) × (l.sum ≤ l.c.id * size_limit)

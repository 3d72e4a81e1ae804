-- No string from `from` on before the one that is looked at has a mark.
use mathlib.Core.Path.{◌≡◌}
use Prim.Native.Nat.{ℕ, ◌≤◌, ◌<◌}
use lib.ListN.{get_or}
use Rattle.string_edits.proofs.next_marked.Given as goal

abbrev pub invariant-loop-id : goal.invariant-loop-id
invariant-loop-id l = (i : ℕ) → l.from ≤ i → i < l.id → get_or l.marks i 0 ≡ 0

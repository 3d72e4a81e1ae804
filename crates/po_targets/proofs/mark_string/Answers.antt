-- A string that no pair goes to leaves the words as they are; of any other both words are set.
use mathlib.Core.Path.{◌≡◌, refl}
use Prim.Native.Nat.{suc, ◌+◌, ◌-◌}
use native.Mathlib.Omega.{arith}
use Rattle.po_targets.proofs.MarkLaws.{looked_skip, looked_put}
use Rattle.po_targets.proofs.mark_string.Goals as goal

pub returns-in-Some : goal.returns-in-Some
returns-in-Some c =
    let q = c.requires in
    let e = c.in-Some.ensures in
    let j = c.in-Some.q in
    let z : suc j - 1 ≡ j = omega arith in
    let y : suc j + suc j ≡ j + j + 2 = omega arith in
    let p = looked_put _ _ _ _ _ _ _ _ q.looked (suc j) e.0 (omega arith) e.1 q.placed.2 in
    rw (z, y) at p

pub returns-in_default : goal.returns-in_default
returns-in_default c =
    let q = c.requires in
    looked_skip _ _ _ _ _ _ _ _ q.looked 0 c.in_default.ensures.0 refl

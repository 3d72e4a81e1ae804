use mathlib.Core.Path.{sym, ap, ◌∙◌}
use mathlib.Core.List.{List, ◌++◌}
use Prim.Native.Nat.{ℕ, ◌+◌}
use native.Mathlib.Omega.{arith}
use borrow.Rule.Slice.PartMut.{Post-is}
use lib.ListN.{length, take, drop}
use lib.Seq.{sets-eq}
use Rattle.std.proofs.Common.{append_assoc}
use Rattle.facts.proofs.put_numbers.Goals as goal

pub returns : goal.returns
returns c =
    let a = c.args in
    let end = a.at + length a.numbers.now in
    let front = take a.at a.out.now in
    rw c.copy_from_slice.ensures.after
    (ap (λ (r : List ℕ). front ++ (a.numbers.now ++ r)) (Post-is a.at end a.out.now (omega arith))
    ∙ sym (append_assoc front a.numbers.now (drop end a.out.now))
    ∙ sym (sets-eq a.numbers.now a.out.now a.at c.requires))

-- Three stores at the front are one write.
use mathlib.Core.Path.{refl}
use mathlib.Core.List.{[], ◌∷◌}
use native.Mathlib.Omega.{arith}
use lib.ListN.{length-set}
use Rattle.bits.proofs.OutcomeLaws.{told_short, told-fits}
use Rattle.hbc.proofs.put_words.Goals as goal

pub returns-then-out-lt-ENTRY : goal.returns-then-out-lt-ENTRY
returns-then-out-lt-ENTRY c = let a = c.args in told_short (a.first ∷ a.second ∷ a.third ∷ []) a.out.now c.if-out-lt-ENTRY.true

pub bounds-out-1 : goal.bounds-out-1
bounds-out-1 c = simp length-set (omega arith)

pub returns : goal.returns
returns c = let a = c.args in told-fits (a.first ∷ a.second ∷ a.third ∷ []) a.out.now _ c.if-out-lt-ENTRY.false refl

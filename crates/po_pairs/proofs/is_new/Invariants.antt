-- The walk down the chain of the bucket: no msgid behind the cursor is the same.
use mathlib.Core.Bool.{true}
use Rattle.chains.proofs.WalkLaws.{Walked}
use Rattle.po_pairs.specs.Held.{bucket_in}
use Rattle.po_pairs.proofs.PairLaws.{SameId}
use Rattle.po_pairs.proofs.is_new.Given as goal

abbrev pub invariant-loop-c : goal.invariant-loop-c
invariant-loop-c l =
    Walked (λ j. true) (bucket_in l.text l.ends l.m) (SameId l.text l.ends l.q) (bucket_in l.text l.ends l.m l.q) l.q l.c

abbrev pub decreases-loop-c : goal.decreases-loop-c
decreases-loop-c l = l.c

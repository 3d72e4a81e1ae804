-- No pair from the cursor on fits the string, and the cursor stands on a pair of the string's bucket.
use Rattle.image.specs.Strings.{string_of, units_of}
use Rattle.po_targets.specs.Marks.{id_in, str_in}
use Rattle.po_targets.proofs.PairLaws.{Down}
use Rattle.po_targets.proofs.find_pair.Given as goal

abbrev pub invariant-loop-c : goal.invariant-loop-c
invariant-loop-c l =
    Down (id_in l.text l.ends) (str_in l.text l.ends) (units_of (string_of l.p.layout l.image l.id)) l.m l.pairs l.c

abbrev pub decreases-loop-c : goal.decreases-loop-c
decreases-loop-c l = l.c

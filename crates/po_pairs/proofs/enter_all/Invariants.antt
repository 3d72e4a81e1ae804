-- The first q msgids are new, each among those before it, and in the chains.
use mathlib.Core.Path.{◌≡◌}
use mathlib.Core.Bool.{true}
use lib.ListN.{length}
use Rattle.po_pairs.specs.Pairs.{all_new}
use Rattle.po_pairs.specs.Held.{id_in, ChainedPairs}
use Rattle.po_pairs.proofs.enter_all.Given as goal

abbrev pub invariant-loop-q : goal.invariant-loop-q
invariant-loop-q l =
    (length l.work ≡ length l.initial.work) × (all_new (id_in l.text l.ends) l.q ≡ true)
    × ChainedPairs l.text l.ends l.m l.q l.work

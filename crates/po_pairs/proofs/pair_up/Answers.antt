-- The chains start empty, and every pair enters them unless its msgid is given twice.
use mathlib.Core.Bool.{true}
use native.Mathlib.Omega.{arith}
use lib.ListN.{length}
use Rattle.chains.proofs.ChainLaws.{chained_clear}
use Rattle.po_pairs.specs.Held.{bucket_in}
use Rattle.po_pairs.proofs.pair_up.Goals as goal

pub enter_all-requires-clause-chained_pairs : goal.enter_all-requires-clause-chained_pairs
enter_all-requires-clause-chained_pairs c =
    let a = c.args in
    chained_clear (λ j. true) (bucket_in a.text.now a.ends.now (length a.ends.now)) (length a.ends.now) a.work.now _
    (omega (arith, c.requires.ends_nonzero.1)) c.clear.ensures

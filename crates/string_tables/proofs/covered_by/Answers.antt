use native.Mathlib.Omega.{arith}
use Rattle.format.specs.Table.{kind_entry}
use Rattle.format.specs.Number.{entry_in}
use Rattle.string_tables.proofs.KindLaws.{none-covered, covered_next, identified_next}
use Rattle.string_tables.proofs.covered_by.Goals as goal

pub loop-k-init : goal.loop-k-init
loop-k-init c =
    let z = none-covered (entry_in c.args.at kind_entry c.args.image.now) in
    (z.0, z.1, omega arith, omega arith)

pub loop-k-preserved : goal.loop-k-preserved
loop-k-preserved c =
    let l = c.loop-k in
    let x = rw c.entry_at.ensures at c.word-word.ensures.0 in
    let w = entry_in c.args.at kind_entry c.args.image.now in (
      covered_next w l.k _ x _ _ l.invariant.0 c.value-strings.ensures.0,
      identified_next w l.k _ x _ _ l.invariant.1
          c.identifier_run-identifiers.ensures.0,
      omega arith,
      omega arith,
    )

use mathlib.Core.Path.{refl, sym, ◌∙◌}
use Rattle.po_pairs.proofs.TurnLaws.{read_none, cut_short, all_well, all_counted, all_held}
use Rattle.po_pairs.proofs.read_values.Goals as goal

pub loop-p-init : goal.loop-p-init
loop-p-init c = let a = c.args in (refl, refl, read_none a.file.now a.text.now a.ends.now)

pub returns-then-ends_well : goal.returns-then-ends_well
returns-then-ends_well c =
    let l = c.loop-p in
    let s = c.args.file.now in
    let e = sym c.ends_well.ensures ∙ c.if-ends_well.true in (
      all_well s l.text l.ends l.p l.invariant.2 c.loop-p-test.false e,
      all_counted s l.text l.ends l.p l.invariant.2 c.loop-p-test.false e,
      all_held s l.text l.ends l.p l.invariant.2 c.loop-p-test.false e,
    )

pub returns-else-ends_well : goal.returns-else-ends_well
returns-else-ends_well c =
    let l = c.loop-p in
    let s = c.args.file.now in
    cut_short s l.text l.ends l.p l.invariant.2 c.loop-p-test.false (sym c.ends_well.ensures ∙ c.if-ends_well.false)

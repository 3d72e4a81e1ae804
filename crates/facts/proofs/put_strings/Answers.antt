use mathlib.Core.Path.{refl, ◌∙◌, ap}
use native.Mathlib.Omega.{arith}
use lib.ListN.{length}
use lib.Seq.{length-sets}
use Rattle.facts.proofs.PassLaws.{facts_none, facts_next}
use Rattle.facts.proofs.put_strings.Goals as goal

pub loop-k-init : goal.loop-k-init
loop-k-init c =
    let a = c.args in
    (omega arith, c.requires.laid.1, refl, facts_none a.p.layout a.image.now a.from.id a.out.now)

pub loop-k-preserved : goal.loop-k-preserved
loop-k-preserved c =
    let l = c.loop-k in
    let e = c.put_string-c.ensures in
    let a = c.args in (
      omega (arith, e.cursor_of.1, l.invariant.0),
      e.cursor_of.0,
      ap length e.out_after ∙ simp length-sets l.invariant.2,
      facts_next a.p.layout a.image.now a.from.id a.out.now l.k _ l.out _ l.invariant.3 l.invariant.0 e.out_after,
    )

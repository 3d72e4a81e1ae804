use Prim.Native.Nat.{◌+◌}
use mathlib.Core.Path.{refl, ap, sym, ◌∙◌, subst}
use native.Mathlib.Omega.{arith}
use lib.ListN.{drop}
use Rattle.utf.specs.declared.Reading.{Reading}
use Rattle.utf.specs.Utf8.{Small, between, reading_of, is_well}
use Rattle.utf.proofs.ReadingLaws.{small-between, reading_next, judged_first, judged_ok, judged_wrong}
use Rattle.utf.proofs.is_utf8.Goals as goal

pub loop-i-init : goal.loop-i-init
loop-i-init c =
    let s = c.args.value.now in
    let g = c.past_ascii-i.ensures in (
      g.within,
      rw c.further-r.ensures (g.same between refl refl) ∙ judged_first s,
      subst Small (sym c.further-r.ensures) small-between,
    )

pub loop-i-preserved : goal.loop-i-preserved
loop-i-preserved c =
    let l = c.loop-i in
    let s = c.args.value.now in
    let e = ap (λ (q : Reading). reading_of q (drop (l.i + 1) s)) c.next_byte-r.ensures.0
    ∙ reading_next l.r s l.i (omega arith) in (
      c.go_on-i.ensures.within,
      c.go_on-i.ensures.same ∙ ap is_well e ∙ l.invariant.1,
      c.next_byte-r.ensures.1,
    )

pub returns-then-r : goal.returns-then-r
returns-then-r c =
    let l = c.loop-i in
    judged_ok l.r c.args.value.now l.i (omega arith) l.invariant.1 c.if-r.true

pub returns-else-r : goal.returns-else-r
returns-else-r c =
    let l = c.loop-i in
    c.if-r.false ∙ judged_wrong l.r c.args.value.now l.i (omega arith) l.invariant.1 c.if-r.false

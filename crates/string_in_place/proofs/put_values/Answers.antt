use mathlib.Core.Path.{refl, ap, sym, ◌∙◌}
use mathlib.Core.List.{List}
use Prim.Native.Nat.{ℕ}
use native.Mathlib.Omega.{arith}
use lib.ListN.{length}
use Rattle.string_edits.specs.Told.{told, values_in, coming_in}
use Rattle.string_in_place.specs.Patch.{over_old, in_place}
use Rattle.string_in_place.proofs.InPlaceLaws.{value-size, over_own, own_within}
use Rattle.string_in_place.proofs.EditedLaws.{Met, strings_few, edge_first, turn_first, edge_known, edge_within}
use Rattle.string_in_place.proofs.EditedLaws.{met_stands, edge_next, edge_past, met_known, met_gets, behind, turn_met, turn_end}
use Rattle.string_in_place.proofs.put_values.Goals as goal
use Rattle.string_in_place.proofs.put_values.Goals.{After-string_at-step}

-- the string of the next edit was visited
met : (c : After-string_at-step) → let a = c.args in
    Met a.p a.image.now c.loop-next.next c.string_from-at.result c.string_at-step.result
met c = record { edit = c.loop-next-test.true; here = c.string_from-at.ensures.1; visits = c.string_at-step.ensures }

pub next_edit-next-requires : goal.next_edit-next-requires
next_edit-next-requires c =
    let g = c.requires.0.given in
    omega (arith, strings_few _ _ _ _ _ _ g, g.from.most)

pub loop-next-init : goal.loop-next-init
loop-next-init c =
    let g = c.requires.0.given in
    (edge_first _ _ _ _ _ _ g _ c.next_edit-next.ensures, refl, sym (turn_first _ _ _ _ _ _ g _ c.args.out.now))

pub string_from-at-requires : goal.string_from-at-requires
string_from-at-requires c =
    let g = c.requires.0.given in
    let e = c.loop-next.invariant.0 in
    record {
      laid = g.laid;
      cursor_of = (e.cursor, e.next.past, edge_known _ _ _ _ _ _ g _ _ e c.loop-next-test.true);
    }

pub string_at-step-requires : goal.string_at-step-requires
string_at-step-requires c =
    let g = c.requires.0.given in
    let r = c.string_from-at.ensures in
    record {
      laid = g.laid;
      cursor_of = (r.0, omega (arith, r.1, edge_known _ _ _ _ _ _ g _ _ c.loop-next.invariant.0 c.loop-next-test.true));
    }

pub value_of-requires : goal.value_of-requires
value_of-requires c =
    let g = c.requires.0.given in
    edge_within _ _ _ _ _ _ g _ _ c.loop-next.invariant.0

pub put_bytes-requires : goal.put_bytes-requires
put_bytes-requires c =
    let a = c.args in
    let edits = told a.form a.words.now in
    let q = c.requires in
    let g = q.0.given in
    let e = c.loop-next.invariant.0 in
    let n = c.loop-next.next in
    let value = coming_in a.text.now a.ends.now n in
    let st = met_stands _ _ _ _ _ _ g _ _ e _ _ (met (goal.at.put_bytes-requires c).After-string_at-step) in
    let x = value-size a.p.layout a.image.now (values_in edits a.text.now a.ends.now) q.0.fits n.id value
    (met_known _ _ _ _ _ _ g _ _ e _ _ (met (goal.at.put_bytes-requires c).After-string_at-step))
    (met_gets _ _ _ _ _ _ g _ _ e _ _ (met (goal.at.put_bytes-requires c).After-string_at-step)) in
    omega (
      arith,
      own_within a.p a.image.now n.id c.string_at-step.result.string g.laid.placed st value x,
      ap length c.value_of.ensures.0,
      c.loop-next.invariant.1,
      q.1,
    )

pub next_edit-next-requires-in-loop-next : goal.next_edit-next-requires-in-loop-next
next_edit-next-requires-in-loop-next c =
    let g = c.requires.0.given in
    let e = c.loop-next.invariant.0 in
    omega (
      arith,
      strings_few _ _ _ _ _ _ g,
      behind _ _ _ _ _ _ g _ _ e _ _ (met (goal.at.next_edit-next-requires-in-loop-next c).After-string_at-step),
      edge_known _ _ _ _ _ _ g _ _ e c.loop-next-test.true,
    )

pub loop-next-smaller : goal.loop-next-smaller
loop-next-smaller c =
    let g = c.requires.0.given in
    let e = c.loop-next.invariant.0 in
    omega (
      arith,
      edge_past _ _ _ _ _ _ g _ _ e _ _ (met (goal.at.loop-next-smaller c).After-string_at-step),
      behind _ _ _ _ _ _ g _ _ e _ _ (met (goal.at.loop-next-smaller c).After-string_at-step),
      edge_known _ _ _ _ _ _ g _ _ e c.loop-next-test.true,
    )

pub loop-next-preserved : goal.loop-next-preserved
loop-next-preserved c =
    let a = c.args in
    let edits = told a.form a.words.now in
    let g = c.requires.0.given in
    let e = c.loop-next.invariant.0 in
    let st = met_stands a.p a.image.now edits a.text.now a.ends.now a.from g _ _ e _ _
    (met (goal.at.loop-next-preserved c).After-string_at-step) in (
      edge_next a.p a.image.now edits a.text.now a.ends.now a.from g _ _ e _ _ (met (goal.at.loop-next-preserved c).After-string_at-step) _
          c.next_edit-next-in-loop-next.ensures,
      c.put_bytes.auto.s ∙ c.loop-next.invariant.1,
      c.put_bytes.ensures
          ∙ over_own a.p a.image.now _ _ g.laid.placed st _ c.loop-next.out
          ∙ ap (λ (x : List ℕ). over_old a.p.layout a.image.now c.loop-next.next.id x c.loop-next.out)
          c.value_of.ensures.0
          ∙ ap (over_old a.p.layout a.image.now c.loop-next.next.id _) c.loop-next.invariant.2
          ∙ sym (turn_met a.p a.image.now edits a.text.now a.ends.now a.from g _ _ e _ _
          (met (goal.at.loop-next-preserved c).After-string_at-step)
          (over_old a.p.layout a.image.now) a.out.now),
    )

pub shape_of-out : goal.shape_of-out
shape_of-out c = c.loop-next.invariant.1

pub returns : goal.returns
unfolding in_place
returns c =
    let a = c.args in
    let edits = told a.form a.words.now in
    c.loop-next.invariant.2
    ∙ sym (turn_end a.p a.image.now edits a.text.now a.ends.now a.from c.requires.0.given _ _
    c.loop-next.invariant.0 (over_old a.p.layout a.image.now) a.out.now c.loop-next-test.false)

use mathlib.Core.Bool.{not}
use mathlib.Core.Path.{◌≡◌, ap, ◌∙◌}
use mathlib.Core.Bool.{true}
use mathlib.Core.List.{List}
use Prim.Native.Nat.{ℕ}
use native.Mathlib.Omega.{arith}
use Rattle.string_edits.specs.Told.{told, coming_in}
use Rattle.string_in_place.specs.Known.{tested}
use Rattle.string_in_place.proofs.EditedLaws.{Met, strings_few, edge_first, turn_first, edge_known, edge_within}
use Rattle.string_in_place.proofs.EditedLaws.{met_stands, edge_next, edge_past, behind, test_stop, test_next, test_end}
use Rattle.string_in_place.proofs.all_pass.Goals as goal
use Rattle.string_in_place.proofs.all_pass.Goals.{After-passes, After-string_at-step}

-- the string of the next edit was visited
met : (c : After-string_at-step) → let a = c.args in
    Met a.p a.image.now c.loop-next.next c.string_from-at.result c.string_at-step.result
met c = record { edit = c.loop-next-test.true; here = c.string_from-at.ensures.1; visits = c.string_at-step.ensures }

-- what the test answers is that of the next edit
answer : (c : After-passes) → let a = c.args in
    let next = c.loop-next.next in
    c.passes.result ≡ tested a.overlaps a.p.layout a.image.now next.id (coming_in a.text.now a.ends.now next)
answer c = let a = c.args in
    c.passes.ensures
    ∙ ap (λ (x : List ℕ). tested a.overlaps a.p.layout a.image.now c.loop-next.next.id x)
    c.value_of-value.ensures.0

pub next_edit-next-requires : goal.next_edit-next-requires
next_edit-next-requires c = omega (arith, strings_few _ _ _ _ _ _ c.requires, c.requires.from.most)

pub loop-next-init : goal.loop-next-init
loop-next-init c = (edge_first _ _ _ _ _ _ c.requires _ c.next_edit-next.ensures, turn_first _ _ _ _ _ _ c.requires _ true)

pub string_from-at-requires : goal.string_from-at-requires
string_from-at-requires c =
    let g = c.requires in
    let e = c.loop-next.invariant.0 in
    record {
      laid = g.laid;
      cursor_of = (e.cursor, e.next.past, edge_known _ _ _ _ _ _ g _ _ e c.loop-next-test.true);
    }

pub string_at-step-requires : goal.string_at-step-requires
string_at-step-requires c =
    let g = c.requires in
    let r = c.string_from-at.ensures in
    record {
      laid = g.laid;
      cursor_of = (r.0, omega (arith, r.1, edge_known _ _ _ _ _ _ g _ _ c.loop-next.invariant.0 c.loop-next-test.true));
    }

pub value_of-value-requires : goal.value_of-value-requires
value_of-value-requires c =
    let g = c.requires in
    edge_within _ _ _ _ _ _ g _ _ c.loop-next.invariant.0

pub passes-requires : goal.passes-requires
passes-requires c =
    record {
      laid = c.requires.laid;
      stands = met_stands _ _ _ _ _ _ c.requires _ _ c.loop-next.invariant.0 _ _ (met (goal.at.passes-requires c).After-string_at-step);
    }

pub returns-then-not-passes : goal.returns-then-not-passes
returns-then-not-passes c =
    let a = c.args in
    let edits = told a.form a.words.now in
    test_stop a.p a.image.now edits a.text.now a.ends.now a.from c.requires _ _ c.loop-next.invariant.0 _ _
    (met (goal.at.returns-then-not-passes c).After-string_at-step) (tested a.overlaps a.p.layout a.image.now) _
    (answer (goal.at.returns-then-not-passes c).After-passes) (ap not c.if-not-passes.true)

pub next_edit-next-requires-in-loop-next : goal.next_edit-next-requires-in-loop-next
next_edit-next-requires-in-loop-next c =
    let g = c.requires in
    let e = c.loop-next.invariant.0 in
    omega (
      arith,
      strings_few _ _ _ _ _ _ g,
      behind _ _ _ _ _ _ g _ _ e _ _ (met (goal.at.next_edit-next-requires-in-loop-next c).After-string_at-step),
      edge_known _ _ _ _ _ _ g _ _ e c.loop-next-test.true,
    )

pub loop-next-smaller : goal.loop-next-smaller
loop-next-smaller c =
    let g = c.requires in
    let e = c.loop-next.invariant.0 in
    omega (
      arith,
      edge_past _ _ _ _ _ _ g _ _ e _ _ (met (goal.at.loop-next-smaller c).After-string_at-step),
      behind _ _ _ _ _ _ g _ _ e _ _ (met (goal.at.loop-next-smaller c).After-string_at-step),
      edge_known _ _ _ _ _ _ g _ _ e c.loop-next-test.true,
    )

pub loop-next-preserved : goal.loop-next-preserved
loop-next-preserved c =
    let a = c.args in
    let edits = told a.form a.words.now in
    let e = c.loop-next.invariant.0 in (
      edge_next a.p a.image.now edits a.text.now a.ends.now a.from c.requires _ _ e _ _
          (met (goal.at.loop-next-preserved c).After-string_at-step) _
          c.next_edit-next-in-loop-next.ensures,
      test_next a.p a.image.now edits a.text.now a.ends.now a.from c.requires _ _ e _ _
          (met (goal.at.loop-next-preserved c).After-string_at-step)
          (tested a.overlaps a.p.layout a.image.now) _ (answer (goal.at.loop-next-preserved c).After-passes)
          (ap not c.if-not-passes.false) c.loop-next.invariant.1,
    )

pub returns : goal.returns
returns c =
    let a = c.args in
    let edits = told a.form a.words.now in
    test_end a.p a.image.now edits a.text.now a.ends.now a.from c.requires _ _ c.loop-next.invariant.0
    (tested a.overlaps a.p.layout a.image.now) c.loop-next-test.false c.loop-next.invariant.1

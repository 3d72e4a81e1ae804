use mathlib.Core.Path.{refl, ap, sym, ◌∙◌, subst⁻¹}
use mathlib.Core.List.{List}
use Prim.Native.Nat.{ℕ}
use native.Mathlib.Omega.{arith}
use lib.ListN.{length}
use Rattle.string_edits.specs.Told.{told}
use Rattle.string_in_place.specs.Known.{Finishable}
use Rattle.string_in_place.specs.Patch.{hashed, rehashed}
use Rattle.string_in_place.proofs.FinishLaws.{Slotted, slot_fits, slotted-is}
use Rattle.string_in_place.proofs.EditedLaws.{Met, strings_few, edge_first, turn_first, edge_known, edge_within}
use Rattle.string_in_place.proofs.EditedLaws.{met_stands, edge_next, edge_past, behind, turn_met, turn_end}
use Rattle.string_in_place.proofs.put_hashes.Goals as goal
use Rattle.string_in_place.proofs.put_hashes.Goals.{After-string_at-step}

-- the string of the next edit was visited
met : (c : After-string_at-step) → let a = c.args in
    Met a.p a.image.now c.loop-due.due c.string_from-at.result c.string_at-step.result
met c = record { edit = c.loop-due-test.true; here = c.string_from-at.ensures.1; visits = c.string_at-step.ensures }

-- the slot of the string's rank is in the buffer
slotted : (c : After-string_at-step) → let a = c.args in
    Slotted a.p a.image.now c.loop-due.due.id c.string_at-step.result.string.rank (length c.loop-due.out)
slotted c = let q = c.requires in
    let e = c.loop-due.invariant.0 in
    record {
      laid = q.0.laid;
      known = edge_known _ _ _ _ _ _ q.0 _ _ e c.loop-due-test.true;
      ranked = (met_stands _ _ _ _ _ _ q.0 _ _ e _ _ (met c)).rank;
      fits = subst⁻¹ (Finishable _) c.loop-due.invariant.1 q.1;
    }

pub next_edit-due-requires : goal.next_edit-due-requires
next_edit-due-requires c =
    let g = c.requires.0 in
    omega (arith, strings_few _ _ _ _ _ _ g, g.from.most)

pub loop-due-init : goal.loop-due-init
loop-due-init c =
    let g = c.requires.0 in
    (edge_first _ _ _ _ _ _ g _ c.next_edit-due.ensures, refl, sym (turn_first _ _ _ _ _ _ g _ c.args.out.now))

pub string_from-at-requires : goal.string_from-at-requires
string_from-at-requires c =
    let g = c.requires.0 in
    let e = c.loop-due.invariant.0 in
    record {
      laid = g.laid;
      cursor_of = (e.cursor, e.next.past, edge_known _ _ _ _ _ _ g _ _ e c.loop-due-test.true);
    }

pub string_at-step-requires : goal.string_at-step-requires
string_at-step-requires c =
    let g = c.requires.0 in
    let r = c.string_from-at.ensures in
    record {
      laid = g.laid;
      cursor_of = (r.0, omega (arith, r.1, edge_known _ _ _ _ _ _ g _ _ c.loop-due.invariant.0 c.loop-due-test.true));
    }

pub value_of-requires : goal.value_of-requires
value_of-requires c =
    let g = c.requires.0 in
    edge_within _ _ _ _ _ _ g _ _ c.loop-due.invariant.0

pub put_hash-requires : goal.put_hash-requires
put_hash-requires c = slot_fits _ _ _ _ _ (slotted (goal.at.put_hash-requires c).After-string_at-step)

pub next_edit-due-requires-in-loop-due : goal.next_edit-due-requires-in-loop-due
next_edit-due-requires-in-loop-due c =
    let g = c.requires.0 in
    let e = c.loop-due.invariant.0 in
    omega (
      arith,
      strings_few _ _ _ _ _ _ g,
      behind _ _ _ _ _ _ g _ _ e _ _ (met (goal.at.next_edit-due-requires-in-loop-due c).After-string_at-step),
      edge_known _ _ _ _ _ _ g _ _ e c.loop-due-test.true,
    )

pub loop-due-smaller : goal.loop-due-smaller
loop-due-smaller c =
    let g = c.requires.0 in
    let e = c.loop-due.invariant.0 in
    omega (
      arith,
      edge_past _ _ _ _ _ _ g _ _ e _ _ (met (goal.at.loop-due-smaller c).After-string_at-step),
      behind _ _ _ _ _ _ g _ _ e _ _ (met (goal.at.loop-due-smaller c).After-string_at-step),
      edge_known _ _ _ _ _ _ g _ _ e c.loop-due-test.true,
    )

pub loop-due-preserved : goal.loop-due-preserved
loop-due-preserved c =
    let a = c.args in
    let edits = told a.form a.words.now in
    let g = c.requires.0 in
    let e = c.loop-due.invariant.0 in (
      edge_next a.p a.image.now edits a.text.now a.ends.now a.from g _ _ e _ _ (met (goal.at.loop-due-preserved c).After-string_at-step) _
          c.next_edit-due-in-loop-due.ensures,
      c.put_hash.auto.out ∙ c.loop-due.invariant.1,
      c.put_hash.ensures
          ∙ slotted-is a.p a.image.now _ _ _ (slotted (goal.at.loop-due-preserved c).After-string_at-step) _ c.loop-due.out
          ∙ ap (λ (x : List ℕ). hashed a.p.layout a.image.now c.loop-due.due.id x c.loop-due.out)
          c.value_of.ensures.0
          ∙ ap (hashed a.p.layout a.image.now c.loop-due.due.id _) c.loop-due.invariant.2
          ∙ sym (turn_met a.p a.image.now edits a.text.now a.ends.now a.from g _ _ e _ _
          (met (goal.at.loop-due-preserved c).After-string_at-step)
          (hashed a.p.layout a.image.now) a.out.now),
    )

pub shape_of-out : goal.shape_of-out
shape_of-out c = c.loop-due.invariant.1

pub returns : goal.returns
unfolding rehashed
returns c =
    let a = c.args in
    c.loop-due.invariant.2
    ∙ sym (turn_end a.p a.image.now (told a.form a.words.now) a.text.now a.ends.now a.from c.requires.0 _ _
    c.loop-due.invariant.0 (hashed a.p.layout a.image.now) a.out.now c.loop-due-test.false)

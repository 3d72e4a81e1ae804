use mathlib.Core.Path.{◌≡◌, ap, ◌∙◌}
use mathlib.Core.List.{List}
use Prim.Native.Nat.{ℕ}
use native.Mathlib.Nat.{sub-zero}
use native.Mathlib.Omega.{arith}
use Rattle.std.proofs.lemmas.Result.{err_from_is_err_and}
use Rattle.bits.specs.Choice.{both}
use Rattle.bits.specs.Outcome.{passed}
use Rattle.string_edits.specs.Told.{told, coming_in}
use Rattle.string_edits.specs.declared.Form.TheVariants.{Marks}
use Rattle.string_in_place.specs.Known.{Given}
use Rattle.string_in_place.specs.Patch.{fits_in_place}
use Rattle.string_in_place.proofs.EditedLaws.{Met, strings_few, edge_known, edge_within, met_stands, edge_past, behind}
use Rattle.string_steps.proofs.MarkLaws.{front-listed}
use Rattle.string_steps.proofs.MarkLaws as marks
use Rattle.string_steps.proofs.StopLaws.{pass_first, pass_end, met_most, front_fits, pass_stop, pass_next}
use Rattle.string_steps.proofs.first_stop.Goals as goal
use Rattle.string_steps.proofs.first_stop.Goals.{After-first_string-c, After-fits_too-fits, After-string_at-step}

-- the pass starts at the first string
given : (c : After-first_string-c) → let a = c.args in
    Given a.p a.image.now (told Marks a.marks.now) a.text.now a.ends.now c.first_string-c.result
given c = let e = c.first_string-c.ensures in
    marks.given _ _ _ _ _ c.requires _ (e.0 _ _ c.requires.laid.placed) e.1

-- the next string was visited
met : (c : After-string_at-step) → let a = c.args in
    Met a.p a.image.now c.loop-next.next c.string_from-at.result c.string_at-step.result
met c = record { edit = c.loop-next-test.true; here = c.string_from-at.ensures.1; visits = c.string_at-step.ensures }

-- whether it fits too
answer : (c : After-fits_too-fits) → let a = c.args in
    let n = c.loop-next.next in
    c.fits_too-fits.result
    ≡ both (fits_in_place a.p.layout a.image.now n.id (coming_in a.text.now a.ends.now n)) c.loop-next.fits
answer c = let a = c.args in
    c.fits_too-fits.ensures
    ∙ ap (λ (x : List ℕ). both (fits_in_place a.p.layout a.image.now c.loop-next.next.id x) c.loop-next.fits)
    c.value_of-value.ensures.0

pub next_edit-next-requires : goal.next_edit-next-requires
next_edit-next-requires c = omega (arith, c.first_string-c.ensures.1)

pub loop-next-init : goal.loop-next-init
loop-next-init c =
    pass_first _ _ _ _ _ _ _ c.requires _ (given (goal.at.loop-next-init c).After-first_string-c) _ c.next_edit-next.ensures

pub string_from-at-requires : goal.string_from-at-requires
string_from-at-requires c =
    let g = given (goal.at.string_from-at-requires c).After-first_string-c in
    let e = c.loop-next.invariant.edge in
    record {
      laid = g.laid;
      cursor_of = (e.cursor, e.next.past, edge_known _ _ _ _ _ _ g _ _ e c.loop-next-test.true);
    }

pub string_at-step-requires : goal.string_at-step-requires
string_at-step-requires c =
    let g = given (goal.at.string_at-step-requires c).After-first_string-c in
    let r = c.string_from-at.ensures in
    record {
      laid = g.laid;
      cursor_of = (r.0, omega (arith, r.1, edge_known _ _ _ _ _ _ g _ _ c.loop-next.invariant.edge c.loop-next-test.true));
    }

pub value_of-value-requires : goal.value_of-value-requires
value_of-value-requires c =
    edge_within _ _ _ _ _ _ (given (goal.at.value_of-value-requires c).After-first_string-c) _ _ c.loop-next.invariant.edge

pub fits_too-fits-requires : goal.fits_too-fits-requires
fits_too-fits-requires c =
    let g = given (goal.at.fits_too-fits-requires c).After-first_string-c in
    record {
      laid = g.laid;
      stands = met_stands _ _ _ _ _ _ g _ _ c.loop-next.invariant.edge _ _ (met (goal.at.fits_too-fits-requires c).After-string_at-step);
    }

pub slice_bounds-stop_at-end : goal.slice_bounds-stop_at-end
slice_bounds-stop_at-end c =
    omega (
      arith,
      met_most _ _ _ _ _ _ _ c.requires _ (given (goal.at.slice_bounds-stop_at-end c).After-first_string-c) _ _ _ c.loop-next.invariant _
          _ (met (goal.at.slice_bounds-stop_at-end c).After-string_at-step),
    )

pub stop_at-requires : goal.stop_at-requires
stop_at-requires c =
    let a = c.args in
    let g = given (goal.at.stop_at-requires c).After-first_string-c in
    record {
      fits_value = rw sub-zero
          (front_fits a.mode a.p a.image.now a.marks.now a.text.now a.ends.now a.room c.requires _ g _ _ _
          c.loop-next.invariant _ _ (met (goal.at.stop_at-requires c).After-string_at-step) _
          (answer (goal.at.stop_at-requires c).After-fits_too-fits));
      laid = (
        c.requires.laid,
        rw sub-zero (front-listed a.marks.now a.text.now a.ends.now c.string_at-step.result.next.id c.requires.listed),
      );
    }

pub returns-in_err-stop_at : goal.returns-in_err-stop_at
returns-in_err-stop_at c =
    let a = c.args in
    let e = err_from_is_err_and c.from_residual.result c.from_residual.ensures.1 in
    rw (e.1, e.2)
    (pass_stop a.mode a.p a.image.now a.marks.now a.text.now a.ends.now a.room c.requires _
    (given (goal.at.returns-in_err-stop_at c).After-first_string-c) _ _ _ c.loop-next.invariant _ _
    (met (goal.at.returns-in_err-stop_at c).After-string_at-step) _ (answer (goal.at.returns-in_err-stop_at c).After-fits_too-fits) _
    (rw sub-zero at c.stop_at.ensures) _ c.in_err-stop_at.was)

pub next_edit-next-requires-in-loop-next : goal.next_edit-next-requires-in-loop-next
next_edit-next-requires-in-loop-next c =
    let g = given (goal.at.next_edit-next-requires-in-loop-next c).After-first_string-c in
    let e = c.loop-next.invariant.edge in
    omega (
      arith,
      strings_few _ _ _ _ _ _ g,
      behind _ _ _ _ _ _ g _ _ e _ _ (met (goal.at.next_edit-next-requires-in-loop-next c).After-string_at-step),
      edge_known _ _ _ _ _ _ g _ _ e c.loop-next-test.true,
    )

pub loop-next-smaller : goal.loop-next-smaller
loop-next-smaller c =
    let g = given (goal.at.loop-next-smaller c).After-first_string-c in
    let e = c.loop-next.invariant.edge in
    omega (
      arith,
      edge_past _ _ _ _ _ _ g _ _ e _ _ (met (goal.at.loop-next-smaller c).After-string_at-step),
      behind _ _ _ _ _ _ g _ _ e _ _ (met (goal.at.loop-next-smaller c).After-string_at-step),
      edge_known _ _ _ _ _ _ g _ _ e c.loop-next-test.true,
    )

pub loop-next-preserved : goal.loop-next-preserved
loop-next-preserved c =
    let a = c.args in
    pass_next a.mode a.p a.image.now a.marks.now a.text.now a.ends.now a.room c.requires _
    (given (goal.at.loop-next-preserved c).After-first_string-c) _ _ _ c.loop-next.invariant _ _
    (met (goal.at.loop-next-preserved c).After-string_at-step) _ (answer (goal.at.loop-next-preserved c).After-fits_too-fits) _
    (rw sub-zero at c.stop_at.ensures) _ c.in_ok-stop_at.was _ c.next_edit-next-in-loop-next.ensures

pub returns : goal.returns
returns c =
    ap passed
    (pass_end _ _ _ _ _ _ _ c.requires _ (given (goal.at.returns c).After-first_string-c) _ _ _ c.loop-next.invariant
    c.loop-next-test.false)

-- Where every value fits in place, nothing else is refused, whatever the mode.
use mathlib.Core.Path.{sym, ◌∙◌}
use Rattle.string_edits.specs.Told.{told}
use Rattle.string_in_place.specs.Known.{Given, Overwritten}
use Rattle.string_in_place.proofs.InPlaceLaws.{known_in_place}
use Rattle.strings.proofs.patch_known.Goals as goal
use Rattle.strings.proofs.patch_known.Goals.{After-first_edited-from, Then-fits_all}

-- the edits, and where the pass over them starts
given : (c : After-first_edited-from) → let a = c.args in
    Given a.p a.image.now (told a.form a.words.now) a.text.now a.ends.now c.first_edited-from.result
given c = let q = c.requires in
    record { laid = q.laid.0; listed = q.laid.1; known = q.by_index; from = c.first_edited-from.ensures }

-- the values go over their strings' bytes
overwritten : (c : Then-fits_all) → let a = c.args in
    Overwritten a.p a.image.now (told a.form a.words.now) a.text.now a.ends.now
    c.first_edited-from.result
overwritten c = let q = c.requires in
    record {
      given = record { laid = q.laid.0; listed = q.laid.1; known = q.by_index; from = c.first_edited-from.ensures };
      fits = sym c.fits_all.ensures ∙ c.if-fits_all.true;
    }

pub first_edited-from-requires : goal.first_edited-from-requires
first_edited-from-requires c =
    let q = c.requires in
    record {
      laid = q.laid.0;
      by_index = q.by_index;
    }

pub fits_all-requires : goal.fits_all-requires
fits_all-requires c = given (goal.at.fits_all-requires c).After-first_edited-from

pub patch_in_place-requires : goal.patch_in_place-requires
patch_in_place-requires c = overwritten (goal.at.patch_in_place-requires c).Then-fits_all

pub returns-then-fits_all : goal.returns-then-fits_all
returns-then-fits_all c =
    rw (known_in_place _ _ _ _ _ _ (overwritten (goal.at.returns-then-fits_all c).Then-fits_all) _) c.patch_in_place.ensures

pub rebuild-requires : goal.rebuild-requires
rebuild-requires c =
    record { given = given (goal.at.rebuild-requires c).After-first_edited-from; moves = sym c.fits_all.ensures ∙ c.if-fits_all.false }

-- What is around the strings, their region, the two counts, every place that moves, and the end: each step keeps the length.
use mathlib.Core.Path.{refl, ◌∙◌}
use Rattle.string_edits.specs.Told.{told}
use Rattle.string_rebuild.proofs.RebuildLaws.{around-room, region-room, header-room, ends_room, movable, patch_put}
use Rattle.string_rebuild.proofs.put_rebuilt.Goals as goal

pub copy_around-requires : goal.copy_around-requires
copy_around-requires c =
    let a = c.args in
    let edits = told a.form a.words.now in
    let q = c.requires in
    around-room a.mode a.p a.image.now edits a.text.now a.ends.now a.from a.sizes a.tail _ q

pub put_region-requires : goal.put_region-requires
put_region-requires c =
    let a = c.args in
    let edits = told a.form a.words.now in
    let q = c.requires in
    let r = region-room a.mode a.p a.image.now edits a.text.now a.ends.now a.from a.sizes a.tail _ q in
    record {
      laid = q.asked.given.laid;
      listed = q.asked.given.listed;
      measured = q.measured;
      room = rw c.copy_around.auto.out r.0;
      limit = r.1;
    }

pub put_counts-requires : goal.put_counts-requires
put_counts-requires c =
    let a = c.args in
    let edits = told a.form a.words.now in
    let q = c.requires in
    rw (c.put_region.auto.out, c.copy_around.auto.out)
    (header-room a.mode a.p a.image.now edits a.text.now a.ends.now a.from a.sizes a.tail _ q)

pub relocate-requires : goal.relocate-requires
relocate-requires c =
    let a = c.args in
    let edits = told a.form a.words.now in
    let q = c.requires in
    rw (c.put_counts.auto.out, c.put_region.auto.out, c.copy_around.auto.out)
    (movable a.mode a.p a.image.now edits a.text.now a.ends.now a.from a.sizes a.tail _ q)

pub finish-requires : goal.finish-requires
finish-requires c =
    let a = c.args in
    let edits = told a.form a.words.now in
    let q = c.requires in (
      q.asked.given,
      rw (
        c.relocate.auto.out,
        c.put_counts.auto.out,
        c.put_region.auto.out,
        c.copy_around.auto.out,
      )
          (ends_room a.mode a.p a.image.now edits a.text.now a.ends.now a.from a.sizes a.tail _ q),
    )

pub returns : goal.returns
returns c =
    let a = c.args in
    let edits = told a.form a.words.now in
    let q = c.requires in
    patch_put a.mode a.p a.image.now edits a.text.now a.ends.now a.from a.sizes a.tail _ q
    (record {
      fits = refl;
      around = c.copy_around.ensures;
      strings = c.put_region.ensures;
      counts = c.put_counts.ensures;
      places = c.relocate.ensures;
      long = c.relocate.auto.out ∙ c.put_counts.auto.out ∙ c.put_region.auto.out
          ∙ c.copy_around.auto.out;
    }) _ _ c.finish.ensures

-- The image is copied, the values go over their strings' bytes, and the end is finalized: each step keeps the length.
use mathlib.Core.Path.{◌∙◌, subst⁻¹}
use Rattle.string_edits.specs.Told.{told}
use Rattle.string_in_place.specs.Known.{Finishable}
use Rattle.string_in_place.proofs.InPlaceLaws.{finishable, in_place_lem}
use Rattle.string_in_place.proofs.put_in_place.Goals as goal

pub put_values-requires : goal.put_values-requires
put_values-requires c =
    let q = c.requires in
    (q.0, c.put_bytes.auto.s ∙ q.1)

pub finish-requires : goal.finish-requires
finish-requires c =
    let q = c.requires in (
      q.0.given,
      subst⁻¹ (Finishable _) (c.put_values.auto.out ∙ c.put_bytes.auto.s ∙ q.1) (finishable _ _ _ _ _ _ q.0),
    )

pub returns : goal.returns
returns c =
    let a = c.args in
    let edits = told a.form a.words.now in
    let q = c.requires in
    in_place_lem a.p a.image.now edits a.text.now a.ends.now a.from q.0 a.out.now _ _ _ _ q.1
    c.put_bytes.ensures c.put_values.ensures c.finish.ensures

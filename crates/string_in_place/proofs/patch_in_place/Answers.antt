-- 13, or the room that `put_in_place` asks for.
use native.Mathlib.Omega.{arith}
use Rattle.string_edits.specs.Told.{told}
use Rattle.string_in_place.proofs.FinishLaws.{part_length}
use Rattle.string_in_place.proofs.InPlaceLaws.{in_short, in_room}
use Rattle.string_in_place.proofs.patch_in_place.Goals as goal

pub returns-then-out-n : goal.returns-then-out-n
returns-then-out-n c =
    let a = c.args in
    let q = c.requires in
    in_short a.p a.image.now (told a.form a.words.now) a.text.now a.ends.now a.from q a.out.now c.if-out-n.true

pub put_in_place-requires : goal.put_in_place-requires
put_in_place-requires c =
    let a = c.args in
    let q = c.requires in
    (q, part_length a.out.now _ (omega arith))

pub returns : goal.returns
returns c =
    let a = c.args in
    let edits = told a.form a.words.now in
    let q = c.requires in
    in_room a.p a.image.now edits a.text.now a.ends.now a.from q a.out.now (omega arith) _ _
    c.put_in_place.ensures

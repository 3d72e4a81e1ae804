use mathlib.Core.Path.{◌∙◌}
use Rattle.string_walk.proofs.RecordLaws.{record_small}
use Rattle.string_in_place.proofs.InPlaceLaws.{sized_own}
use Rattle.string_in_place.proofs.passes.Goals as goal

pub returns-then-overlaps : goal.returns-then-overlaps
returns-then-overlaps c = rw c.if-overlaps.true c.is_alone.ensures

pub is_sized-requires : goal.is_sized-requires
is_sized-requires c =
    let a = c.args in
    (record_small a.p a.image.now c.requires.laid.placed a.id a.own c.requires.stands).0

pub returns : goal.returns
returns c =
    let a = c.args in
    rw c.if-overlaps.false
    (c.is_sized.ensures ∙ sized_own a.p a.image.now a.id a.own c.requires.laid.placed c.requires.stands a.value.now)

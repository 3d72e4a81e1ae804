use Rattle.string_find.proofs.HashLaws.{hash_start, hash_next, hash_end, room_unit}
use Rattle.string_find.proofs.hash_units.Goals as goal

pub loop-i-init : goal.loop-i-init
loop-i-init c =
    let a = c.args in
    hash_start a.image.now a.start a.wide a.count

pub unit_at-requires : goal.unit_at-requires
unit_at-requires c =
    let a = c.args in
    room_unit a.wide a.start a.count c.loop-i.i _ c.loop-i-test.true c.requires

pub loop-i-preserved : goal.loop-i-preserved
loop-i-preserved c =
    let l = c.loop-i in
    let a = c.args in
    hash_next a.image.now a.start a.wide a.count l.i l.h _ _ _ c.loop-i-test.true
    c.unit_at.ensures.0 c.hash_step-h.ensures l.invariant

pub returns : goal.returns
returns c =
    let l = c.loop-i in
    let a = c.args in
    hash_end a.image.now a.start a.wide a.count l.i l.h _ c.loop-i-test.false l.invariant

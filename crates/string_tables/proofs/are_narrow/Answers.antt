-- The part of the image that is read has the image's bytes.
use Prim.Native.Nat.{◌+◌, ◌-◌, ◌<◌}
use native.Mathlib.Omega.{arith}
use lib.ListN.{drop, length-drop}
use lib.Seq.{length-take-le}
use Rattle.std.proofs.lemmas.List.{get_or-take, get_or-drop}
use Rattle.string_tables.proofs.StringLaws.{narrow_none, narrow_next}
use Rattle.string_tables.proofs.are_narrow.Goals as goal

pub loop-byte-init : goal.loop-byte-init
loop-byte-init c = narrow_none _ _

pub loop-byte-preserved : goal.loop-byte-preserved
loop-byte-preserved c =
    let a = c.args in
    let l = c.loop-byte in
    let i : l.byte-index < a.at + a.n - a.at
    = omega (arith, length-take-le (a.at + a.n - a.at) (drop a.at a.image.now) (rw length-drop (omega arith))) in
    rw (get_or-take (a.at + a.n - a.at) (drop a.at a.image.now) l.byte-index 0 i, get_or-drop a.at a.image.now l.byte-index 0)
    (narrow_next a.image.now a.at l.byte-index l.seen l.invariant)

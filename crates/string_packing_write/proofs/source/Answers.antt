use native.Mathlib.Nat.{add-sub_cancel_left}
use Rattle.string_packing_write.proofs.EntryLaws.{from_value, from_image}
use Rattle.string_packing_write.proofs.source.Goals as goal

pub returns-then-is_new : goal.returns-then-is_new
returns-then-is_new c = let a = c.args in from_value a.is_new a.image.now a.value.now a.at a.n c.if-is_new.true

pub returns : goal.returns
returns c =
    let a = c.args in
    rw (add-sub_cancel_left)
    (from_image a.is_new a.image.now a.value.now a.at a.n c.if-is_new.false c.requires)

-- Refusals as `measure` judged them, then 13; what is left has the room that `put_patched` asks for.
use mathlib.Core.Path.{refl, sym, ◌∙◌}
use Rattle.std.proofs.lemmas.Result.{err_from_is_err_and}
use Rattle.functions.proofs.WriteLaws.{PatchRoomy, goes_out, no_room, room_made, written_out}
use Rattle.functions.proofs.patch_function_bytes.Goals as goal
use Rattle.functions.proofs.patch_function_bytes.Goals.{Else-out-length}

-- the result has its length, and room
roomy : (c : Else-out-length) → let a = c.args in
    PatchRoomy a.layout a.image.now a.id a.body.now a.out.now c.in_ok-length.length
roomy c = record {
  measured = sym c.in_ok-length.was ∙ c.measure.ensures;
  room = c.if-out-length.false;
}

pub returns-in_err-length : goal.returns-in_err-length
returns-in_err-length c =
    let a = c.args in
    let e = err_from_is_err_and c.from_residual.result c.from_residual.ensures.1 in
    rw (e.1, e.2) (goes_out a.layout a.image.now a.id a.body.now a.out.now _ c.in_err-length.ensures _ refl)

pub returns-then-out-length : goal.returns-then-out-length
returns-then-out-length c =
    let a = c.args in
    no_room a.layout a.image.now a.id a.body.now a.out.now _ c.measure.ensures _
    c.in_ok-length.was c.if-out-length.true

pub put_patched-requires : goal.put_patched-requires
put_patched-requires c = room_made (roomy (goal.at.put_patched-requires c).Else-out-length) (λ i. (c.type_inv.image i).fits)

pub returns : goal.returns
returns c = written_out (roomy (goal.at.returns c).Else-out-length) _ _ c.put_patched.ensures

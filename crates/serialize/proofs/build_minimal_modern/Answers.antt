-- Refusals as `measure` judged them, then 13; what is left has the room that `put_image` asks for.
use Rattle.std.proofs.lemmas.Result.{err_from_is_err_and}
use mathlib.Core.Path.{refl, sym, ◌∙◌}
use native.Mathlib.Omega.{arith}
use Rattle.serialize.proofs.BuilderLaws.{goes_out, fine, no_room, room_made, written_out}
use Rattle.serialize.proofs.build_minimal_modern.Goals as goal

pub returns-in_err-length : goal.returns-in_err-length
returns-in_err-length c =
    let a = c.args in
    let p = err_from_is_err_and c.from_residual.result c.from_residual.ensures.1 in
    rw (p.1, p.2)
    (goes_out a.version a.text.now a.ends.now a.body.now a.out.now _ (sym c.in_err-length.was ∙ c.measure.ensures) _ refl)

pub returns-then-out-length : goal.returns-then-out-length
returns-then-out-length c =
    let a = c.args in
    no_room a.version a.text.now a.ends.now a.body.now a.out.now _
    (fine a.version a.text.now a.ends.now a.body.now _ _ c.measure.ensures
    c.in_ok-length.was)
    c.if-out-length.true

pub slice_bounds-put_image-end-2 : goal.slice_bounds-put_image-end-2
slice_bounds-put_image-end-2 c =
    let a = c.args in
    omega (
      arith,
      c.start_of-size.ensures.0,
      (fine a.version a.text.now a.ends.now a.body.now _ _ c.measure.ensures
          c.in_ok-length.was).last,
    )

pub put_image-requires : goal.put_image-requires
put_image-requires c =
    let a = c.args in
    let made = room_made a.version a.text.now a.ends.now a.body.now a.out.now _ _
    (record {
      accepted = fine a.version a.text.now a.ends.now a.body.now _ _ c.measure.ensures
          c.in_ok-length.was;
      last = c.start_of-size.ensures.0;
      room = c.if-out-length.false;
    }) in
    record { image_len = made.0; image_len_bound = made.1.0; ends_value = made.1.1 }

pub returns : goal.returns
returns c =
    let a = c.args in
    written_out a.version a.text.now a.ends.now a.body.now a.out.now _ _
    (record {
      accepted = fine a.version a.text.now a.ends.now a.body.now _ _ c.measure.ensures
          c.in_ok-length.was;
      last = c.start_of-size.ensures.0;
      room = c.if-out-length.false;
    })
    _ _ c.put_image.ensures

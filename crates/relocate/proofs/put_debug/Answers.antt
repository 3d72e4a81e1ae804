-- One word of the header, which lies in both buffers and holds the place.
use native.Mathlib.Omega.{arith}
use Rattle.relocate.proofs.EditLaws.{header_there, debug-put}
use Rattle.relocate.proofs.put_debug.Goals as goal

pub debug_of-requires : goal.debug_of-requires
debug_of-requires c =
    let a = c.args in
    (header_there a.layout a.image.now a.m _ c.requires).0

pub put_exact-requires : goal.put_exact-requires
put_exact-requires c =
    let a = c.args in
    record {
      at_in_bounds = omega (arith, c.debug_at.ensures.1, (header_there a.layout a.image.now a.m _ c.requires).1);
      x_bound = rw (c.move_place-debug.ensures.0, c.debug_of.ensures.0) c.requires.debug;
    }

pub returns : goal.returns
returns c =
    let a = c.args in
    debug-put a.layout a.image.now a.m _ _ _ a.out.now _
    (record {
      place = c.debug_at.ensures.0;
      offset = c.debug_of.ensures.0;
      goes = c.move_place-debug.ensures.0;
      word = c.put_exact.ensures.0;
    })

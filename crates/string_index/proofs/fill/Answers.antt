use mathlib.Core.Path.{refl, ◌∙◌}
use native.Mathlib.Omega.{arith}
use Rattle.string_index.specs.Index.{entry_of}
use Rattle.string_index.proofs.RunLaws.{put-none, put_next}
use Rattle.string_index.proofs.IndexLaws.{all_filled}
use Rattle.string_index.proofs.fill.Goals as goal

pub first_string-c-requires : goal.first_string-c-requires
first_string-c-requires c = tt

pub loop-id-init : goal.loop-id-init
loop-id-init c =
    let a = c.args in
    let f = c.first_string-c.ensures in (
      omega (arith, f.1),
      refl,
      f.0 a.p a.image.now c.requires.0.placed,
      rw f.1 (put-none a.p.strings (entry_of a.p.layout a.image.now) a.index.now),
    )

pub put_string-c-requires : goal.put_string-c-requires
put_string-c-requires c =
    let h = c.requires in
    let v = c.loop-id.invariant in
    record {
      laid = (h.0, omega (arith, h.1, v.1));
      cursor_of = (v.2, omega (arith, v.0));
    }

pub loop-id-preserved : goal.loop-id-preserved
loop-id-preserved c =
    let a = c.args in
    let l = c.loop-id in
    let r = c.put_string-c in (
      omega (arith, r.ensures.cursor_of_2.1, l.invariant.0),
      r.auto.index ∙ l.invariant.1,
      r.ensures.cursor_of_2.0,
      rw r.ensures.cursor_of_2.1
          (put_next a.p.strings (entry_of a.p.layout a.image.now) a.index.now l.c.id _ _ l.invariant.3 r.ensures.index_after),
    )

pub shape_of-index : goal.shape_of-index
shape_of-index c = c.loop-id.invariant.1

pub returns : goal.returns
returns c =
    let a = c.args in
    let l = c.loop-id in
    all_filled a.p a.image.now c.requires.0.placed a.index.now _ l.c.id (omega (arith, l.invariant.0)) l.invariant.3

use mathlib.Core.Path.{refl, ◌∙◌}
use native.Mathlib.Omega.{arith}
use Rattle.string_edits.specs.Told.{told, values_in}
use Rattle.string_packing.specs.Strings.{string_with}
use Rattle.string_packing_write.proofs.RegionLaws.{laid_none}
use Rattle.string_packing_write.proofs.PutLaws.{all_strings}
use Rattle.string_packing_write.proofs.put_strings.Goals as goal

pub loop-c-init : goal.loop-c-init
loop-c-init c =
    let a = c.args in
    let e = c.nothing_packed-c.ensures in (
      omega (arith, e.1),
      refl,
      e.0 _ _ _ c.requires.laid.placed _,
      rw e.1 (laid_none a.mode a.to (string_with a.p.layout a.image.now
          (values_in (told a.form a.words.now) a.text.now a.ends.now)) a.out.now),
    )

pub put_stretch-c-requires : goal.put_stretch-c-requires
put_stretch-c-requires c =
    let q = c.requires in
    let v = c.loop-c.invariant in
    record {
      writable = (rw v.1 q, c.loop-c-test.true);
      reached = v.2;
    }

pub loop-c-smaller : goal.loop-c-smaller
loop-c-smaller c = let e = c.put_stretch-c.ensures in omega (arith, e.id_lt_id)

pub loop-c-preserved : goal.loop-c-preserved
loop-c-preserved c =
    let a = c.args in
    let v = c.loop-c.invariant in
    let e = c.put_stretch-c.ensures in
    (e.id_lt_id.1, c.put_stretch-c.auto.out ∙ v.1, e.reached_2, e.laid_on a.out.now v.3)

pub shape_of-out : goal.shape_of-out
shape_of-out c = c.loop-c.invariant.1

pub returns : goal.returns
returns c =
    let v = c.loop-c.invariant in
    all_strings _ _ _ c.requires.laid.placed _ _ (omega (arith, v.0, c.loop-c-test.false)) _ c.args.out.now _ v.3

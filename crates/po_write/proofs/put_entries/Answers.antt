use mathlib.Core.Path.{◌≡◌, refl, ap, sym, ◌∙◌}
use mathlib.Core.List.{List}
use Prim.Native.Nat.{ℕ}
use native.Mathlib.Nat.{zero-add}
use native.Mathlib.Omega.{arith}
use lib.ListN.{length}
use lib.Seq.{sets}
use Rattle.bits.proofs.WriteLaws.{sets_then}
use Rattle.po_write.specs.File.{file_at, file_to}
use Rattle.po_write.proofs.FileLaws.{file-none, file_next, length_next, length_most, file_all}
use Rattle.po_write.proofs.put_entries.Goals as goal

pub loop-j-init : goal.loop-j-init
loop-j-init c =
    let a = c.args in
    (refl, rw (file-none a.p.layout a.image.now), rw (file-none a.p.layout a.image.now))

pub put_kept-to-requires : goal.put_kept-to-requires
put_kept-to-requires c =
    let a = c.args in
    let q = c.requires in
    let l = c.loop-j in
    record {
      laid = (q.laid.0, q.laid.1, c.loop-j-test.true);
      j_in_bounds = omega (
        arith,
        l.invariant.0,
        l.invariant.1,
        q.image_in_bounds,
        length_most a.p.layout a.image.now l.j a.p.strings c.loop-j-test.true,
        ap length (file_all a.p a.image.now q.laid.0.placed),
      );
    }

pub loop-j-preserved : goal.loop-j-preserved
loop-j-preserved c =
    let a = c.args in
    let l = c.loop-j in
    let w = c.put_kept-to in
    let g = a.p.layout in
    let s = a.image.now in (
      w.auto.out ∙ l.invariant.0,
      omega (arith, w.ensures.0, l.invariant.1, length_next g s l.j),
      rw (file_next g s l.j)
          (sets_then a.out.now l.out _ (file_to g s l.j) (file_at g s l.j) 0 l.to l.invariant.2
          (l.invariant.1 ∙ sym (zero-add _)) w.ensures.1),
    )

pub returns : goal.returns
returns c =
    let a = c.args in
    let l = c.loop-j in
    let e : l.j ≡ a.p.strings = omega (arith, c.loop-j-test.false) in
    l.invariant.2 ∙ ap (λ (v : List ℕ). sets a.out.now 0 v)
    (ap (file_to a.p.layout a.image.now) e ∙ file_all a.p a.image.now c.requires.laid.0.placed)

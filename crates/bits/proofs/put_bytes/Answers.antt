use Rattle.std.proofs.Common.{refl, arith, length-set}
use lib.Seq.{paste-zero}
use Rattle.bits.proofs.WriteLaws.{copied_more, copied_all}
use Rattle.bits.proofs.put_bytes.Goals as goal

pub loop-i-init : goal.loop-i-init
loop-i-init c = (refl, paste-zero c.args.s.now c.args.at c.args.src.now)

pub loop-i-preserved : goal.loop-i-preserved
loop-i-preserved c =
    let l = c.loop-i in
    let a = c.args in (
      simp length-set l.invariant.0,
      copied_more a.s.now a.src.now l.s a.at l.i l.invariant.1 (omega arith)
          (omega arith),
    )

pub shape_of-s : goal.shape_of-s
shape_of-s c = c.loop-i.invariant.0

pub returns : goal.returns
returns c =
    let l = c.loop-i in
    let a = c.args in
    copied_all a.s.now a.src.now l.s a.at l.i l.invariant.1 c.requires (omega arith)

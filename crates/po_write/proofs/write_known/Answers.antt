-- Zeros, the strings, the file, zeros again.
use mathlib.Core.Path.{refl, sym, ◌∙◌}
use native.Mathlib.Omega.{arith}
use Rattle.po_write.proofs.WorkLaws.{filled_none, all_zeros}
use Rattle.po_write.proofs.write_known.Goals as goal

pub fill-total-requires : goal.fill-total-requires
fill-total-requires c =
    let a = c.args in (
      c.requires.0,
      filled_none a.p.layout a.image.now a.p.strings a.work.now _ _ c.requires.1 refl
          c.clear.ensures,
    )

pub put_file-answer-requires : goal.put_file-answer-requires
put_file-answer-requires c =
    record {
      laid = (c.requires.0, c.fill-total.ensures.1);
      total_value = c.fill-total.ensures.0;
    }

pub clear-requires-2 : goal.clear-requires-2
clear-requires-2 c = omega (arith, c.fill-total.ensures.1.long, c.requires.1)

pub returns : goal.returns
returns c =
    let a = c.args in (
      c.put_file-answer.ensures,
      all_zeros a.p.strings _ _ _ c.requires.1
          (c.fill-total.ensures.1.long ∙ sym c.requires.1) c.clear-2.ensures,
    )

-- Word after word; each number has at most 20 digits.
use Rattle.std.proofs.Common.{[], ◌∷◌, ◌++◌, arith}
use Rattle.text.specs.Text.{decimal, spaced}
use Rattle.text.proofs.TextLaws.{wrote_then}
use Rattle.job_records.specs.Job.{refused_at_line}
use Rattle.job_records.proofs.put_refused.Goals as goal

pub returns : goal.returns
unfolding refused_at_line spaced
returns c =
    let a = c.args in (
      wrote_then a.out.now c.put_number-b.new.out c.put_number.new.out
          (spaced ((0x72 ∷ 0x65 ∷ 0x66 ∷ 0x75 ∷ 0x73 ∷ 0x65 ∷ 0x64 ∷ []) ∷ decimal a.k ∷ []))
          (decimal a.number ++ (10 ∷ [])) 0 _ _
          (wrote_then a.out.now c.put_text-a.new.out c.put_number-b.new.out
          (spaced ((0x72 ∷ 0x65 ∷ 0x66 ∷ 0x75 ∷ 0x73 ∷ 0x65 ∷ 0x64 ∷ []) ∷ [])) (decimal a.k ++ (32 ∷ [])) 0 _ _
          c.put_text-a.ensures c.put_number-b.ensures.0) c.put_number.ensures.0,
      omega
          (arith, c.put_text-a.ensures.0, c.put_number-b.ensures.1, c.put_number.ensures.1),
    )

-- The word, and the number behind it.
use mathlib.Core.List.{[], ◌∷◌, ◌++◌}
use native.Mathlib.Omega.{arith}
use Rattle.text.specs.Text.{decimal, spaced}
use Rattle.text.proofs.TextLaws.{wrote_then}
use Rattle.listing_lines.specs.Lines.{refused_line}
use Rattle.listing_lines.proofs.put_refused.Goals as goal

pub returns : goal.returns
unfolding refused_line spaced
returns c = (
  wrote_then c.args.out.now c.put_text-a.new.out c.put_number.new.out
      (spaced ((0x72 ∷ 0x65 ∷ 0x66 ∷ 0x75 ∷ 0x73 ∷ 0x65 ∷ 0x64 ∷ []) ∷ []))
      (decimal c.args.number ++ (10 ∷ []))
      c.args.at c.put_text-a.result c.put_number.result c.put_text-a.ensures
      c.put_number.ensures.0,
  omega arith,
)

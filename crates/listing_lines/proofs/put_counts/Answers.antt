-- Word after word, each behind the one before; the room falls by what each has at most.
use mathlib.Core.List.{[], ◌∷◌, ◌++◌}
use native.Mathlib.Omega.{arith}
use Rattle.text.specs.Text.{decimal, spaced}
use Rattle.text.proofs.TextLaws.{wrote_then, wrote_word}
use Rattle.listing_lines.specs.Lines.{counts_line}
use Rattle.listing_lines.proofs.put_counts.Goals as goal

pub returns : goal.returns
unfolding counts_line spaced
returns c =
    let w1 = wrote_word c.args.out.now c.put_text-a.new.out c.put_number-b.new.out
    ((0x69 ∷ 0x6D ∷ 0x61 ∷ 0x67 ∷ 0x65 ∷ []) ∷ []) (decimal c.args.len) c.args.at
    c.put_text-a.result c.put_number-b.result c.put_text-a.ensures
    c.put_number-b.ensures.0 in
    let w2 = wrote_word c.args.out.now c.put_number-b.new.out c.put_number-c.new.out
    ((0x69 ∷ 0x6D ∷ 0x61 ∷ 0x67 ∷ 0x65 ∷ []) ∷ (decimal c.args.len) ∷ []) (decimal c.args.strings)
    c.args.at c.put_number-b.result c.put_number-c.result (w1)
    c.put_number-c.ensures.0 in (
      wrote_then c.args.out.now c.put_number-c.new.out c.put_number.new.out
          (spaced ((0x69 ∷ 0x6D ∷ 0x61 ∷ 0x67 ∷ 0x65 ∷ []) ∷ (decimal c.args.len) ∷ (decimal c.args.strings)
          ∷ [])) (decimal c.args.functions ++ (10 ∷ [])) c.args.at c.put_number-c.result
          c.put_number.result (w2) c.put_number.ensures.0,
      omega arith,
    )

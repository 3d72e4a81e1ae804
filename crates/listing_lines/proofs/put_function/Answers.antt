-- Word after word, each behind the one before; the room falls by what each has at most.
use mathlib.Core.List.{[], ◌∷◌, ◌++◌}
use native.Mathlib.Omega.{arith}
use Rattle.text.specs.Text.{decimal, spaced}
use Rattle.text.proofs.TextLaws.{wrote_then, wrote_word}
use Rattle.listing_lines.specs.Lines.{letter, function_line}
use Rattle.bits.specs.Choice.{pick}
use Rattle.listing_lines.proofs.put_function.Goals as goal

pub returns : goal.returns
unfolding function_line spaced
returns c =
    let w1 = wrote_word c.args.out.now c.put_text-a.new.out c.put_number-b.new.out
    ((letter 0x66) ∷ []) (decimal c.args.id) c.args.at c.put_text-a.result
    c.put_number-b.result c.put_text-a.ensures c.put_number-b.ensures.0 in
    let w2 = wrote_word c.args.out.now c.put_number-b.new.out c.put_letter-c.new.out
    ((letter 0x66) ∷ (decimal c.args.id) ∷ []) (letter (pick c.args.large 0x6F 0x70)) c.args.at
    c.put_number-b.result c.put_letter-c.result (w1) c.put_letter-c.ensures in
    let w3 = wrote_word c.args.out.now c.put_letter-c.new.out c.put_number-d.new.out
    ((letter 0x66) ∷ (decimal c.args.id) ∷ (letter (pick c.args.large 0x6F 0x70)) ∷ [])
    (decimal c.args.start) c.args.at c.put_letter-c.result
    c.put_number-d.result (w2) c.put_number-d.ensures.0 in (
      wrote_then c.args.out.now c.put_number-d.new.out c.put_number.new.out
          (spaced ((letter 0x66) ∷ (decimal c.args.id) ∷ (letter (pick c.args.large 0x6F 0x70))
          ∷ (decimal c.args.start) ∷ [])) (decimal c.args.size ++ (10 ∷ [])) c.args.at
          c.put_number-d.result c.put_number.result (w3) c.put_number.ensures.0,
      omega arith,
    )

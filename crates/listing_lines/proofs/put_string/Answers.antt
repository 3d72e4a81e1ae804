-- Word after word, each behind the one before; the room falls by what each has at most.
use mathlib.Core.List.{[], ◌∷◌}
use native.Mathlib.Omega.{arith}
use Rattle.text.specs.Text.{decimal, spaced}
use Rattle.text.proofs.TextLaws.{wrote_word}
use Rattle.listing_lines.specs.Lines.{letter}
use Rattle.bits.specs.Choice.{pick}
use Rattle.listing_lines.proofs.put_string.Goals as goal

pub returns : goal.returns
unfolding spaced
returns c =
    let w1 = wrote_word c.args.out.now c.put_text-a.new.out c.put_number-b.new.out
    ((letter 0x73) ∷ []) (decimal c.args.id) c.args.at c.put_text-a.result
    c.put_number-b.result c.put_text-a.ensures c.put_number-b.ensures.0 in
    let w2 = wrote_word c.args.out.now c.put_number-b.new.out c.put_letter-c.new.out
    ((letter 0x73) ∷ (decimal c.args.id) ∷ []) (letter (pick c.args.wide 0x77 0x6E)) c.args.at
    c.put_number-b.result c.put_letter-c.result (w1) c.put_letter-c.ensures in
    let w3 = wrote_word c.args.out.now c.put_letter-c.new.out c.put_letter-d.new.out
    ((letter 0x73) ∷ (decimal c.args.id) ∷ (letter (pick c.args.wide 0x77 0x6E)) ∷ [])
    (letter (pick c.args.identifier 0x69 0x73)) c.args.at c.put_letter-c.result
    c.put_letter-d.result (w2) c.put_letter-d.ensures in (
      wrote_word c.args.out.now c.put_letter-d.new.out c.put_number.new.out
          ((letter 0x73) ∷ (decimal c.args.id) ∷ (letter (pick c.args.wide 0x77 0x6E))
          ∷ (letter (pick c.args.identifier 0x69 0x73)) ∷ []) (decimal c.args.count) c.args.at
          c.put_letter-d.result c.put_number.result (w3) c.put_number.ensures.0,
      omega arith,
    )

-- The gap, the last field and the line feed, each behind the one before.
use mathlib.Core.List.{[], ◌∷◌, ◌++◌}
use native.Mathlib.Omega.{arith}
use Rattle.text.proofs.TextLaws.{wrote_then}
use Rattle.listing_lines.specs.Lines.{slot_word, gap}
use Rattle.listing_lines.proofs.put_closing.Goals as goal

pub returns : goal.returns
returns c =
    let a = c.args in
    let word = slot_word a.slot in
    let w = wrote_then c.put_gap-a.new.out c.put_slot-b.new.out c.put_text.new.out word (10 ∷ []) _ _ _
    c.put_slot-b.ensures.0 c.put_text.ensures in (
      wrote_then a.out.now c.put_gap-a.new.out c.put_text.new.out (gap a.count) (word ++ (10 ∷ [])) _ _ _
          c.put_gap-a.ensures.0 w,
      omega (arith, c.put_text.ensures.0, c.put_slot-b.ensures.1, c.put_gap-a.ensures.1),
    )

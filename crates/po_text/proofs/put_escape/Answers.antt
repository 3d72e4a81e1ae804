-- Two bytes where the byte is special, else itself.
use mathlib.Core.Path.{refl}
use native.Mathlib.Omega.{arith}
use Rattle.po_text.specs.Written.{escape}
use Rattle.po_text.proofs.put_escape.Goals as goal

pub put_two-requires : goal.put_two-requires
unfolding escape
put_two-requires c =
    let p = c.requires in
    (omega arith, c.letter_of.ensures.1, rw (← c.is_special.ensures, c.if-is_special.true) at p.1)

pub returns-then-is_special : goal.returns-then-is_special
unfolding escape
returns-then-is_special c =
    rw (← c.is_special.ensures, c.if-is_special.true, ← c.letter_of.ensures.0)
    c.put_two.ensures

pub bounds-out-at : goal.bounds-out-at
unfolding escape
bounds-out-at c = omega (arith, rw (← c.is_special.ensures, c.if-is_special.false) at c.requires.1)

pub returns : goal.returns
unfolding escape
returns c = rw (← c.is_special.ensures, c.if-is_special.false) (refl, refl)

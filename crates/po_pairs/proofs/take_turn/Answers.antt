-- The line leads outside the subset, or what is read grows by it.
use mathlib.Core.Path.{sym, ◌∙◌}
use Rattle.po_pairs.proofs.OrderLaws.{never}
use Rattle.po_pairs.proofs.TurnLaws.{turned_astray, line_outside, line_astray, line_read}
use Rattle.po_pairs.proofs.take_turn.Goals as goal

pub returns-in_default : goal.returns-in_default
returns-in_default c =
    let a = c.args in
    turned_astray a.file.now _ _ a.p _ c.astray.ensures
    (line_outside a.file.now a.text.now a.ends.now a.p c.requires.1 c.in_default.ensures)

pub returns-then-is_astray : goal.returns-then-is_astray
returns-then-is_astray c =
    let a = c.args in
    turned_astray a.file.now _ _ a.p _ c.astray-then-is_astray.ensures
    (line_astray a.file.now a.text.now a.ends.now a.p c.requires.1 _ _ c.in-Some.ensures
    (sym (rw c.follow-stand.ensures at c.is_astray.ensures) ∙ c.if-is_astray.true))

pub returns : goal.returns
returns c =
    let a = c.args in
    let line = c.in-Some.ensures in
    let ok = sym (rw c.follow-stand.ensures at c.is_astray.ensures) ∙ c.if-is_astray.false in
    let e = c.put_end-values.ensures in
    record {
      faulty = λ h. never (sym c.if-is_astray.false ∙ c.is_astray.ensures ∙ h);
      sound = λ h. line_read a.file.now a.text.now a.ends.now a.p c.requires.1 _ _ line c.requires.0 ok _ _ _
          c.follow-stand.ensures e.0 e.1;
      onward = λ h. line.onward;
    }

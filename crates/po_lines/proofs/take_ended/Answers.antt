-- The line has a kind by its mark, and its text is closed; each other way out is a line outside the subset.
use mathlib.Core.Path.{sym, ◌∙◌}
use native.Mathlib.Omega.{arith}
use Rattle.po_lines.specs.Kinds.{text_of}
use Rattle.po_lines.proofs.KindLaws.{line, line-size, marked_outside, text_unclosed, line_sound, sound_long, not_outside}
use Rattle.po_lines.proofs.take_ended.Goals as goal

pub returns-then-is_outside : goal.returns-then-is_outside
returns-then-is_outside c =
    let a = c.args in
    marked_outside a.file.now a.at a.end c.requires.0 _ c.marked_as-kind.ensures (sym c.is_outside.ensures
    ∙ c.if-is_outside.true)

pub returns-in_err-behind : goal.returns-in_err-behind
returns-in_err-behind c =
    let a = c.args in
    rw c.from_residual.ensures
    (text_unclosed a.file.now a.at a.end c.requires.0 _ c.marked_as-kind.ensures c.in_err-behind.ensures.1.closed)

pub returns : goal.returns
returns c =
    let a = c.args in
    let p = c.in_ok-behind.ensures in
    let i = c.requires.0 in
    record {
      text = text_of c.marked_as-kind.result (line a.file.now a.at a.end i);
      wrote = p.wrote;
      first = line_sound a.file.now a.at a.end i _ c.marked_as-kind.ensures p.closed;
      onward = omega (arith, i.from);
      within = omega (arith, i.within);
      few = omega (arith, p.few, line-size a.file.now a.at a.end i, i.from);
      long = sound_long a.file.now a.at a.end i _ c.marked_as-kind.ensures;
      blank = λ h. rw h;
      some = not_outside a.file.now a.at a.end i _ c.marked_as-kind.ensures
          (sym c.is_outside.ensures ∙ c.if-is_outside.false);
    }

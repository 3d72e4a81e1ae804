-- The first byte below 32 is the line feed, a raw byte, or there is none.
use Rattle.po_lines.proofs.LineLaws.{line_found, line_open, line_raw}
use Rattle.po_lines.proofs.line_end.Goals as goal
use Rattle.po_lines.proofs.line_end.Goals.{then-file-end-via-then-file-end, then-file-end-via-else-file-end+then-file-end-ne10}

pub returns-then-file-end : goal.returns-then-file-end
returns-then-file-end c =
    let a = c.args in
    let e = c.first_low-end.ensures in
    elim c.then-file-end.branch [
      | then-file-end-via-then-file-end w ↦ line_open a.file.now a.at _ e c.requires w.if-file-end.true
      | then-file-end-via-else-file-end+then-file-end-ne10 w ↦
          line_raw a.file.now a.at _ e w.if-file-end.false w.if-file-end-ne10.true
    ]

pub returns : goal.returns
returns c =
    let a = c.args in
    line_found a.file.now a.at _ c.first_low-end.ensures c.if-file-end.false c.if-file-end-ne10.false

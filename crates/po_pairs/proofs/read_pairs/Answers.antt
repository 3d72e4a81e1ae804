-- The tests come in the order of the definition; the values of a file in the subset are held, and judged as pairs where they stand.
use mathlib.Core.Path.{sym, ◌∙◌}
use Rattle.po_pairs.proofs.PairLaws.{not_utf8_lem, not_ended_lem, unread, file-answered}
use Rattle.po_pairs.proofs.read_pairs.Goals as goal
use Rattle.po_pairs.proofs.read_pairs.Goals.{then-not-is_utf8-via-then-not-is_utf8}
use Rattle.po_pairs.proofs.read_pairs.Goals.{then-not-is_utf8-via-else-not-is_utf8+then-not-is_ended}

pub returns-then-not-is_utf8 : goal.returns-then-not-is_utf8
returns-then-not-is_utf8 c =
    let a = c.args in
    elim c.then-not-is_utf8.branch [
      | then-not-is_utf8-via-then-not-is_utf8 w ↦
          rw (not_utf8_lem a.file.now (sym c.is_utf8.ensures ∙ w.if-not-is_utf8.true))
      | then-not-is_utf8-via-else-not-is_utf8+then-not-is_ended w ↦
          rw (not_ended_lem a.file.now (sym w.is_ended.ensures ∙ w.if-not-is_ended.true))
    ]

pub returns-in_err-values : goal.returns-in_err-values
returns-in_err-values c =
    let a = c.args in
    rw (c.from_residual.ensures, unread a.file.now c.in_err-values.ensures)

pub returns : goal.returns
returns c =
    let p = c.pair_up.ensures in
    let a = c.args in
    let h = c.in_ok-values.ensures in
    file-answered a.file.now (sym c.is_utf8.ensures ∙ c.if-not-is_utf8.false)
    (sym c.is_ended.ensures
    ∙ c.if-not-is_ended.false) h.0 _ _ _ h.2 _ h.1 _ p.value p.chained_pairs

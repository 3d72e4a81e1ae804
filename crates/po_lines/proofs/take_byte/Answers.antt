-- Each arm stores what the definition gives there, one byte or none, and leaves the text where the definition has it.
use mathlib.Core.Path.{refl, sym}
use native.Mathlib.Nat.{add-zero}
use native.Mathlib.Omega.{arith}
use borrow.Author.Tests.{eq-eqb, ne_eqb}
use Rattle.po_lines.specs.Quoted.{quote_next, given}
use Rattle.po_lines.proofs.take_byte.Goals as goal

pub returns-then-b-eq-QUOTE_MARK : goal.returns-then-b-eq-QUOTE_MARK
unfolding given quote_next
returns-then-b-eq-QUOTE_MARK c =
    let at = c.args.at in
    let q = c.in-Open.is in
    let e = eq-eqb _ _ c.if-b-eq-QUOTE_MARK.true in
    record { wrote = rw (q, e) (sym (add-zero at), refl); few = omega arith; next = rw (q, e) }

pub returns-then-b-eq-BACKSLASH : goal.returns-then-b-eq-BACKSLASH
unfolding given quote_next
returns-then-b-eq-BACKSLASH c =
    let at = c.args.at in
    let q = c.in-Open.is in
    let n = ne_eqb _ _ c.if-b-eq-QUOTE_MARK.false in
    let e = eq-eqb _ _ c.if-b-eq-BACKSLASH.true in
    record { wrote = rw (q, n, e) (sym (add-zero at), refl); few = omega arith; next = rw (q, n, e) }

pub returns-else-b-eq-BACKSLASH : goal.returns-else-b-eq-BACKSLASH
unfolding given quote_next
returns-else-b-eq-BACKSLASH c =
    let q = c.in-Open.is in
    let n = ne_eqb _ _ c.if-b-eq-QUOTE_MARK.false in
    let m = ne_eqb _ _ c.if-b-eq-BACKSLASH.false in
    record { wrote = rw (q, n, m) (refl, refl); few = omega arith; next = rw (q, n, m) }

pub returns-in-Escape : goal.returns-in-Escape
unfolding given
returns-in-Escape c =
    rw (c.in-Escape.is, c.meant.ensures)
    (record { wrote = (refl, refl); few = omega arith; next = c.after_escape.ensures })

pub returns-in-Closed : goal.returns-in-Closed
unfolding given quote_next
returns-in-Closed c =
    rw c.in-Closed.is
    (record { wrote = (sym (add-zero c.args.at), refl); few = omega arith; next = refl })

pub returns-in-Wrong : goal.returns-in-Wrong
unfolding given quote_next
returns-in-Wrong c =
    rw c.in-Wrong.is
    (record { wrote = (sym (add-zero c.args.at), refl); few = omega arith; next = refl })

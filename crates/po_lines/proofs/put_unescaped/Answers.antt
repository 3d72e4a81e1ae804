use mathlib.Core.Path.{ap, sym, ◌∙◌}
use native.Mathlib.Omega.{arith}
use lib.ListN.{length}
use Rattle.po_lines.specs.declared.Quote.{Quote}
use Rattle.po_lines.specs.Quoted.{is_closed}
use Rattle.po_lines.proofs.QuoteLaws.{end_turn, end_last, count_turn, put_turn, text_last}
use Rattle.po_lines.proofs.put_unescaped.Goals as goal

pub loop-b-preserved : goal.loop-b-preserved
loop-b-preserved c =
    let p = c.take_byte-step in
    let l = c.loop-b in
    let i = l.b-index in
    let s = c.args.text.now in
    let n = p.ensures.next in (
      p.auto.out ∙ l.invariant.0,
      omega (arith, l.invariant.1, p.ensures.few),
      end_turn l.quote s i _ (omega arith) n ∙ l.invariant.2,
      omega (arith, l.invariant.3, p.ensures.wrote.0, count_turn l.quote s i _ (omega arith) n),
      put_turn l.quote s i _ (omega arith) n l.out _ _ l.to _ p.ensures.wrote l.invariant.4,
    )

pub returns-then-is_closed : goal.returns-then-is_closed
returns-then-is_closed c =
    let l = c.loop-b in
    let s = c.args.text.now in
    let e = text_last l.quote s l.b-index (omega arith) in
    record {
      wrote = (omega (arith, l.invariant.3, ap length e), rw e at l.invariant.4);
      few = omega (arith, l.invariant.1);
      closed = ap (λ (q : Quote). is_closed q) (sym l.invariant.2 ∙ end_last l.quote s l.b-index (omega arith))
          ∙ sym c.is_closed.ensures
          ∙ c.if-is_closed.true;
    }

pub returns-else-is_closed : goal.returns-else-is_closed
returns-else-is_closed c =
    let l = c.loop-b in
    let s = c.args.text.now in
    let e = text_last l.quote s l.b-index (omega arith) in (
      l.to,
      record {
        wrote = (omega (arith, l.invariant.3, ap length e), rw e at l.invariant.4);
        few = omega (arith, l.invariant.1);
        closed = ap (λ (q : Quote). is_closed q) (sym l.invariant.2 ∙ end_last l.quote s l.b-index (omega arith))
            ∙ sym c.is_closed.ensures
            ∙ c.if-is_closed.false;
      },
    )

-- 15 for a layout byte that is none, and nothing lent is used; else what the listing answers, as one number.
use native.Mathlib.Omega.{arith}
use Rattle.hbc.proofs.NumberLaws.{States, no_layout_codes, layout_codes, no_layout_work, layout_work}
use Rattle.hbc.proofs.nepuladrim_list.Goals as goal

pub returns-then-layout-gt-LAST_LAYOUT : goal.returns-then-layout-gt-LAST_LAYOUT
returns-then-layout-gt-LAST_LAYOUT c =
    record {
      codes = no_layout_codes _ _ _ (omega arith);
      index_after = no_layout_work _ _ _ (omega arith);
    }

pub returns : goal.returns
returns c =
    let a = c.args in
    let y : States a.layout c.layout_of.result
    = record { known = omega (arith, c.if-layout-gt-LAST_LAYOUT.false); is = c.layout_of.ensures } in
    record {
      codes = layout_codes _ _ _ _ _ _ _ y c.list.ensures.answers c.number.ensures;
      index_after = layout_work _ _ _ _ y _ c.list.ensures.index_after;
    }

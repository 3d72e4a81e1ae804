-- 15 for a layout byte that is none, and no word is written; else what filling answers, as one number.
use native.Mathlib.Omega.{arith}
use Rattle.hbc.proofs.NumberLaws.{States, no_layout_count, layout_count, no_layout_work, layout_work}
use Rattle.hbc.proofs.nepuladrim_fill_index.Goals as goal

pub returns-then-layout-gt-LAST_LAYOUT : goal.returns-then-layout-gt-LAST_LAYOUT
returns-then-layout-gt-LAST_LAYOUT c =
    record {
      value = no_layout_count _ _ (omega arith);
      index_after = no_layout_work _ _ _ (omega arith);
    }

pub returns : goal.returns
returns c =
    let a = c.args in
    let y : States a.layout c.layout_of.result
    = record { known = omega (arith, c.if-layout-gt-LAST_LAYOUT.false); is = c.layout_of.ensures } in
    record {
      value = layout_count _ _ _ y _ _ c.fill_index.ensures.0 c.number.ensures;
      index_after = layout_work _ _ _ _ y _ c.fill_index.ensures.1;
    }

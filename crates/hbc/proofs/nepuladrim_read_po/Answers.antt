-- 15 for a layout byte or a mode byte that is none, and nothing lent is used; else what the file answers, as one number.
use native.Mathlib.Omega.{arith}
use Rattle.hbc.proofs.NumberLaws.{States, Chooses}
use Rattle.hbc.proofs.NumberLaws.{no_layout_codes, no_mode_codes, mode_codes, no_layout_space, no_mode_space, mode_space}
use Rattle.hbc.proofs.nepuladrim_read_po.Goals as goal

pub returns-then-layout-gt-LAST_LAYOUT : goal.returns-then-layout-gt-LAST_LAYOUT
returns-then-layout-gt-LAST_LAYOUT c =
    record {
      codes = no_layout_codes _ _ _ (omega arith);
      leaves_space = no_layout_space _ _ _ _ _ _ _ _ (omega arith);
    }

pub returns-then-mode-gt-LAST_MODE : goal.returns-then-mode-gt-LAST_MODE
returns-then-mode-gt-LAST_MODE c =
    let k = c.if-layout-gt-LAST_LAYOUT.false in
    let m = c.if-mode-gt-LAST_MODE.true in
    record {
      codes = no_mode_codes _ _ _ _ (omega (arith, k)) (omega (arith, m));
      leaves_space = no_mode_space _ _ _ _ _ _ _ _ (omega (arith, k)) (omega (arith, m));
    }

pub returns : goal.returns
returns c =
    let a = c.args in
    let y : States a.layout c.layout_of.result
    = record { known = omega (arith, c.if-layout-gt-LAST_LAYOUT.false); is = c.layout_of.ensures } in
    let z : Chooses a.mode c.mode_of.result
    = record { known = omega (arith, c.if-mode-gt-LAST_MODE.false); is = c.mode_of.ensures } in
    record {
      codes = mode_codes _ _ _ _ _ y z _ _ _ _ c.read_po.ensures.answers c.number.ensures;
      leaves_space = mode_space _ _ _ _ _ _ _ _ _ _ y z _ _ _ c.read_po.ensures.leaves_space;
    }

-- 15 for a layout byte or a mode byte that is none, and the index is not used; else the reason, as words.
use native.Mathlib.Omega.{arith}
use lib.ListN.{length}
use Rattle.string_reasons.specs.Reasons.{reason_of}
use Rattle.hbc.proofs.NumberLaws.{States, Chooses}
use Rattle.hbc.proofs.NumberLaws.{no_layout_codes, no_mode_codes, reason_codes, no_layout_in, no_mode_in, mode_in}
use Rattle.hbc.proofs.nepuladrim_why.Goals as goal

pub returns-then-layout-gt-LAST_LAYOUT : goal.returns-then-layout-gt-LAST_LAYOUT
returns-then-layout-gt-LAST_LAYOUT c =
    record {
      codes = no_layout_codes _ _ _ (omega arith);
      index_after = no_layout_in _ _ _ _ (omega arith);
    }

pub returns-then-mode-gt-LAST_MODE : goal.returns-then-mode-gt-LAST_MODE
returns-then-mode-gt-LAST_MODE c =
    let k = c.if-layout-gt-LAST_LAYOUT.false in
    let m = c.if-mode-gt-LAST_MODE.true in
    record {
      codes = no_mode_codes _ _ _ _ (omega (arith, k)) (omega (arith, m));
      index_after = no_mode_in _ _ _ _ (omega (arith, k)) (omega (arith, m));
    }

pub returns : goal.returns
returns c =
    let a = c.args in
    let e = c.why-reason.ensures in
    let y : States a.layout c.layout_of.result
    = record { known = omega (arith, c.if-layout-gt-LAST_LAYOUT.false); is = c.layout_of.ensures } in
    let z : Chooses a.mode c.mode_of.result
    = record { known = omega (arith, c.if-mode-gt-LAST_MODE.false); is = c.mode_of.ensures } in
    record {
      codes = reason_codes a.layout a.mode
          (λ l m. reason_of m l a.image.now (length a.index.now) a.id a.value.now) _ _ y z _ _ e.0 _ _ _
          c.put_reason.ensures;
      index_after = mode_in _ _ _ _ _ _ y z _ e.1;
    }

-- 15 for a layout byte or a mode byte that is none; else what the patch answers, as one number.
use native.Mathlib.Omega.{arith}
use Rattle.hbc.proofs.NumberLaws.{no_layout_codes, no_mode_codes, mode_codes}
use Rattle.hbc.proofs.nepuladrim_patch_string_by_id.Goals as goal

pub returns-then-layout-gt-LAST_LAYOUT : goal.returns-then-layout-gt-LAST_LAYOUT
returns-then-layout-gt-LAST_LAYOUT c = no_layout_codes _ _ _ (omega arith)

pub returns-then-mode-gt-LAST_MODE : goal.returns-then-mode-gt-LAST_MODE
returns-then-mode-gt-LAST_MODE c =
    no_mode_codes _ _ _ _ (omega (arith, c.if-layout-gt-LAST_LAYOUT.false)) (omega (arith, c.if-mode-gt-LAST_MODE.true))

pub returns : goal.returns
returns c =
    mode_codes _ _ _ _ _ (record { known = omega (arith, c.if-layout-gt-LAST_LAYOUT.false); is = c.layout_of.ensures })
    (record { known = omega (arith, c.if-mode-gt-LAST_MODE.false); is = c.mode_of.ensures }) _ _ _ _
    c.patch_string_by_id.ensures c.number.ensures

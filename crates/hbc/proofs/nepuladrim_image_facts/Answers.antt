use native.Mathlib.Omega.{arith}
use Rattle.hbc.proofs.NumberLaws.{no_layout_codes, layout_codes}
use Rattle.hbc.proofs.nepuladrim_image_facts.Goals as goal

pub returns-then-layout-gt-LAST_LAYOUT : goal.returns-then-layout-gt-LAST_LAYOUT
returns-then-layout-gt-LAST_LAYOUT c = no_layout_codes _ _ _ (omega arith)

pub returns : goal.returns
returns c =
    layout_codes _ _ _ _ _ _ _ (record { known = omega arith; is = c.layout_of.ensures })
    c.image_facts.ensures c.number.ensures

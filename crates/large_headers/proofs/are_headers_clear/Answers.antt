use mathlib.Core.Path.{ap}
use mathlib.Core.Bool.{not}
use native.Mathlib.Omega.{arith}
use Rattle.bits.proofs.PassLaws.{pass_none, pass_next}
use Rattle.large_headers.proofs.ClearLaws.{not_all_clear, clear_end}
use Rattle.large_headers.proofs.are_headers_clear.Goals as goal

pub loop-j-init : goal.loop-j-init
loop-j-init c = pass_none _

pub returns-then-not-is_header_clear : goal.returns-then-not-is_header_clear
returns-then-not-is_header_clear c =
    not_all_clear _ _ c.loop-j.j _ (omega (arith, c.requires.n_value)) c.is_header_clear.ensures (ap not c.if-not-is_header_clear.true)

pub loop-j-preserved : goal.loop-j-preserved
loop-j-preserved c =
    let l = c.loop-j in
    pass_next _ l.j _ c.is_header_clear.ensures (ap not c.if-not-is_header_clear.false) l.invariant

pub returns : goal.returns
returns c =
    let l = c.loop-j in
    clear_end _ _ l.j _ c.requires.n_value (omega arith) l.invariant

use mathlib.Core.Path.{◌≡◌, ap, ◌∙◌}
use mathlib.Core.Bool.{not}
use native.Mathlib.Omega.{arith}
use Rattle.bits.proofs.PassLaws.{pass_none}
use Rattle.string_reasons.proofs.PathLaws.{overlaps_here, apart_next, overlaps_none}
use Rattle.string_reasons.proofs.lowest_overlap.Goals as goal

pub loop-i-init : goal.loop-i-init
loop-i-init c = λ s laid ix. pass_none _

pub string_in-other-requires : goal.string_in-other-requires
string_in-other-requires c = (c.requires.0, omega arith)

pub is_apart-requires : goal.is_apart-requires
is_apart-requires c = (c.string_in-own.ensures.at_bound, c.string_in-other.ensures.at_bound)

pub returns-then-not-is_apart : goal.returns-then-not-is_apart
returns-then-not-is_apart c =
    λ s laid ix.
    overlaps_here _ s laid _ _ _ _ (c.string_in-own.ensures.by_index s laid ix).place
    (c.string_in-other.ensures.by_index s laid ix).place _
    c.is_apart.ensures (c.loop-i.invariant s laid ix) c.loop-i-test.true (ap not c.if-not-is_apart.true)

pub loop-i-preserved : goal.loop-i-preserved
loop-i-preserved c =
    λ s laid ix.
    apart_next _ s laid _ _ _ _ (c.string_in-own.ensures.by_index s laid ix).place
    (c.string_in-other.ensures.by_index s laid ix).place _
    c.is_apart.ensures (c.loop-i.invariant s laid ix) (ap not c.if-not-is_apart.false)

pub returns : goal.returns
returns c =
    λ s laid ix.
    let end : c.args.p.strings ≡ c.loop-i.i = omega arith in
    end ∙ overlaps_none _ s laid _ _ (omega arith) (c.loop-i.invariant s laid ix)

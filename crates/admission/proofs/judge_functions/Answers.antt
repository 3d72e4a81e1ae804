-- The tests in their order; headers are compared only where each is known to stand in the tail.
use mathlib.Core.Path.{◌≡◌, ap}
use mathlib.Core.Bool.{true, not}
use Rattle.sections.proofs.SectionLaws.{sectioned}
use Rattle.function_table.specs.Functions.{functions_in_tail}
use Rattle.admission.proofs.StageLaws.{InTail, functions_are_in, is-in-tail}
use Rattle.admission.proofs.StageLaws.{not_in_tail, headers_are_in, bad_debug, not-apart, good_functions}
use Rattle.admission.proofs.judge_functions.Goals as goal
use Rattle.admission.proofs.judge_functions.Goals.{Else-not-are_functions_in_tail, Else-not-is_debug_in_tail}

functions_in_lem : (c : Else-not-are_functions_in_tail) → let a = c.args in functions_in_tail a.p.layout a.image.now ≡ true
functions_in_lem c = functions_are_in c.args.p _ _ c.are_functions_in_tail.ensures (ap not c.if-not-are_functions_in_tail.false)

in_tail : (c : Else-not-is_debug_in_tail) → let a = c.args in InTail a.p.layout a.image.now
in_tail c = is-in-tail c.args.p _ (functions_are_in c.args.p _ _ c.are_functions_in_tail.ensures
    (ap not c.if-not-are_functions_in_tail.false)) _
    c.is_debug_in_tail.ensures (ap not c.if-not-is_debug_in_tail.false)

pub returns-then-not-are_functions_in_tail : goal.returns-then-not-are_functions_in_tail
returns-then-not-are_functions_in_tail c = not_in_tail _ _ _ c.are_functions_in_tail.ensures (ap not c.if-not-are_functions_in_tail.true)

pub returns-then-not-is_debug_in_tail : goal.returns-then-not-is_debug_in_tail
returns-then-not-is_debug_in_tail c =
    bad_debug _ _ (functions_in_lem (goal.at.returns-then-not-is_debug_in_tail c).Else-not-are_functions_in_tail) _
    c.is_debug_in_tail.ensures (ap not c.if-not-is_debug_in_tail.true)

pub are_headers_apart-requires : goal.are_headers_apart-requires
are_headers_apart-requires c =
    let p = c.requires in
    record {
      readable = (
        p.fits,
        headers_are_in c.args.p _
            (functions_in_lem (goal.at.are_headers_apart-requires c).Else-not-are_functions_in_tail),
      );
      n_value = (sectioned c.args.p _ p).functions;
    }

pub returns-then-not-are_headers_apart : goal.returns-then-not-are_headers_apart
returns-then-not-are_headers_apart c =
    not-apart _ _ (in_tail (goal.at.returns-then-not-are_headers_apart c).Else-not-is_debug_in_tail) _ c.are_headers_apart.ensures
    (ap not c.if-not-are_headers_apart.true)

pub returns : goal.returns
returns c =
    good_functions _ _ (in_tail (goal.at.returns c).Else-not-is_debug_in_tail) _ c.are_headers_apart.ensures
    (ap not c.if-not-are_headers_apart.false)

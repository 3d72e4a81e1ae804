-- One way out for each condition, in the order of 01; each later one has all before it at hand.
use mathlib.Core.Path.{ap}
use mathlib.Core.Bool.{not}
use Rattle.functions.proofs.JudgeLaws.{Chosen, Clear, Grounded, Short, Held}
use Rattle.functions.proofs.JudgeLaws.{is_alone_lem, is_clear, is_grounded, is-short, is_held}
use Rattle.functions.proofs.JudgeLaws.{not_alone, debug_before, put_in_nothing, too_long, size-beyond}
use Rattle.functions.proofs.JudgeLaws.{fields_beyond, all_fit}
use Rattle.functions.proofs.judge_body.Goals as goal
use Rattle.functions.proofs.judge_body.Goals.{Else-is_from_nothing, Else-is_too_long, Else-not-does_size_fit}
use Rattle.functions.proofs.judge_body.Goals.{Else-not-is_debug_past, Start}
use Rattle.functions.proofs.judge_body.Goals.{then-not-stands_alone-via-then-not-stands_alone}
use Rattle.functions.proofs.judge_body.Goals.{then-not-stands_alone-via-else-not-stands_alone+then-not-is_debug_past}
use Rattle.functions.proofs.judge_body.Goals.{then-not-does_size_fit-via-then-not-does_size_fit}
use Rattle.functions.proofs.judge_body.Goals.{then-not-does_size_fit-via-else-not-does_size_fit+then-not-fields_fit}

chosen : (c : Start) → Chosen c.args.p.layout c.args.image.now c.args.id c.args.f
chosen c = record { admitted = c.requires.laid.admitted; known = c.requires.id_bound.0; is = c.requires.id_bound.1 }

clear : (c : Else-not-is_debug_past) → Clear c.args.p.layout c.args.image.now c.args.id c.args.body.now c.args.f
clear c =
    is_clear (is_alone_lem c.args.body.now (record {
      admitted = c.requires.laid.admitted;
      known = c.requires.id_bound.0;
      is = c.requires.id_bound.1;
    }) _ c.stands_alone.ensures (ap not c.if-not-stands_alone.false)) _ c.is_debug_past.ensures
    (ap not c.if-not-is_debug_past.false)

grounded : (c : Else-is_from_nothing) → Grounded c.args.p.layout c.args.image.now c.args.id c.args.body.now c.args.f
grounded c =
    is_grounded (is_clear (is_alone_lem c.args.body.now
    (record { admitted = c.requires.laid.admitted; known = c.requires.id_bound.0; is = c.requires.id_bound.1 }) _
    c.stands_alone.ensures (ap not c.if-not-stands_alone.false)) _ c.is_debug_past.ensures (ap not c.if-not-is_debug_past.false))
    _ c.is_from_nothing.ensures c.if-is_from_nothing.false

short : (c : Else-is_too_long) → Short c.args.p.layout c.args.image.now c.args.id c.args.body.now c.args.f
short c =
    is-short (is_grounded (is_clear (is_alone_lem c.args.body.now
    (record { admitted = c.requires.laid.admitted; known = c.requires.id_bound.0; is = c.requires.id_bound.1 }) _
    c.stands_alone.ensures (ap not c.if-not-stands_alone.false)) _ c.is_debug_past.ensures (ap not c.if-not-is_debug_past.false))
    _ c.is_from_nothing.ensures c.if-is_from_nothing.false) _ c.is_too_long.ensures c.if-is_too_long.false

held : (c : Else-not-does_size_fit) → Held c.args.p.layout c.args.image.now c.args.id c.args.body.now c.args.f
held c =
    is_held (is-short (is_grounded (is_clear (is_alone_lem c.args.body.now
    (record { admitted = c.requires.laid.admitted; known = c.requires.id_bound.0; is = c.requires.id_bound.1 }) _
    c.stands_alone.ensures (ap not c.if-not-stands_alone.false)) _ c.is_debug_past.ensures (ap not c.if-not-is_debug_past.false))
    _ c.is_from_nothing.ensures c.if-is_from_nothing.false) _ c.is_too_long.ensures c.if-is_too_long.false) _
    c.does_size_fit.ensures (ap not c.if-not-does_size_fit.false)

pub returns-then-not-stands_alone : goal.returns-then-not-stands_alone
returns-then-not-stands_alone c =
    let z : Chosen c.args.p.layout c.args.image.now c.args.id c.args.f = chosen (goal.at.returns-then-not-stands_alone c).Start in
    elim c.then-not-stands_alone.branch [
      | then-not-stands_alone-via-then-not-stands_alone w ↦
          not_alone c.args.body.now z _ c.stands_alone.ensures (ap not w.if-not-stands_alone.true)
      | then-not-stands_alone-via-else-not-stands_alone+then-not-is_debug_past w ↦
          debug_before (is_alone_lem c.args.body.now z _ c.stands_alone.ensures (ap not w.if-not-stands_alone.false)) _
          w.is_debug_past.ensures (ap not w.if-not-is_debug_past.true)
    ]

pub returns-then-is_from_nothing : goal.returns-then-is_from_nothing
returns-then-is_from_nothing c =
    put_in_nothing (clear (goal.at.returns-then-is_from_nothing c).Else-not-is_debug_past) _ c.is_from_nothing.ensures
    c.if-is_from_nothing.true

pub returns-then-is_too_long : goal.returns-then-is_too_long
returns-then-is_too_long c =
    too_long (grounded (goal.at.returns-then-is_too_long c).Else-is_from_nothing) _ c.is_too_long.ensures c.if-is_too_long.true

pub returns-then-not-does_size_fit : goal.returns-then-not-does_size_fit
returns-then-not-does_size_fit c =
    let z : Short c.args.p.layout c.args.image.now c.args.id c.args.body.now c.args.f
    = short (goal.at.returns-then-not-does_size_fit c).Else-is_too_long in
    elim c.then-not-does_size_fit.branch [
      | then-not-does_size_fit-via-then-not-does_size_fit w ↦
          size-beyond z _ c.does_size_fit.ensures (ap not w.if-not-does_size_fit.true)
      | then-not-does_size_fit-via-else-not-does_size_fit+then-not-fields_fit w ↦
          fields_beyond (is_held z _ c.does_size_fit.ensures (ap not w.if-not-does_size_fit.false)) _ w.fields_fit.ensures
          (ap not w.if-not-fields_fit.true)
    ]

pub returns : goal.returns
returns c = all_fit (held (goal.at.returns c).Else-not-does_size_fit) _ c.fields_fit.ensures (ap not c.if-not-fields_fit.false)

-- Three ways out: the image is refused, there is no such string, or the strings of a pass that starts at it.
use Rattle.std.proofs.lemmas.Result.{err_from_is_err_and}
use mathlib.Core.Path.{refl, sym, ◌∙◌}
use native.Mathlib.Omega.{arith}
use lib.ListN.{length}
use Rattle.sections.specs.Places.{Laid}
use Rattle.admission.proofs.AnswerLaws.{is-laid}
use Rattle.facts.proofs.PassLaws.{from_refused, from_none, from_strings, least_told}
use Rattle.facts.proofs.string_facts_from.Goals as goal
use Rattle.facts.proofs.string_facts_from.Goals.{In_ok-p}

-- the image is admitted
laid : (c : In_ok-p) → Laid c.in_ok-p.p c.args.image.now
laid c = is-laid _ _ _ c.admit.ensures _ c.in_ok-p.was (λ i. (c.type_inv.image i).fits)

pub returns-in_err-p : goal.returns-in_err-p
returns-in_err-p c =
    let a = c.args in
    let e = err_from_is_err_and c.from_residual.result c.from_residual.ensures.1 in
    rw (e.1, e.2) (from_refused a.layout a.image.now a.id _ a.out.now _ c.admit.ensures _ c.in_err-p.was)

pub returns-then-p-id : goal.returns-then-p-id
returns-then-p-id c =
    let a = c.args in
    from_none a.layout a.image.now a.id _ a.out.now _ (sym c.admit.ensures ∙ c.in_ok-p.was)
    c.if-p-id.true

pub string_from-requires : goal.string_from-requires
string_from-requires c =
    let here = laid (goal.at.string_from-requires c).In_ok-p in
    let e = c.first_string-first.ensures in
    record {
      laid = here;
      cursor_of = (e.0 _ _ here.placed, omega (arith, e.1), c.if-p-id.false);
    }

pub put_strings-requires : goal.put_strings-requires
put_strings-requires c =
    let a = c.args in
    let e = c.string_from.ensures in
    let n = least_told _ (length a.out.now) _ c.least-n.ensures.0 in
    record {
      laid = (laid (goal.at.put_strings-requires c).In_ok-p, e.0);
      n_bound = (omega (arith, e.1, n.1, c.if-p-id.false), n.0);
    }

pub returns : goal.returns
returns c =
    let a = c.args in
    from_strings a.layout a.image.now a.id _ a.out.now _
    (sym c.admit.ensures ∙ c.in_ok-p.was) _ _ c.least-n.ensures.0 c.string_from.ensures.1
    refl _ c.put_strings.ensures

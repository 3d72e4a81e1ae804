-- The image is refused, or its string was looked for.
use Rattle.std.proofs.lemmas.Result.{err_from_is_err_and}
use mathlib.Core.Path.{sym, ◌∙◌}
use Rattle.sections.specs.Places.{Laid}
use Rattle.admission.proofs.AnswerLaws.{is-laid}
use Rattle.reader.proofs.ReadingLaws.{StringSought, string_refused, string_sought}
use Rattle.reader.proofs.string.Goals as goal
use Rattle.reader.proofs.string.Goals.{In_ok-p}

-- the image is admitted
laid : (c : In_ok-p) → Laid c.in_ok-p.p c.args.image.now
laid c = is-laid _ _ _ c.admit.ensures _ c.in_ok-p.was (λ i. (c.type_inv.image i).fits)

pub returns-in_err-p : goal.returns-in_err-p
returns-in_err-p c =
    let e = err_from_is_err_and c.from_residual.result c.from_residual.ensures.1 in
    rw (e.1, e.2) (string_refused _ _ _ c.admit.ensures _ _ c.in_err-p.was)

pub locate-requires : goal.locate-requires
locate-requires c = laid (goal.at.locate-requires c).In_ok-p

pub returns : goal.returns
returns c =
    string_sought
    (record {
      answer = sym c.admit.ensures ∙ c.in_ok-p.was;
      laid = laid (goal.at.returns c).In_ok-p;
      located = c.locate.ensures;
    })

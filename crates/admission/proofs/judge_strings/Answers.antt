-- 4 before 5: strings are judged only where the kinds are good.
use mathlib.Core.Path.{◌≡◌, ap}
use mathlib.Core.Bool.{true, not}
use Rattle.string_tables.specs.Kinds.{kinds_good}
use Rattle.admission.proofs.StageLaws.{bad_kinds, good_kinds, bad_strings, good_strings}
use Rattle.admission.proofs.judge_strings.Goals as goal
use Rattle.admission.proofs.judge_strings.Goals.{Else-not-are_kinds_good}

-- the first test passes
kinds-are : (c : Else-not-are_kinds_good) → let a = c.args in kinds_good a.p.layout a.image.now ≡ true
kinds-are c = good_kinds c.args.p _ _ c.are_kinds_good.ensures (ap not c.if-not-are_kinds_good.false)

pub returns-then-not-are_kinds_good : goal.returns-then-not-are_kinds_good
returns-then-not-are_kinds_good c = bad_kinds _ _ _ c.are_kinds_good.ensures (ap not c.if-not-are_kinds_good.true)

pub returns-then-not-are_strings_good : goal.returns-then-not-are_strings_good
returns-then-not-are_strings_good c =
    bad_strings _ _ (kinds-are (goal.at.returns-then-not-are_strings_good c).Else-not-are_kinds_good) _ c.are_strings_good.ensures
    (ap not c.if-not-are_strings_good.true)

pub returns : goal.returns
returns c =
    good_strings _ _ (kinds-are (goal.at.returns c).Else-not-are_kinds_good) _ c.are_strings_good.ensures
    (ap not c.if-not-are_strings_good.false)

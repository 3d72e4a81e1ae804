-- A function that is read has its header in the tail; its body and its info place are tested after that.
use mathlib.Core.Bool.{not}
use mathlib.Core.Path.{sym, ◌∙◌, ap}
use Rattle.function_table.proofs.TailLaws.{BodyTested, refused_out, body_out, body_in, tail_is, place_is}
use Rattle.function_table.proofs.is_function_in_tail.Goals as goal
use Rattle.function_table.proofs.is_function_in_tail.Goals.{After-is_in_tail}

-- the function is read, and its body tested
tested : (c : After-is_in_tail) → let a = c.args in
    BodyTested a.p.layout a.image.now a.i c.in-Ok.f c.is_in_tail.result
tested c = record {
  found = sym c.in-Ok.is ∙ c.read_function.ensures.0;
  test = tail_is _ _ c.requires.placed _ _ _ c.is_in_tail.ensures;
}

pub returns-in_default : goal.returns-in_default
returns-in_default c = refused_out _ _ _ _ c.read_function.ensures.0 _ c.in_default.is

pub returns-then-is_in_tail : goal.returns-then-is_in_tail
returns-then-is_in_tail c =
    body_in (tested (goal.at.returns-then-is_in_tail c).After-is_in_tail) (ap not c.if-is_in_tail.true) _
    (place_is _ _ c.requires.placed c.in-Ok.f.info _ c.is_place_in_tail.ensures)

pub returns-else-is_in_tail : goal.returns-else-is_in_tail
returns-else-is_in_tail c =
    c.if-is_in_tail.false
    ∙ body_out (tested (goal.at.returns-else-is_in_tail c).After-is_in_tail) (ap not c.if-is_in_tail.false)

-- As `read_function` reads it, where every large header is known to stand in the tail.
use Rattle.function_table.proofs.ReadLaws.{SmallRead, LargeRead, header-fits, header_is, small_is}
use mathlib.Core.Path.{sym, ◌∙◌}
use Rattle.bits.specs.Words.{whole}
use Rattle.function_table.proofs.function_at.Goals as goal
use Rattle.function_table.proofs.function_at.Goals.{After-pointer_of, Else-is_large}

-- the record points to a large header
large : (c : After-pointer_of) → let a = c.args in
    LargeRead a.layout a.image.now a.i (whole c.record_of-words.result) c.pointer_of.result
large c = record {
  number = c.record_of-words.ensures;
  flag = sym c.is_large.ensures ∙ c.if-is_large.true;
  place = c.pointer_of.ensures.0;
}

-- it points to none
small : (c : Else-is_large) → let a = c.args in
    SmallRead a.layout a.image.now a.i (whole c.record_of-words.result)
small c = record { number = c.record_of-words.ensures; flag = sym c.is_large.ensures ∙ c.if-is_large.false }

pub large_function-requires : goal.large_function-requires
large_function-requires c = (
  header-fits (large (goal.at.large_function-requires c).After-pointer_of) c.requires.readable.1 c.requires.i_bound,
  c.requires.readable.0.most,
)

pub returns-then-is_large : goal.returns-then-is_large
returns-then-is_large c =
    (header_is (large (goal.at.returns-then-is_large c).After-pointer_of) _ c.large_function.ensures.0, c.large_function.ensures.1)

pub returns-else-is_large : goal.returns-else-is_large
returns-else-is_large c =
    (small_is (small (goal.at.returns-else-is_large c).Else-is_large) _ c.small_function.ensures.0, c.small_function.ensures.1)

-- Without a large header the record says all; with one, its place is judged before a word of it is read.
use Rattle.std.proofs.lemmas.Result.{err_from_is_err_and}
use mathlib.Core.Path.{sym, ◌∙◌}
use Rattle.bits.specs.Words.{whole}
use Rattle.function_table.proofs.ReadLaws.{SmallRead}
use Rattle.function_table.proofs.TailLaws.{PointerRead, small_found, pointer_refused, header_found, header_there}
use Rattle.function_table.proofs.read_function.Goals as goal
use Rattle.function_table.proofs.read_function.Goals.{After-judged_pointer, Then-not-is_large}

-- the record points to no large header
small : (c : Then-not-is_large) → let a = c.args in
    SmallRead a.p.layout a.image.now a.i (whole c.record_of-words.result)
small c = record {
  number = c.record_of-words.ensures;
  flag = sym c.is_large.ensures ∙ c.if-not-is_large.true;
}

-- it points to one, and its pointer is judged
judged : (c : After-judged_pointer) → let a = c.args in
    PointerRead a.p.layout a.image.now a.i (whole c.record_of-words.result) c.judged_pointer.result
judged c = record {
  number = c.record_of-words.ensures;
  flag = sym c.is_large.ensures ∙ c.if-not-is_large.false;
  pointer = c.judged_pointer.ensures;
}

pub returns-then-not-is_large : goal.returns-then-not-is_large
returns-then-not-is_large c = (
  small_found _ _ _ _ (small (goal.at.returns-then-not-is_large c).Then-not-is_large) _ c.small_function.ensures.0,
  c.small_function.ensures.1,
)

pub returns-in_err-ptr : goal.returns-in_err-ptr
returns-in_err-ptr c =
    let p = err_from_is_err_and c.from_residual.result c.from_residual.ensures.1 in
    rw (p.1, p.2)
    (pointer_refused (judged (goal.at.returns-in_err-ptr c).After-judged_pointer) _ c.in_err-ptr.was, tt)

pub large_function-requires : goal.large_function-requires
large_function-requires c =
    (header_there (judged (goal.at.large_function-requires c).After-judged_pointer) _ c.in_ok-ptr.was, c.requires.placed.fits.most)

pub returns : goal.returns
returns c = (
  header_found (judged (goal.at.returns c).After-judged_pointer) _ c.in_ok-ptr.was _ c.large_function.ensures.0,
  c.large_function.ensures.1,
)

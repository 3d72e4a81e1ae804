-- The record by its two ways, with a large header and without; the header behind it.
use mathlib.Core.Bool.{not}
use mathlib.Core.Path.{sym, ◌∙◌, ap}
use native.Mathlib.Omega.{arith}
use Rattle.bits.specs.Words.{whole}
use Rattle.sections.proofs.SectionLaws.{records_few}
use Rattle.image.proofs.PlaceLaws.{record_in_lem}
use Rattle.function_table.specs.Functions.{as_func}
use Rattle.function_table.proofs.ReadLaws.{LargeRead, header-fits}
use Rattle.relocate.proofs.GroupLaws.{SmallMoved, LargeMoved, small_group, large_group, fields_held, header_held, words_held}
use Rattle.relocate.proofs.relocate_function.Goals as goal
use Rattle.relocate.proofs.relocate_function.Goals.{After-function_after-f, After-function_after-f-2}

-- the function as it is read, without a large header, and as it is to be
small-moved : (c : After-function_after-f) → let a = c.args in
    SmallMoved a.layout a.image.now a.m a.i (whole c.record_of-words.result) c.is_large.result
    (as_func c.small_function.result) (as_func c.function_after-f.result)
small-moved c = record {
  read = record {
    number = c.record_of-words.ensures;
    flag = c.is_large.ensures;
    after = c.function_after-f.ensures;
  };
  without = (ap not c.if-not-is_large.true);
  own = c.small_function.ensures.0;
}

-- the function as it is read, with its large header, and as it is to be
moved : (c : After-function_after-f-2) → let a = c.args in
    LargeMoved a.layout a.image.now a.m a.i (whole c.record_of-words.result) c.is_large.result
    (as_func c.large_function-old.result) (as_func c.function_after-f-2.result) c.pointer_of-ptr.result
moved c = record {
  read = record {
    number = c.record_of-words.ensures;
    flag = c.is_large.ensures;
    after = c.function_after-f-2.ensures;
  };
  large = (ap not c.if-not-is_large.false);
  place = c.pointer_of-ptr.ensures.0;
  own = c.large_function-old.ensures.0;
}

pub small_record-requires : goal.small_record-requires
small_record-requires c =
    fields_held _ _ _ _ _ _ _ _ (small-moved (goal.at.small_record-requires c).After-function_after-f) _ c.requires.movable
    c.requires.i_bound

pub put_record-requires : goal.put_record-requires
put_record-requires c =
    let a = c.args in (
      records_few a.layout a.image.now a.i c.requires.movable.fits c.requires.i_bound,
      omega
          (arith, record_in_lem a.layout a.image.now a.i c.requires.i_bound, c.requires.movable.records),
    )

pub returns-then-not-is_large : goal.returns-then-not-is_large
returns-then-not-is_large c =
    small_group _ _ _ _ _ _ _ _ (small-moved (goal.at.returns-then-not-is_large c).After-function_after-f) _ _ _ c.small_record.ensures
    c.put_record.ensures

pub large_function-old-requires : goal.large_function-old-requires
large_function-old-requires c =
    let a = c.args in
    let z : LargeRead a.layout a.image.now a.i (whole c.record_of-words.result) c.pointer_of-ptr.result
    = record {
      number = c.record_of-words.ensures;
      flag = sym c.is_large.ensures ∙ c.if-not-is_large.false;
      place = c.pointer_of-ptr.ensures.0;
    } in
    (header-fits z c.requires.movable.headers c.requires.i_bound, c.requires.movable.fits.most)

pub large_record-record-requires : goal.large_record-record-requires
large_record-record-requires c =
    record {
      value = c.pointer_of-ptr.ensures.0;
      bound = (words_held _ _ _ _ _ _ _ _ _ (moved (goal.at.large_record-record-requires c).After-function_after-f-2) _
          c.requires.movable c.requires.i_bound).ptr;
    }

pub put_record-requires-2 : goal.put_record-requires-2
put_record-requires-2 c =
    let a = c.args in (
      records_few a.layout a.image.now a.i c.requires.movable.fits c.requires.i_bound,
      omega
          (arith, record_in_lem a.layout a.image.now a.i c.requires.i_bound, c.requires.movable.records),
    )

pub put_header-requires : goal.put_header-requires
put_header-requires c =
    let held = moved (goal.at.put_header-requires c).After-function_after-f-2 in
    record {
      layout_in_bounds = rw c.put_record-2.auto.out (header_held _ _ _ _ _ _ _ _ _ held _ c.requires.movable c.requires.i_bound);
      fits_words = words_held _ _ _ _ _ _ _ _ _ held _ c.requires.movable c.requires.i_bound;
    }

pub returns : goal.returns
returns c =
    large_group _ _ _ _ _ _ _ _ _ (moved (goal.at.returns c).After-function_after-f-2) _ _ _ _ _
    (record {
      whole = c.writes_all.ensures;
      number = c.large_record-record.ensures;
      slot = c.put_record-2.ensures;
      words = c.put_header.ensures;
    })

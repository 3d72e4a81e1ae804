-- The debug offset lies before the records: written first, it is not touched by what follows.
use borrow.Author.Rules.{rules}
use native.Mathlib.Omega.{arith}
use Rattle.relocate.proofs.EditLaws.{header_there, relocated-is}
use Rattle.relocate.proofs.relocate.Goals as goal

pub header_word-n-requires : goal.header_word-n-requires
header_word-n-requires c =
    let a = c.args in
    record {
      k_lt_row_count = search rules;
      k_in_bounds = omega (arith, (header_there a.layout a.image.now a.m _ c.requires).0);
    }

pub returns : goal.returns
returns c =
    let a = c.args in
    relocated-is a.layout a.image.now a.m _ _ c.requires a.out.now _ _
    (record {
      all = c.header_word-n.ensures.0;
      debug = c.put_debug.ensures;
      functions = c.relocate_functions.ensures;
    })

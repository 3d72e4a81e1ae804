-- A refusal leaves the buffer; the part of an admitted image is no longer than the room. The index goes by its filling alone.
use Prim.Native.Nat.{ℕ, ◌<◌}
use lib.ListN.{get_or}
use Rattle.std.proofs.lemmas.Result.{err_from_is_err_and}
use Rattle.string_index.proofs.IndexLaws.{laid_there, index_there}
use Rattle.listing_pieces.proofs.PartLaws.{part_refused, part_fits, part_listed}
use Rattle.listing_pieces.proofs.list.Goals as goal

pub returns-in_err-p : goal.returns-in_err-p
returns-in_err-p c =
    let a = c.args in
    let e = c.admit_indexed.ensures in
    let (k, is, same) = err_from_is_err_and c.from_residual.result c.from_residual.ensures.1 in
    record {
      answers = rw (is, same) (part_refused a.layout a.image.now a.index.now _ e.0 _ a.from a.out.now _ c.in_err-p.was);
      index_after = e.1;
    }

pub put_part-requires : goal.put_part-requires
put_part-requires c =
    let a = c.args in
    let e = c.admit_indexed.ensures in
    let f = c.in_ok-p.was in
    let bytes : (i : ℕ) → get_or a.image.now i 0 < 256 = λ i. (c.type_inv.image i).fits in
    record {
      laid = laid_there a.layout a.image.now a.index.now _ e.0 _ f bytes;
      index = index_there a.layout a.image.now a.index.now _ e.0 _ f bytes _ e.1;
    }

pub returns : goal.returns
returns c =
    let a = c.args in
    let e = c.admit_indexed.ensures in
    record {
      answers = part_listed a.layout a.image.now a.index.now _ e.0 _ a.from a.out.now _ c.in_ok-p.was _ _
          (part_fits _).0 c.put_part.ensures;
      index_after = e.1;
    }

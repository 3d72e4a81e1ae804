use native.Mathlib.Omega.{arith}
use Rattle.listing_pieces.proofs.PartLaws.{limit-fits, limit-written}
use Rattle.listing_pieces.proofs.put_part.Goals as goal

pub put_lines-requires : goal.put_lines-requires
put_lines-requires c = record {
  ready = c.requires;
  in_bounds = omega (arith, c.well_formed);
  limit_in_bounds = limit-fits _ _ c.least-limit.ensures.0;
}

pub returns : goal.returns
returns c = limit-written _ _ c.least-limit.ensures.0 _ _ _ _ c.put_lines.ensures

-- By the flag: the hash that is stored in the slot of the rank, or none.
use Rattle.listing_pieces.proofs.slot_of.Goals as goal

pub returns-then-not-identifier : goal.returns-then-not-identifier
returns-then-not-identifier c = rw c.if-not-identifier.true

pub stored_hash-requires : goal.stored_hash-requires
stored_hash-requires c =
    record {
      placed = c.requires.placed;
      rank_lt_identifiers = c.requires.rank_lt_identifiers c.if-not-identifier.false;
    }

pub returns : goal.returns
returns c = rw (c.if-not-identifier.false, c.stored_hash.ensures.0)

use Rattle.listing_pieces.proofs.next_turn.Goals as goal

pub returns : goal.returns
returns c = rw c.if_set.ensures.0

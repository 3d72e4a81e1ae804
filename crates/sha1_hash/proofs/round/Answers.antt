-- The word that the round takes is the schedule's, and stored it keeps what the ring holds.
use Rattle.sha1_hash.proofs.RingLaws.{block_long, ring_holds, next_round}
use Rattle.sha1_hash.proofs.round.Goals as goal

pub word-w-requires : goal.word-w-requires
word-w-requires c =
    let p = c.requires in
    (p.0, block_long _ _ _ _ _ p.1, ring_holds _ _ _ _ _ p.1)

pub returns : goal.returns
returns c =
    let p = c.requires in
    next_round _ _ _ _ _ p.1 _ _ c.word-w.ensures
    (rw (c.turn-next.ensures, c.constant.ensures, c.mixed-f.ensures))

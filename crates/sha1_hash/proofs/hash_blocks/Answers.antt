use mathlib.Core.Path.{◌≡◌, refl}
use native.Mathlib.Omega.{arith}
use lib.ListN.{length-take, length-drop}
use Rattle.sha1_hash.specs.Sha1.{hashes}
use Rattle.sha1_hash.proofs.BlockLaws.{hashed_more}
use Rattle.sha1_hash.proofs.hash_blocks.Goals as goal

pub loop-i-init : goal.loop-i-init
unfolding hashes
loop-i-init c = refl

pub hash_block-next-requires : goal.hash_block-next-requires
hash_block-next-requires c = simp (length-take, length-drop) (omega arith)

pub loop-i-preserved : goal.loop-i-preserved
loop-i-preserved c = let l = c.loop-i in hashed_more _ _ l.g _ l.i l.invariant c.hash_block-next.ensures

pub returns : goal.returns
returns c =
    let l = c.loop-i in
    let e : l.i ≡ c.args.n = omega arith in
    rw e at l.invariant

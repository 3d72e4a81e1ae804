-- The full blocks and the padded rest are the blocks of the padded message.
use mathlib.Core.Path.{ap, ◌∙◌}
use native.Mathlib.Omega.{arith}
use lib.ListN.{length-replicate}
use lib.Seq.{length-sets}
use Rattle.sha1_hash.specs.Sha1.{initial, digest_bytes}
use Rattle.sha1_hash.proofs.BlockLaws.{whole}
use Rattle.sha1_hash.proofs.sha1.Goals as goal

pub slice_bounds-hash_blocks-end : goal.slice_bounds-hash_blocks-end
slice_bounds-hash_blocks-end c = rw c.put_last_blocks.ensures (simp (length-sets, length-replicate))

pub hash_blocks-requires : goal.hash_blocks-requires
hash_blocks-requires c = rw c.put_last_blocks.ensures (simp (length-sets, length-replicate) (omega (arith, c.last_count.ensures)))

pub returns : goal.returns
unfolding initial
returns c =
    c.digest_bytes.ensures ∙ ap digest_bytes c.hash_blocks.ensures ∙ whole c.args.s.now _ _ _
    c.last_count.ensures c.hash_blocks-h.ensures c.put_last_blocks.ensures

-- The state is that of the standard behind the first i blocks.
use mathlib.Core.Path.{◌≡◌}
use Rattle.sha1_hash.specs.Sha1.{hashes}
use Rattle.sha1_hash.proofs.hash_blocks.Given as goal

abbrev pub invariant-loop-i : goal.invariant-loop-i
invariant-loop-i l = l.g ≡ hashes l.i l.initial.g l.s

-- Each store keeps the length, so that the next place is in the slice.
use mathlib.Core.Path.{refl}
use native.Mathlib.Omega.{arith}
use lib.ListN.{length-set}
use Rattle.string_index.specs.Filling.{put_entry}
use Rattle.string_index.proofs.put_entry.Goals as goal

pub bounds-index-count : goal.bounds-index-count
bounds-index-count c = simp length-set (omega arith)

pub bounds-index-count-2 : goal.bounds-index-count-2
bounds-index-count-2 c = simp length-set (omega arith)

pub returns : goal.returns
unfolding put_entry
returns c = refl

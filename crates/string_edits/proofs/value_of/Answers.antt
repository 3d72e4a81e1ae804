use borrow.Author.Tests.{lt-ltb, le-ltb}
use mathlib.Core.Path.{refl}
use native.Mathlib.Omega.{arith}
use Rattle.string_edits.proofs.value_of.Goals as goal

pub value_at-requires : goal.value_at-requires
value_at-requires c = c.requires c.if-next-lt-NONE.true

pub returns-then-next-lt-NONE : goal.returns-then-next-lt-NONE
returns-then-next-lt-NONE c = rw (lt-ltb c.args.next.id 4294967296 c.if-next-lt-NONE.true) c.value_at.ensures

pub returns : goal.returns
returns c = rw (le-ltb c.args.next.id 4294967296 c.if-next-lt-NONE.false) (refl, omega arith)

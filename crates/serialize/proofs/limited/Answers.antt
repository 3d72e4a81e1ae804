-- A count that is over the limit makes the sum so; below it no sum wraps.
use Rattle.std.specs.Prelude.{Ok}
use Prim.Native.Nat.{◌+◌}
use mathlib.Core.Path.{◌≡◌, ap}
use native.Mathlib.Omega.{arith}
use borrow.Author.Tests.{lt-ltb, le-ltb}
use Rattle.footer.specs.Footer.{footer_length}
use Rattle.footer.specs.Finalize.{size_limit}
use Rattle.serialize.specs.Parts.{length_of}
use Rattle.serialize.proofs.limited.Goals as goal

pub returns-then-strings-gt-SIZE_LIMIT : goal.returns-then-strings-gt-SIZE_LIMIT
returns-then-strings-gt-SIZE_LIMIT c = let a = c.args in rw (lt-ltb size_limit (length_of a.strings a.size a.body) (omega arith))

pub returns-then-body-gt-SIZE_LIMIT : goal.returns-then-body-gt-SIZE_LIMIT
returns-then-body-gt-SIZE_LIMIT c = let a = c.args in rw (lt-ltb size_limit (length_of a.strings a.size a.body) (omega arith))

pub body_at-requires : goal.body_at-requires
body_at-requires c = (omega arith, omega arith)

pub returns-then-length-gt-SIZE_LIMIT : goal.returns-then-length-gt-SIZE_LIMIT
returns-then-length-gt-SIZE_LIMIT c =
    let a = c.args in
    rw (lt-ltb size_limit (length_of a.strings a.size a.body) (omega arith))

pub returns : goal.returns
returns c =
    let a = c.args in
    let n = length_of a.strings a.size a.body in
    let e : c.up4-large_at.result + c.width.result + footer_length ≡ n = omega arith in
    rw (le-ltb size_limit n (omega arith)) (ap Ok e)

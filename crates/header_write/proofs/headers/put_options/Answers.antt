use native.Mathlib.Omega.{arith}
use Rattle.header_write.proofs.HeaderLaws.{options_fit, options_put}
use Rattle.header_write.proofs.headers.put_options.Goals as goal

pub place-at-requires : goal.place-at-requires
place-at-requires c = (options_fit c.args.layout c.get.result c.get.ensures).0

pub bounds-buf-at : goal.bounds-buf-at
bounds-buf-at c = omega (arith, c.place-at.ensures, (options_fit c.args.layout c.get.result c.get.ensures).1)

pub returns : goal.returns
returns c = options_put c.args.layout c.get.result _ _ _ c.place-at.ensures c.get.ensures (omega arith)

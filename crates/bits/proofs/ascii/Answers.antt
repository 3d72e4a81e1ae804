use Rattle.std.proofs.Common.{◌∙◌, arith}
use Rattle.bits.proofs.AsciiLaws.{ascii-none, ascii_next, ascii_all}
use Rattle.bits.proofs.ascii.Goals as goal

pub loop-b-init : goal.loop-b-init
loop-b-init c = ascii-none c.args.s.now

pub loop-b-preserved : goal.loop-b-preserved
loop-b-preserved c = let l = c.loop-b in ascii_next c.args.s.now l.b-index l.seen l.invariant

pub returns : goal.returns
returns c = let l = c.loop-b in l.invariant ∙ ascii_all c.args.s.now l.b-index (omega arith)

use Rattle.std.proofs.Common.{arith}
use Rattle.bits.specs.Bytes.{bytes_of}
use Rattle.bits.proofs.ByteLaws.{bytes_of-words, length-bytes_of}
use Rattle.bits.proofs.WriteLaws.{sets_append}
use Rattle.bits.proofs.store16.Goals as goal

pub returns : goal.returns
returns c =
    let w = c.args.w in
    rw (bytes_of-words 8 w.high w.low (omega arith), sets_append (bytes_of 8 w.low), length-bytes_of) (cc)

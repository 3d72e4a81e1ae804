use Rattle.bits.specs.Bytes.{bytes_of}
use Rattle.bits.proofs.ByteLaws.{bytes_of-split, length-bytes_of}
use Rattle.bits.proofs.WriteLaws.{sets_append}
use Rattle.bits.proofs.put_word64.Goals as goal

pub returns : goal.returns
returns c =
    let x = c.args.x in
    rw (bytes_of-split 4 4 x, sets_append (bytes_of 4 x), length-bytes_of) (cc)

use Rattle.bits.proofs.Word32Laws.{choice}
use Rattle.sha1_hash.specs.Functions.{ch}
use Rattle.sha1_hash.proofs.choose.Goals as goal

pub returns : goal.returns
unfolding ch
returns c =
    let a = c.args in
    rw (c.xor-2.ensures, c.and.ensures, c.xor.ensures) (choice 32 a.x a.y a.z)

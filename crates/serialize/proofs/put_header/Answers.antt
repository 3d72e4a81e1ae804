use Rattle.serialize.proofs.PartLaws.{header_is}
use Rattle.serialize.proofs.put_header.Goals as goal

pub returns : goal.returns
returns c = rw (c.put_bytes.ensures, header_is _ _ _ _ _ c.write_modern_header.ensures)

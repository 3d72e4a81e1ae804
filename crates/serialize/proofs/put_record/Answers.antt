-- The record's slot lies before the kinds and is as long as the record.
use Rattle.serialize.proofs.PartLaws.{record_laid}
use Rattle.serialize.proofs.put_record.Goals as goal

pub returns : goal.returns
returns c =
    record_laid c.args.image.now _ _ _ _ c.args.large_at
    (record {
      from = c.at-at.ensures;
      to = c.kinds_at-end.ensures;
      room = c.requires.0;
      put = c.store12.ensures;
      pointing = c.pointing_record.ensures;
    })

use Rattle.string_index.proofs.IndexLaws.{short_is}
use Rattle.string_index.proofs.is_short.Goals as goal

pub returns : goal.returns
returns c = short_is c.args.words c.args.count

use Rattle.string_index.proofs.IndexLaws.{tells}
use Rattle.string_index.proofs.string_in.Goals as goal

pub returns-clause-by_index : goal.returns-clause-by_index
returns-clause-by_index c =
    λ s laid ix.
    tells c.args.p s laid c.args.index.now ix c.args.id c.requires.1 c.entry_at-entry.result
    c.entry_at-entry.ensures

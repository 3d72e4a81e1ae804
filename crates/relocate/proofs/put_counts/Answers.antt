use Rattle.relocate.proofs.EditLaws.{counts_put}
use Rattle.relocate.proofs.put_counts.Goals as goal

pub returns : goal.returns
returns c =
    let a = c.args in
    counts_put a.out.now _ _ a.overflows a.storage c.put_word.ensures c.put_word-2.ensures

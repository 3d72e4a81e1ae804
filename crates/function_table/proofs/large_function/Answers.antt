-- By the layout: the words of the header, each within the width that the caller has shown to be there.
use Rattle.function_table.proofs.ReadLaws.{header_modern, header_legacy}
use borrow.Author.Rules.{rules}
use Rattle.function_table.proofs.large_function.Goals as goal

pub returns-in-Modern : goal.returns-in-Modern
returns-in-Modern c = (
  header_modern _ _ _ c.in-Modern.is _ _ c.large_word.ensures.0 c.large_word-in-Modern.ensures.0,
  search rules,
)

pub returns-in-Legacy : goal.returns-in-Legacy
returns-in-Legacy c = (
  header_legacy _ _ _ _ _ c.in-Legacy.is _ _ _
      (record {
        begin = c.large_word-in-Legacy.ensures.0;
        size = c.large_word-in-Legacy-2.ensures.0;
        info = c.large_word-in-Legacy-3.ensures.0;
      }),
  search rules,
)

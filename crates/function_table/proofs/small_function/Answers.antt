use Rattle.function_table.proofs.ReadLaws.{small_modern, small_legacy}
use borrow.Author.Rules.{rules}
use Rattle.function_table.proofs.small_function.Goals as goal

pub returns-in-Modern : goal.returns-in-Modern
returns-in-Modern c = (small_modern _ _ c.in-Modern.is _ _ c.value.ensures.0 c.value-in-Modern.ensures.0, search rules)

pub returns-in-Legacy : goal.returns-in-Legacy
returns-in-Legacy c = (
  small_legacy _ _ _ _ c.in-Legacy.is _ _ _
      (record { begin = c.value-in-Legacy.ensures.0; size = c.value-in-Legacy-2.ensures.0; info = c.value-in-Legacy-3.ensures.0 }),
  search rules,
)

use mathlib.Core.Path.{◌≡◌, sym, ◌∙◌}
use mathlib.Core.Bool.{Bool, true, false}
use borrow.Author.Tests.{le-ltb}
use lib.ListN.{length}
use Rattle.string_in_place.proofs.InPlaceLaws.{row_own}
use Rattle.string_in_place.proofs.are_alone.Goals as goal
use Rattle.string_in_place.proofs.are_alone.Goals.{then-words-gt1, else-words-gt1}

never : (b : Bool) → b ≡ false → b ≡ true → ⊥
never b e t = cc

-- with fewer than two words no pass is made
pub returns-then-are_in_row : goal.returns-then-are_in_row
returns-then-are_in_row c =
    elim c.if-words-gt1.branch [
      | then-words-gt1 w ↦ c.if-are_in_row.true ∙ row_own _ _ _ _ w.are_in_row.ensures (sym w.value-is ∙ c.if-are_in_row.true)
      | else-words-gt1 w ↦ absurd
          (never c.if-words-gt1.value (w.value-is ∙ le-ltb 1 (length c.args.words.now) w.if-words-gt1.false) c.if-are_in_row.true)
    ]

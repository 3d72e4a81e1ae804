-- A head that is none gives its number; any other is judged with what is behind it.
use Rattle.std.specs.Prelude.{Err, Result, ℕ}
use Rattle.std.proofs.lemmas.Result.{err_from_is_err_and}
use mathlib.Core.Path.{sym, ap, ◌∙◌}
use Rattle.format.specs.declared.Layout.{Layout}
use Rattle.listing_pieces.specs.Pieces.{opened_record, opened}
use Rattle.listing_pieces.proofs.open.Goals as goal

pub returns-in_err-layout : goal.returns-in_err-layout
unfolding opened
returns-in_err-layout c =
    let (k, is, same) = err_from_is_err_and c.from_residual.result c.from_residual.ensures.1 in
    is ∙ ap Err same
    ∙ ap (λ (h : Result (Layout × ℕ) ℕ). opened_record h c.args.input.now) (sym c.in_err-layout.was ∙ c.image_head.ensures)

pub returns : goal.returns
unfolding opened
returns c =
    c.open_image.ensures
    ∙ ap (λ (h : Result (Layout × ℕ) ℕ). opened_record h c.args.input.now) (sym c.in_ok-layout.was ∙ c.image_head.ensures)

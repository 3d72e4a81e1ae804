use mathlib.Core.Path.{sym, ◌∙◌}
use Rattle.large_headers.proofs.OrderLaws.{in_order_apart}
use Rattle.large_headers.proofs.are_headers_apart.Goals as goal

pub returns-then-in_order : goal.returns-then-in_order
returns-then-in_order c = c.if-in_order.true ∙ in_order_apart _ _ (sym c.in_order.ensures ∙ c.if-in_order.true)

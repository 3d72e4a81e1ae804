use mathlib.Core.Path.{◌∙◌}
use Rattle.footer.proofs.SameLaws.{pointwise-same}
use Rattle.footer.proofs.same_bytes.Goals as goal

pub returns : goal.returns
returns c = c.eq.ensures ∙ pointwise-same c.args.a.now c.args.b.now

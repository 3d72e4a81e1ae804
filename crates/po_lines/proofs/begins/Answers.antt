use mathlib.Core.Path.{◌∙◌}
use Rattle.po_lines.proofs.LineLaws.{begins_as}
use Rattle.po_lines.proofs.begins.Goals as goal

pub returns : goal.returns
returns c = c.starts_with.ensures.value ∙ begins_as c.args.mark.now c.args.line.now

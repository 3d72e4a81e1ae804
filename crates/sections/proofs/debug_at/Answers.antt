use Rattle.sections.proofs.SectionLaws.{debug-fits, debug_place_lem}
use Rattle.sections.proofs.debug_at.Goals as goal

pub place-requires : goal.place-requires
place-requires c = debug-fits c.args.layout _ c.debug_row.ensures

pub returns : goal.returns
returns c = debug_place_lem c.args.layout _ _ c.debug_row.ensures c.place.ensures

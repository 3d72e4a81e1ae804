use Rattle.string_packing.proofs.PassLaws.{reached_none}
use Rattle.string_packing.proofs.nothing_packed.Goals as goal

pub returns : goal.returns
returns c = let e = c.first_string.ensures in (λ m p s h f. reached_none m p s f _ (e.0 p s h) e.1, e.1)

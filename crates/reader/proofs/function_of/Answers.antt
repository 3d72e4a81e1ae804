use native.Mathlib.Omega.{arith}
use Rattle.image.proofs.CheckLaws.{headers_in_lem}
use Rattle.sections.proofs.SectionLaws.{sectioned}
use Rattle.reader.proofs.FunctionLaws.{function-inside}
use Rattle.reader.proofs.function_of.Goals as goal

pub function_at-requires : goal.function_at-requires
function_at-requires c =
    let h = c.requires in
    record {
      readable = (h.laid.placed.fits, (headers_in_lem _ _).passed h.laid.admitted.header);
      i_bound = omega (arith, (sectioned _ _ h.laid.placed).functions);
    }

pub returns : goal.returns
returns c =
    let h = c.requires in
    let e = c.function_at.ensures in
    (e.0, e.1, function-inside _ _ h.laid _ h.id_lt_functions _ e.0)

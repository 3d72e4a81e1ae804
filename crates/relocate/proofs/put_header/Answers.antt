-- The words lie within the header, which the caller has shown to lie in the buffer, and hold what is put; by the layout there are two or
-- three.
use Rattle.function_table.specs.Functions.{as_func}
use Rattle.relocate.proofs.FunctionLaws.{header_modern, header_legacy}
use Rattle.relocate.proofs.put_header.Goals as goal

pub returns-in-Modern : goal.returns-in-Modern
returns-in-Modern c =
    let a = c.args in
    header_modern a.layout (as_func a.f) a.out.now _ _ c.in-Modern.is
    (record { begin = c.put_exact.ensures.0; size = c.put_exact-in-Modern.ensures.0 })

pub returns-in-Legacy : goal.returns-in-Legacy
returns-in-Legacy c =
    let a = c.args in
    header_legacy a.layout (as_func a.f) a.out.now _ _ _ _ c.in-Legacy.is _
    (record {
      begin = c.put_exact.ensures.0;
      size = c.put_exact-in-Legacy.ensures.0;
      info = c.put_exact-in-Legacy-2.ensures.0;
    })

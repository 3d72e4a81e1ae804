-- The bytes of a string are made from a new value that is wide, and copied in every other case.
use Rattle.string_packing_write.proofs.EntryLaws.{made_units, copied}
use Rattle.string_packing_write.proofs.put_stored.Goals as goal

pub put_units-requires : goal.put_units-requires
put_units-requires c =
    let a = c.args in
    rw
    (made_units a.is_new a.wide a.image.now a.value.now a.at a.n _ c.is_made.ensures
    c.if-is_made.true)
    c.requires.n_in_bounds_2

pub returns-then-is_made : goal.returns-then-is_made
returns-then-is_made c =
    let a = c.args in
    rw
    (← made_units a.is_new a.wide a.image.now a.value.now a.at a.n _ c.is_made.ensures
    c.if-is_made.true)
    c.put_units.ensures

pub put_bytes-requires : goal.put_bytes-requires
put_bytes-requires c =
    let a = c.args in
    rw (
      c.source.ensures,
      copied a.is_new a.wide a.image.now a.value.now a.at a.n _ c.is_made.ensures
          c.if-is_made.false,
    )
    c.requires.n_in_bounds_2

pub returns : goal.returns
returns c =
    let a = c.args in
    rw (
      ← copied a.is_new a.wide a.image.now a.value.now a.at a.n _ c.is_made.ensures c.if-is_made.false,
      ← c.source.ensures,
    )
    c.put_bytes.ensures

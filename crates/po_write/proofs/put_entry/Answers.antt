-- The mark, the value, what stands behind it.
use native.Mathlib.Omega.{arith}
use Rattle.utf.specs.Utf16.{utf8_of}
use Rattle.po_strings.specs.Texts.{units_in}
use Rattle.po_text.proofs.EscapeLaws.{entry_length, entry-wrote}
use Rattle.po_write.proofs.put_entry.Goals as goal

pub put_text-value-requires : goal.put_text-value-requires
put_text-value-requires c =
    let a = c.args in
    omega (arith, c.requires.t_in_bounds, entry_length (utf8_of (units_in a.image.now a.t)))

pub put_units-behind-requires : goal.put_units-behind-requires
put_units-behind-requires c =
    let a = c.args in
    let t = c.put_text-value in
    record {
      inside = c.requires.inside;
      t_in_bounds = omega (arith, c.requires.t_in_bounds, t.ensures.0, t.auto.out, entry_length (utf8_of (units_in a.image.now a.t)));
    }

pub put_text-requires : goal.put_text-requires
put_text-requires c =
    let a = c.args in
    let t = c.put_text-value in
    let u = c.put_units-behind in
    omega (
      arith,
      c.requires.t_in_bounds,
      t.ensures.0,
      t.auto.out,
      u.ensures.0,
      u.auto.out,
      entry_length
          (utf8_of (units_in a.image.now a.t)),
    )

pub returns : goal.returns
returns c =
    let a = c.args in
    entry-wrote (utf8_of (units_in a.image.now a.t)) a.out.now _ _ _ a.at _ _ _ c.put_text-value.ensures
    c.put_units-behind.ensures c.put_text.ensures

-- What lies before the body, then what lies from it on, then the end; the lengths stay as they are.
use Rattle.serialize.proofs.PartLaws.{image_made}
use native.Mathlib.Omega.{arith}
use borrow.Author.Rules.{rules}
use Rattle.serialize.proofs.put_image.Goals as goal

pub put_sections-requires : goal.put_sections-requires
put_sections-requires c =
    record {
      storage_in_bounds = search rules;
      large_at_in_bounds = (
        omega (arith, c.up4-large_at.ensures, c.body_at-begin.ensures, c.requires.image_len),
        c.requires.image_len_bound,
      );
      ends_value = c.requires.ends_value;
    }

pub returns : goal.returns
returns c =
    let a = c.args in
    image_made a.version a.storage.now a.ends.now a.body.now a.image.now _ _ _ _
    (record {
      long = c.requires.image_len;
      limit = c.requires.image_len_bound;
      front = rw (c.up4-large_at.ensures, c.body_at-begin.ensures) at c.put_sections.ensures;
      back = rw c.body_at-begin.ensures at c.put_tail.ensures;
    })
    c.finalize_raw_image.ensures

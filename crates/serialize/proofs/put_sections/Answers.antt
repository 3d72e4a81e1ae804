-- Section after section, each where the one before it ends; together they are the definition's bytes.
use Rattle.serialize.proofs.PartLaws.{sections-laid}
use borrow.Author.Rules.{rules}
use Rattle.serialize.proofs.put_sections.Goals as goal

pub put_small_table-requires : goal.put_small_table-requires
put_small_table-requires c = record { ends_in_bounds = search rules; image_len_bound = search rules; ends_value = c.requires.ends_value }

pub returns : goal.returns
returns c =
    let s = c.args in
    sections-laid s.version s.storage.now s.ends.now s.large_at s.image.now _ _ _ _ _ _
    (record {
      header = c.put_header.ensures;
      pointing = c.put_record.ensures;
      kinds = rw c.kinds_at.ensures at c.put_word.ensures;
      small = c.put_small_table.ensures;
      text = rw c.storage_at-at.ensures at c.put_bytes.ensures;
      zeros = rw (c.up4.ensures, c.storage_at-at.ensures) at c.put_zeros.ensures;
    })

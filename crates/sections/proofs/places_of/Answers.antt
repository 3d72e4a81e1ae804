-- Each place is an exact sum of those before it: a count has 32 bits and an entry at most 16 bytes.
use mathlib.Core.Path.{refl}
use Rattle.sections.proofs.SectionLaws.{derived}
use Rattle.sections.proofs.places_of.Goals as goal

pub returns : goal.returns
returns c =
    derived _ _
    (record {
      functions = c.header_word-functions.ensures.0;
      kinds = c.header_word-kinds.ensures.0;
      identifiers = c.header_word-identifiers.ensures.0;
      strings = c.header_word-strings.ensures.0;
      overflows = c.header_word-overflows.ensures.0;
      storage = c.header_word-storage_size.ensures.0;
      kinds_from = c.record_at-kinds_at.ensures.0;
      hashes_from = c.entry_at-hashes_at.ensures;
      small_from = c.entry_at-small_at.ensures;
      over_from = c.entry_at-over_at.ensures;
      storage_from = c.entry_at-storage_at.ensures;
      tail_from = c.up4.ensures;
      footer_from = refl;
    })

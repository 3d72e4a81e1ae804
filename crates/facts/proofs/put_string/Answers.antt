-- What was visited and read of the string are its facts.
use mathlib.Core.Path.{◌∙◌, ap}
use lib.Seq.{sets}
use Rattle.string_walk.proofs.RecordLaws.{record_small}
use Rattle.facts.proofs.PassLaws.{row_is}
use Rattle.facts.proofs.put_string.Goals as goal

pub facts_of_parts-facts-requires : goal.facts_of_parts-facts-requires
facts_of_parts-facts-requires c =
    let h = c.requires in
    (record_small _ _ h.laid.0.placed _ _ c.string_at-step.ensures.string).0

pub returns : goal.returns
returns c =
    let e = c.string_at-step.ensures in
    let a = c.args in
    let row = row_is a.p a.image.now a.c c.string_at-step.result _ c.facts_of_parts-facts.result
    (record {
      placed = c.requires.laid.0.placed;
      visited = e;
      counts = c.counts_of-counts.ensures;
      facts = rw (← c.is_identifier-identifier.ensures) c.facts_of_parts-facts.ensures;
    }) in
    record {
      cursor_of = (e.next, e.id);
      out_after = c.put_numbers.ensures ∙ ap (sets a.out.now a.at) row;
    }

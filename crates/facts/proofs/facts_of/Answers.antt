-- Each number is one of the places, or read from the header or the footer.
use native.Mathlib.Omega.{arith}
use mathlib.Core.Path.{◌∙◌, ap}
use Rattle.facts.specs.Facts.{flag}
use Rattle.sections.proofs.SectionLaws.{sectioned}
use Rattle.facts.proofs.FactLaws.{facts_are}
use Rattle.facts.proofs.facts_of.Goals as goal

pub header_word-stated-requires : goal.header_word-stated-requires
header_word-stated-requires c =
    let h = sectioned c.args.p c.args.image.now c.requires in
    record {
      k_lt_row_count = omega arith;
      k_in_bounds = omega (arith, h.kinds_next);
    }

pub returns : goal.returns
returns c =
    let a = c.args in
    facts_are a.image.now a.p _ _ _ _
    (record {
      places = c.requires.is;
      header = c.header_word-stated.ensures.0;
      judged = c.flag.ensures;
      footer = c.flag-2.ensures ∙ ap flag c.verify_footer.ensures;
      records = c.record_at.ensures.0;
    })

-- The word lies in its section, and the section in the image.
use mathlib.Core.Path.{refl}
use native.Mathlib.Omega.{arith}
use Rattle.sections.proofs.SectionLaws.{sectioned}
use Rattle.string_walk.proofs.RunLaws.{kind_is}
use Rattle.string_walk.proofs.kind_word.Goals as goal

pub word_at-requires : goal.word_at-requires
word_at-requires c =
    let z = sectioned _ _ c.requires.placed in
    (omega arith, omega arith, omega arith)

pub returns : goal.returns
returns c =
    let h = c.requires in
    kind_is _ _ h.placed _ _ _ c.word_at.ensures.0 refl

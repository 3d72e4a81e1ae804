-- Put whole for a rebuild; else the record stays where its pointer does.
use mathlib.Core.Logic.{inl, inr}
use Rattle.bits.specs.Words.{whole}
use Rattle.relocate.proofs.FunctionLaws.{pointed_all, pointed_kept, pointed-moved}
use Rattle.relocate.proofs.large_record.Goals as goal

pub returns-then-new-old : goal.returns-then-new-old
returns-then-new-old c =
    let a = c.args in
    elim c.if-new-old.either [
      | inl t ↦ pointed_all a.layout a.new (whole a.words) a.all t _ c.with_pointer.ensures
      | inr f ↦ pointed-moved a.layout a.new (whole a.words) a.all f.0 a.old (record { read = c.requires.value; other = f.1 }) _
          c.with_pointer.ensures
    ]

pub returns-else-new-old : goal.returns-else-new-old
returns-else-new-old c =
    let a = c.args in
    let f = c.if-new-old.false in
    pointed_kept a.layout a.new (whole a.words) a.all f.0 a.old c.requires.value f.1

-- Up to the string of the next edit, or to the last.
use mathlib.Core.Path.{subst}
use mathlib.Core.List.{List}
use Prim.Native.Nat.{ℕ, ◌<◌}
use Rattle.string_edits.specs.Lists.{Within}
use Rattle.string_edits.specs.Told.{told, coming_in, values_in, Coming}
use Rattle.string_edits.proofs.ToldLaws.{coming, coming_within}
use Rattle.string_packing.specs.Strings.{as_string, Shaped}
use Rattle.string_packing.proofs.PassLaws.{shape_small, stretch_to, stretch_rest}
use Rattle.string_packing.proofs.next_stretch.Goals as goal
use Rattle.string_packing.proofs.next_stretch.Goals.{After-next_edit-next, After-shape_of-new}

-- the next value stands in the text
stands : (c : After-next_edit-next) → let a = c.args in
    c.next_edit-next.result.id < 4294967296 → Within a.text.now a.ends.now c.next_edit-next.result.edit
stands c = let a = c.args in
    coming_within (told a.form a.words.now) a.text.now a.ends.now c.requires.listed a.from _ c.next_edit-next.ensures

-- what is known of the next edit and its value
comes : (c : After-shape_of-new) → let a = c.args in
    let next = c.next_edit-next.result in
    let value = coming_in a.text.now a.ends.now next in
    Coming (values_in (told a.form a.words.now) a.text.now a.ends.now) value a.from next.id
    × Shaped c.shape_of-new.result (as_string value)
    × (c.shape_of-new.result.count < 4294967296)
comes c = let a = c.args in
    let e = c.value_of.ensures in (
      coming (told a.form a.words.now) a.text.now a.ends.now c.requires.listed a.from _ c.next_edit-next.ensures,
      subst (λ (v : List ℕ). Shaped c.shape_of-new.result (as_string v)) e.0 c.shape_of-new.ensures,
      shape_small _ _ c.shape_of-new.ensures e.1,
    )

pub value_of-requires : goal.value_of-requires
value_of-requires c = stands (goal.at.value_of-requires c).After-next_edit-next

pub returns-then-next-strings : goal.returns-then-next-strings
returns-then-next-strings c =
    let (k, x, small) = comes (goal.at.returns-then-next-strings c).After-shape_of-new in
    record {
      stretch_of = stretch_to _ _ c.args.from c.args.strings _ _ k x small c.requires.from_lt_strings.1 c.if-next-strings.true;
      within = stands (goal.at.returns-then-next-strings c).After-next_edit-next;
    }

pub returns : goal.returns
returns c =
    let (k, x, small) = comes (goal.at.returns c).After-shape_of-new in
    record {
      stretch_of = stretch_rest _ _ c.args.from c.args.strings _ _ k x small c.requires.from_lt_strings.1 c.requires.from_lt_strings.0
          c.if-next-strings.false;
      within = stands (goal.at.returns c).After-next_edit-next;
    }

-- Refusal 4 as one test. 01: "counts differ from string count, or identifiers from identifier count".
-- docs/FORMAT.md: Kinds, Admission.
use Rattle.std.specs.Prelude.{Bool, List, ℕ, eqb}
use Rattle.bits.specs.Choice.{both}
use Rattle.format.specs.declared.Layout.{Layout}
use Rattle.image.specs.Sections.{kinds_in, identifiers_in, strings_in}
use Rattle.image.specs.Kinds.{kind_in, covered, identified}

-- both of its conditions
unfoldable pub kinds_good : Layout → List ℕ → Bool
kinds_good l s =
    both (eqb (covered (kind_in l s) (kinds_in s)) (strings_in s)) (eqb (identified (kind_in l s) (kinds_in s)) (identifiers_in s))

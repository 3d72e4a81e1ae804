-- What a translators' file makes of an image. 02, No. 1: "Each other msgid is looked up in the image as given, identifiers left out, and
-- every plain string with that value gets the msgstr; the result is that of the single string patches in id order, or the image finalized
-- when there are none"; "The file is all or nothing".
-- docs/FORMAT.md: Translators' files.
use Rattle.std.proofs.Math.Option.{Option, none, some}
use Rattle.std.specs.Prelude.{List, ℕ, zero, suc, ltb, eqb, length}
use Rattle.refusals.specs.Numbers as refusals
use Rattle.bits.specs.Choice.{pick}
use Rattle.bits.specs.Outcome.{Outcome, refused}
use Rattle.format.specs.declared.Layout.{Layout}
use Rattle.format.specs.declared.Mode.{Mode}
use Rattle.image.specs.Sections.{strings_in}
use Rattle.image.specs.Admission.{refusal}
use Rattle.string_edits.specs.Values.{Values}
use Rattle.string_steps.specs.Steps.{stepwise}
use Rattle.po_pairs.specs.Pairs.{Pair, msgid_of, msgstr_of, Read, outside, pairs, read_file}
use Rattle.po_targets.specs.Targets.{target_of, all_found}

-- ---- what strings get

-- by the pair that a string has, counted as in `target_of`
abbrev pub given_by : List Pair → ℕ → Option (List ℕ)
given_by ps zero = none
given_by ps (suc q) = some (msgstr_of ps q)

-- "every plain string with that value gets the msgstr"
unfoldable pub file_values : Layout → List ℕ → List Pair → Values
file_values l s ps i = pick (ltb i (strings_in s)) (given_by ps (target_of l s (msgid_of ps) (msgstr_of ps) (length ps) i)) none

-- ---- what is made of an image, in a buffer of `room` bytes

-- "16 for a line outside the subset, bytes that aren't UTF-8, or a msgid given twice; 14 for a msgid to be applied that no plain string
-- has; 11 to 13 as the first single patch that meets one, with none 13 for the finalized image"
unfoldable pub applied : Mode → Layout → List ℕ → ℕ → Read → Outcome
applied m l s room outside = refused refusals.file
applied m l s room (pairs ps) =
    pick (all_found l s (msgid_of ps) (msgstr_of ps) (length ps)) (stepwise m l s room (file_values l s ps)) (refused refusals.absent)

-- "Refusals, in order: 1 to 6; .."
unfoldable pub translated : Mode → Layout → List ℕ → ℕ → List ℕ → Outcome
translated m l s room file = pick (eqb (refusal l s) 0) (applied m l s room (read_file file)) (refused (refusal l s))

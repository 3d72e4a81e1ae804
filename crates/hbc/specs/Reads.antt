-- Readings as outcomes: the bytes of a string or of a body, what an index holds, or a reason, at the front of a lent buffer, or a refusal.
-- docs/FORMAT.md: Exports.
use Rattle.std.specs.Prelude.{List, [], ◌∷◌, ℕ, Err, Ok, Result}
use Rattle.bits.specs.Outcome.{Outcome, refused, made, outcome_for}
use Rattle.format.specs.declared.Layout.{Layout}
use Rattle.image.specs.Sections.{functions_in, strings_in}
use Rattle.image.specs.Strings.{string_of}
use Rattle.image.specs.Functions.{body_of}
use Rattle.reader.specs.Reading.{id_refusal}
use Rattle.string_index.specs.declared.Entry.{Entry}
use Rattle.string_reasons.specs.declared.Reason.{Reason}
use Rattle.string_reasons.specs.declared.Reason.TheVariants as reason-is

-- string id, and body id
unfoldable pub string_reading : Layout → List ℕ → ℕ → Outcome
string_reading l s id = outcome_for (id_refusal l s (strings_in s) id) (string_of l s id).bytes

unfoldable pub body_reading : Layout → List ℕ → ℕ → Outcome
body_reading l s id = outcome_for (id_refusal l s (functions_in s) id) (body_of l s id)

-- what an index holds of a string, as three words. 02, No. 13: "storage offset, length and flags"
abbrev pub entry_words : Entry → List ℕ
entry_words e = e.offset ∷ e.length ∷ e.flags ∷ []

abbrev pub looked_up : Result Entry ℕ → Outcome
looked_up (Ok e) = made (entry_words e)
looked_up (Err n) = refused n

-- a reason, as a code and two words; those that a code does not use are 0. 02, No. 6: "lengths differ, with both; or overlap, with the
-- lowest overlapping id"
abbrev pub reason_words : Reason → Outcome
reason_words (reason-is.Refused n) = refused n
reason_words reason-is.InPlace = made (0 ∷ 0 ∷ 0 ∷ [])
reason_words reason-is.Wide = made (1 ∷ 0 ∷ 0 ∷ [])
reason_words reason-is.NotAscii = made (2 ∷ 0 ∷ 0 ∷ [])
reason_words (reason-is.Lengths entry new) = made (3 ∷ entry ∷ new ∷ [])
reason_words (reason-is.Overlap id) = made (4 ∷ id ∷ 0 ∷ [])

-- What becomes of an image when strings of it get other values. 01, Strings; 02, No. 2: the mode of a rebuild; No. 4: many strings.
-- docs/FORMAT.md: String patches.
use Rattle.std.specs.Prelude.{Bool, not, List, [], ◌∷◌, ℕ, ◌+◌, ◌*◌, ltb, eqb, length}
use Rattle.std.proofs.lemmas.List.Edits.{sets}
use Rattle.refusals.specs.Numbers as refusals
use Rattle.bits.specs.Choice.{pick, both, either, Check, check, judge}
use Rattle.bits.specs.Bytes.{bytes_of, ascii}
use Rattle.bits.specs.Outcome.{Outcome, outcome_for}
use Rattle.format.specs.declared.Layout.{Layout}
use Rattle.format.specs.declared.Mode.{Mode}
use Rattle.format.specs.Table as table
use Rattle.format.specs.Hash.{hash_of}
use Rattle.format.specs.Move.{moved}
use Rattle.footer.specs.Finalize.{size_limit, lengthed, sealed}
use Rattle.utf.specs.Utf8.{utf16}
use Rattle.image.specs.Sections.{strings_in, hashes_at, storage_at, tail_at}
use Rattle.image.specs.Strings.{size_of, place_at}
use Rattle.image.specs.Kinds.{is_identifier, rank_of}
use Rattle.edits.specs.Rebuild.{new_tail, rebuild}
use Rattle.edits.specs.Fit.{fields_fit}
use Rattle.string_overlap.specs.Overlap.{is_alone}
use Rattle.string_edits.specs.Values.{Values, in_turn, all_edited}
use Rattle.string_packing.specs.Strings.{strings_with}

-- ---- in place: "entry narrow, value ASCII, byte lengths equal, and no other entry overlaps"

unfoldable pub fits_in_place : Layout → List ℕ → ℕ → List ℕ → Bool
fits_in_place l s id value =
    both (not (place_at l s id).wide) (both (ascii value) (both (eqb (length value) (size_of (place_at l s id))) (is_alone l s id)))

-- "in place if every edit could be in place on the image as given" (02, No. 4)
unfoldable pub fits_all : Layout → List ℕ → Values → Bool
fits_all l s v = all_edited v (fits_in_place l s) (strings_in s)

-- a value over the old bytes
unfoldable pub over_old : Layout → List ℕ → ℕ → List ℕ → List ℕ → List ℕ
over_old l s id value out = sets out (storage_at l s + (place_at l s id).at) value

unfoldable pub in_place : Layout → List ℕ → Values → List ℕ → List ℕ
in_place l s v out = in_turn v (over_old l s) (strings_in s) out

-- ---- the hash slots: "If the string is an identifier, its hash slot (its rank among identifiers) becomes the hash"

unfoldable pub hashed : Layout → List ℕ → ℕ → List ℕ → List ℕ → List ℕ
hashed l s id value out =
    pick (is_identifier l s id)
    (sets out (hashes_at l s + rank_of l s id * (table.hash_entry).width) (bytes_of (table.hash_entry).width (hash_of (utf16 value)))) out

unfoldable pub rehashed : Layout → List ℕ → Values → List ℕ → List ℕ
rehashed l s v out = in_turn v (hashed l s) (strings_in s) out

-- ---- the patched image: in place, or rebuilt with the new strings; "Every accepted patch ends so": the file length and the footer

-- the bytes but for hash slots, file length and footer
unfoldable pub changed : Mode → Layout → List ℕ → Values → List ℕ
changed m l s v = pick (fits_all l s v) (in_place l s v s) (rebuild l (strings_with m l s v) s)

-- an image with its hash slots, file length and footer
unfoldable pub finished : Layout → List ℕ → Values → List ℕ → List ℕ
finished l s v out = sealed (lengthed (rehashed l s v out))

-- in place: "In-place patches never move a string, so they are the same in each mode" (02, No. 2)
unfoldable pub patched_in_place : Layout → List ℕ → Values → List ℕ
patched_in_place l s v = finished l s v (in_place l s v s)

unfoldable pub patched_strings : Mode → Layout → List ℕ → Values → List ℕ
patched_strings m l s v = finished l s v (changed m l s v)

-- ---- refusals 11 and 12

-- where what lay in the tail goes
abbrev pub moved_with_tail : Mode → Layout → List ℕ → Values → ℕ → ℕ
moved_with_tail m l s v = moved (tail_at l s) (new_tail l (strings_with m l s v) s)

-- the length of the result
unfoldable pub new_length : Mode → Layout → List ℕ → Values → ℕ
new_length m l s v = pick (fits_all l s v) (length s) (moved_with_tail m l s v (length s))

-- 12: a place that moves fits its record
unfoldable pub patch_fits : Mode → Layout → List ℕ → Values → Bool
patch_fits m l s v = either (fits_all l s v) (fields_fit l s (moved_with_tail m l s v))

-- what is judged of the result: "11 to 13 judged on the end image only" (02, No. 4)
abbrev pub result_checks : Mode → Layout → List ℕ → Values → List Check
result_checks m l s v =
    check refusals.limit (ltb size_limit (new_length m l s v)) ∷ check refusals.field (not (patch_fits m l s v)) ∷ []

-- strings of an admitted image with other values
unfoldable pub patch_known : Mode → Layout → List ℕ → Values → Outcome
patch_known m l s v = outcome_for (judge (result_checks m l s v)) (patched_strings m l s v)

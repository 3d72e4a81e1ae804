-- What the listing program prints. 01, Programs: "The listing program reads one `IM` record; a byte after it gives 15."
-- docs/FORMAT.md: Listing.
use Rattle.std.specs.Prelude.{List, [], ◌++◌, ℕ, zero, suc, ◌+◌, eqb, ltb, length, take, drop, None, Option, Some, Ok, Err, Result}
use Rattle.refusals.specs.Numbers as refusals
use Rattle.bits.specs.Choice.{pick}
use Rattle.bits.specs.Outcome.{Outcome, outcome_for}
use Rattle.format.specs.declared.Layout.{Layout}
use Rattle.footer.specs.Finalize.{size_limit}
use Rattle.image.specs.Sections.{functions_in, strings_in}
use Rattle.image.specs.Strings.{string_of, units_of}
use Rattle.image.specs.Kinds.{is_identifier, rank_of, hash_in}
use Rattle.image.specs.Functions.{func_of}
use Rattle.image.specs.Admission.{refusal}
use Rattle.input_records.specs.Heads.{image_head_length, image_head}
use Rattle.string_index.specs.Index.{fill_refusal}
use Rattle.listing_lines.specs.Lines.{refused_line, counts_line, string_line, function_line}

-- the lines of the ids from i on, n of them
unfoldable pub lines_from : (ℕ → List ℕ) → ℕ → ℕ → List ℕ
lines_from f i zero = []
lines_from f i (suc n) = f i ++ lines_from f (i + 1) n

-- the last field of string i: the hash that is stored in its slot, stale or not; a plain string has none. 02, No. 5
unfoldable pub slot_of : Layout → List ℕ → ℕ → Option ℕ
slot_of l s i = pick (is_identifier l s i) (Some (hash_in l s (rank_of l s i))) None

-- the line of string i, and of function i
unfoldable pub string_line_in : Layout → List ℕ → ℕ → List ℕ
string_line_in l s i = let t = string_of l s i in string_line i t.wide (is_identifier l s i) (units_of t) (slot_of l s i)

unfoldable pub function_line_in : Layout → List ℕ → ℕ → List ℕ
function_line_in l s i = let f = func_of l s i in function_line i f.large f.begin f.size

-- the lines of an admitted image
unfoldable pub listed : Layout → List ℕ → List ℕ
listed l s =
    counts_line (length s) (strings_in s) (functions_in s)
    ++ (lines_from (string_line_in l s) 0 (strings_in s) ++ lines_from (function_line_in l s) 0 (functions_in s))

-- an image's lines, or its refusal
unfoldable pub image_listing : Layout → List ℕ → List ℕ
image_listing l s = pick (eqb (refusal l s) 0) (listed l s) (refused_line (refusal l s))

-- how long a part of the lines may be in a buffer of n bytes: no longer than an image, so that its length fits 32 bits
unfoldable pub part_room : ℕ → ℕ
part_room n = pick (ltb n size_limit) n size_limit

-- a part of an image's lines, of at most `room` bytes: from byte `from` on; or the refusal of filling its index, for which so many
-- words are lent (02, No. 13)
unfoldable pub listing_part : ℕ → ℕ → Layout → List ℕ → ℕ → Outcome
listing_part room from l s words = outcome_for (fill_refusal l s words) (take room (drop from (listed l s)))

-- 15 comes before all others: the record is judged first, then whether it ends where the input does
abbrev pub record_listing : Result (Layout × ℕ) ℕ → List ℕ → List ℕ
record_listing (Ok (l, n)) input =
    pick (eqb (length input) (image_head_length + n)) (image_listing l (drop image_head_length input)) (refused_line refusals.job)
record_listing (Err n) input = refused_line n

-- THE LISTING: all that is printed, for all that is read
unfoldable pub listing : List ℕ → List ℕ
listing input = record_listing (image_head input) input

-- The listing in pieces: it can be far larger than its image, so that it is made a piece at a time. The law `in_pieces` says that
-- the pieces in order are the listing.
-- docs/FORMAT.md: Listing.
use Rattle.std.specs.Prelude.{◌≡◌, Bool, true, false, List, [], ◌++◌, ℕ, zero, suc, ◌+◌, ◌-◌, ◌≤◌, ◌<◌, ltb, eqb, length, take, drop}
use Rattle.std.specs.Prelude.{Option, Some, None, Result, Ok, Err}
use Rattle.refusals.specs.Numbers as refusals
use Rattle.bits.specs.Choice.{pick}
use Rattle.format.specs.declared.Layout.{Layout}
use Rattle.image.specs.Sections.{functions_in, strings_in}
use Rattle.image.specs.Strings.{string_of, units_of}
use Rattle.image.specs.Kinds.{is_identifier, rank_of, hash_in}
use Rattle.format.specs.Table.{if_set}
use Rattle.sections.specs.declared.Places.{Places}
use Rattle.sections.specs.Places.{Laid}
use Rattle.admission.specs.Admission.{admission}
use Rattle.string_index.specs.Filling.{Indexed}
use Rattle.text.specs.Text.{hexes, spaced, Wrote}
use Rattle.listing_lines.specs.Lines.{refused_line, counts_line, string_words, closing}
use Rattle.input_records.specs.Heads.{image_head_length, image_head}
use Rattle.listing_pieces.specs.declared.Point.{Point}
use Rattle.listing_pieces.specs.declared.Point.TheVariants as point_is
use Rattle.listing_pieces.specs.declared.Piece.{Piece}
use Rattle.listing_pieces.specs.declared.Turn.{Turn}
use Rattle.listing_pieces.specs.Listing.{lines_from, slot_of, string_line_in, function_line_in, listed}

-- ---- what an input is: an admitted image, or a refusal

abbrev pub opened_image : Result Places ℕ → Result Places ℕ
opened_image (Ok p) = Ok p
opened_image (Err n) = Err n

abbrev pub opened_record : Result (Layout × ℕ) ℕ → List ℕ → Result Places ℕ
opened_record (Ok (l, n)) input =
    pick (eqb (length input) (image_head_length + n)) (opened_image (admission l (drop image_head_length input)))
    (Err refusals.job)
opened_record (Err n) input = Err n

unfoldable pub opened : List ℕ → Result Places ℕ
opened input = opened_record (image_head input) input

-- what is printed for it; s are the bytes behind the record's head
abbrev pub printed : List ℕ → Result Places ℕ → List ℕ
printed s (Ok p) = listed p.layout s
printed s (Err n) = refused_line n

-- ---- where a listing has come to

pub data Spot : Type 0 where
  -- before line 1
  counts : Spot
  -- before the line of string i
  strings : ℕ → Spot
  -- in the line of string i, before its unit j
  units : ℕ → ℕ → Spot
  -- before the line of function i
  functions : ℕ → Spot
  end : Spot

-- the units of string i
abbrev pub units_in : Layout → List ℕ → ℕ → List ℕ
units_in l s i = units_of (string_of l s i)

-- the most units of a piece
abbrev pub chunk : ℕ
chunk = 64

-- the line of string i before its units
unfoldable pub string_start : Layout → List ℕ → ℕ → List ℕ
string_start l s i = spaced (string_words i (string_of l s i).wide (is_identifier l s i) (length (units_in l s i)))

-- the lines of the strings from string i on, and of all functions
unfoldable pub strings_left : Layout → List ℕ → ℕ → List ℕ
strings_left l s i = lines_from (string_line_in l s) i (strings_in s - i) ++ lines_from (function_line_in l s) 0 (functions_in s)

-- what is still to be printed
abbrev pub left : Layout → List ℕ → Spot → List ℕ
left l s counts = listed l s
left l s (strings i) = strings_left l s i
left l s (units i j) = (hexes (drop j (units_in l s i)) ++ closing (length (units_in l s i)) (slot_of l s i)) ++ strings_left l s (i + 1)
left l s (functions i) = lines_from (function_line_in l s) i (functions_in s - i)
left l s end = []

-- the next piece of it
abbrev pub piece_at : Layout → List ℕ → Spot → List ℕ
piece_at l s counts = counts_line (length s) (strings_in s) (functions_in s)
piece_at l s (strings i) = pick (ltb i (strings_in s)) (string_start l s i) []
piece_at l s (units i j) =
    pick (ltb j (length (units_in l s i))) (hexes (take chunk (drop j (units_in l s i))))
    (closing (length (units_in l s i)) (slot_of l s i))
piece_at l s (functions i) = pick (ltb i (functions_in s)) (function_line_in l s i) []
piece_at l s end = []

-- and where the listing goes on
abbrev pub next_of : Layout → List ℕ → Spot → Spot
next_of l s counts = strings 0
next_of l s (strings i) = pick (ltb i (strings_in s)) (units i 0) (functions 0)
next_of l s (units i j) = pick (ltb j (length (units_in l s i))) (units i (j + chunk)) (strings (i + 1))
next_of l s (functions i) = pick (ltb i (functions_in s)) (functions (i + 1)) end
next_of l s end = end

-- whether all is printed
abbrev pub is_end : Spot → Bool
is_end counts = false
is_end (strings i) = false
is_end (units i j) = false
is_end (functions i) = false
is_end end = true

-- n pieces, and where the listing goes on behind them
unfoldable pub pieces : Layout → List ℕ → ℕ → Spot → List ℕ
pieces l s zero x = []
pieces l s (suc n) x = piece_at l s x ++ pieces l s n (next_of l s x)

unfoldable pub after : Layout → List ℕ → ℕ → Spot → Spot
after l s zero x = x
after l s (suc n) x = after l s n (next_of l s x)

-- a number that falls with each piece
abbrev pub phase : Spot → ℕ
phase counts = 3
phase (strings i) = 2
phase (units i j) = 2
phase (functions i) = 1
phase end = 0

unfoldable pub steps : Layout → List ℕ → Spot → ℕ
steps l s x = length (left l s x) + phase x

-- ---- the code's place in a listing

abbrev pub spot_of : Point → Spot
spot_of point_is.Counts = counts
spot_of (point_is.Strings t) = strings t.id
spot_of (point_is.Units t j) = units t.id j
spot_of (point_is.Functions i) = functions i
spot_of point_is.End = end

-- the turn of the next string
abbrev pub turn_after : Turn → Bool → Turn
turn_after t identifier = record { id = t.id + 1; before = t.before + if_set identifier 1 }

-- a turn counts the identifiers before its string
abbrev pub Counted : Places → List ℕ → Turn → Type 0
Counted p s t = t.before ≡ rank_of p.layout s t.id

-- a point counts them along
abbrev pub Good : Places → List ℕ → Point → Type 0
Good p s point_is.Counts = Unit {0}
Good p s (point_is.Strings t) = Counted p s t
Good p s (point_is.Units t j) = (t.id < p.strings) × Counted p s t
Good p s (point_is.Functions i) = Unit {0}
Good p s point_is.End = Unit {0}

-- the slot of a string by its flag and by the identifiers before it
abbrev pub slot_at : Layout → List ℕ → Bool → ℕ → Option ℕ
slot_at l s identifier rank = pick identifier (Some (hash_in l s rank)) None

-- an admitted image and its index
pub record Ready (p : Places) (s x : List ℕ) : Type 0 where
  pub laid : Laid p s
  pub index : Indexed p s x

-- ---- what the makers of pieces promise

-- the piece at a point stands at a place of the buffer; the answer says where it ends and where the listing goes on
pub record Gives (p : Places) (s old : List ℕ) (at : ℕ) (x : Point) (r : Piece) (new : List ℕ) : Type 0 where
  pub wrote : Wrote old at (piece_at p.layout s (spot_of x)) r.end new
  pub next : spot_of r.next ≡ next_of p.layout s (spot_of x)
  pub good : Good p s r.next
  pub most : r.end ≤ at + 256

-- how many pieces are made at a time
abbrev pub batch : ℕ
batch = 256

-- so many pieces stand at the buffer's front
pub record GivesAll (p : Places) (s old : List ℕ) (x : Point) (r : Piece) (new : List ℕ) : Type 0 where
  pub wrote : Wrote old 0 (pieces p.layout s batch (spot_of x)) r.end new
  pub next : spot_of r.next ≡ after p.layout s batch (spot_of x)
  pub good : Good p s r.next
  pub most : r.end ≤ length old

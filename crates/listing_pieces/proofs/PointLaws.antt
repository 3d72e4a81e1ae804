-- Each maker of a piece gives the piece at its point.
use Rattle.std.specs.Prelude.{Option}
use mathlib.Core.Path.{◌≡◌, refl, ap, sym, ◌∙◌, subst}
use mathlib.Core.Bool.{Bool, true, false, not}
use mathlib.Core.Logic.{◌⊎◌, inl, inr}
use mathlib.Core.List.{List, ◌++◌}
use Prim.Native.Nat.{ℕ, zero, suc, ◌+◌, ◌-◌, ◌*◌, ◌≤◌, ◌<◌}
use native.Mathlib.Omega.{arith}
use borrow.Author.Tests.{not-true, lt-ltb, le-ltb}
use lib.Dec.{ltb}
use lib.ListN.{length, take, drop, length-drop, length-append}
use lib.Seq.{drop-cons, take_all, sets, length-sets}
use Rattle.bits.specs.Choice.{pick, sum_below}
use Rattle.bits.proofs.TestLaws.{below_or, sum_next}
use Rattle.bits.proofs.WriteLaws.{sets_append}
use Rattle.format.specs.declared.Layout.{Layout}
use Rattle.format.specs.Entry.{bit}
use Rattle.format.specs.Table.{if_set}
use Rattle.image.specs.Sections.{functions_in, strings_in}
use Rattle.image.specs.Strings.{Str, string_of, unit_size}
use Rattle.image.specs.Kinds.{is_identifier, rank_of}
use Rattle.image.proofs.KindLaws.{rank_lt}
use Rattle.image.specs.Functions.{Func, func_of}
use Rattle.sections.specs.declared.Places.{Places}
use Rattle.sections.specs.Places.{Placed, Laid}
use Rattle.sections.proofs.SectionLaws.{sectioned}
use Rattle.function_table.specs.declared.Function.{Function}
use Rattle.function_table.specs.Functions.{as_func}
use Rattle.string_tables.specs.declared.Place.{Place}
use Rattle.string_walk.specs.declared.StringRecord.{StringRecord}
use Rattle.string_walk.specs.Records.{rank_in}
use Rattle.string_walk.specs.Places.{Lies, Stands}
use Rattle.string_walk.proofs.RecordLaws.{record_string, record_count, record_unit, record_small, units_inside}
use Rattle.string_index.specs.declared.HeldString.{HeldString}
use Rattle.string_index.specs.Filling.{Tells}
use Rattle.text.specs.Text.{hexes, spaced, Wrote}
use Rattle.listing_lines.specs.Lines.{counts_line, string_words, function_line, closing, units_shown}
use Rattle.listing_pieces.specs.declared.Point.{Point}
use Rattle.listing_pieces.specs.declared.Point.TheVariants.{Counts, Strings, Units, Functions, End}
use Rattle.listing_pieces.specs.declared.Piece.{Piece}
use Rattle.listing_pieces.specs.declared.Turn.{Turn}
use Rattle.listing_pieces.specs.Listing.{slot_of, function_line_in}
use Rattle.listing_pieces.specs.Pieces.{units_in, chunk, string_start, piece_at, is_end, pieces, after, steps, spot_of, turn_after}
use Rattle.listing_pieces.specs.Pieces.{Counted, slot_at, Good, Gives, batch, GivesAll}
use Rattle.listing_pieces.proofs.PieceLaws.{after-falls}

-- a piece that ends somewhere, and a point to go on from
abbrev pub piece : ℕ → Point → Piece
piece n x = record { end = n; next = x }

same_start : (i : ℕ) (w w' b b' : Bool) (n n' : ℕ) → w ≡ w' → b ≡ b' → n ≡ n'
    → spaced (string_words i w b n) ≡ spaced (string_words i w' b' n')
same_start i w w' b b' n n' e f g = rw (e, f, g)

-- ---- the identifiers before a string

module _ (l : Layout) (s : List ℕ) where
  rank_none : 0 ≡ rank_of l s 0
  unfolding rank_of sum_below
  rank_none = refl

  rank_more : (i : ℕ) → rank_of l s (i + 1) ≡ rank_of l s i + bit (is_identifier l s i)
  unfolding rank_of
  rank_more i = sum_next (λ j. bit (is_identifier l s j)) i

  bit_most : (b : Bool) → bit b ≤ 1
  bit_most true = omega arith
  bit_most false = omega arith

  -- they are no more than the strings before it
  rank_most : (i : ℕ) → rank_of l s i ≤ i
  unfolding rank_of sum_below
  rank_most zero = omega arith
  rank_most (suc i) = omega (arith, rank_most i, bit_most (is_identifier l s i))

set-bit : (b : Bool) → if_set b 1 ≡ bit b
set-bit true = refl
set-bit false = refl

-- ---- line 1

-- it is put, and the first string is next
pub gives_counts : (p : Places) (s : List ℕ) → Placed p s → (old new : List ℕ) (at end : ℕ)
    → Wrote old at (counts_line (length s) p.strings p.functions) end new → end ≤ at + 69
    → Gives p s old at Counts (piece end (Strings (record { id = 0; before = 0 }))) new
gives_counts p s h old new at end w most =
    let z = sectioned p s h in
    record {
      wrote = subst (λ (n : ℕ). Wrote old at (counts_line (length s) (strings_in s) n) end new) z.functions
          (subst (λ (n : ℕ). Wrote old at (counts_line (length s) n p.functions) end new) z.strings w);
      next = refl;
      good = rank_none p.layout s;
      most = omega arith;
    }

-- ---- a string by its place, as the laws on records say it

module _ (p : Places) (s : List ℕ) (i : ℕ) (q : Place) (g : Lies p s i q) where
  abbrev placed : StringRecord
  placed = record { start = p.storage_at + q.at; place = q; rank = rank_in p.layout s i }

  stands : Stands p s i placed
  stands = record { place = g; start = refl; rank = refl }

-- ---- a string before its units

-- the start of its line is put, as an index tells of it
pub record StringPut (p : Places) (s old new : List ℕ) (at end : ℕ) (t : Turn) (q : HeldString) : Type 0 where
  pub known : t.id < p.strings
  pub counted : Counted p s t
  pub tells : Tells p s t.id q
  pub wrote : Wrote old at (spaced (string_words t.id q.place.wide q.identifier q.place.count)) end new
  pub most : end ≤ at + 48

module _ (p : Places) (s : List ℕ) (h : Placed p s) (old new : List ℕ) (at end : ℕ) where
  pub no_string_lem : (t : Turn) → p.strings ≤ t.id → Gives p s old at (Strings t) (piece at (Functions 0)) old
  no_string_lem t k =
      let e : ltb t.id (strings_in s) ≡ false = le-ltb t.id (strings_in s) (omega (arith, (sectioned p s h).strings)) in
      record { wrote = rw e (omega arith, refl); next = rw e; good = tt; most = omega arith }

  pub gives_string : (t : Turn) (q : HeldString) → StringPut p s old new at end t q
      → Gives p s old at (Strings t) (piece end (Units t 0)) new
  unfolding string_start
  gives_string t q x =
      let i : ℕ = t.id in
      let r : StringRecord = placed p s i q.place x.tells.place in
      let g : Stands p s i r = stands p s i q.place x.tells.place in
      let e : ltb i (strings_in s) ≡ true = lt-ltb i (strings_in s) (omega (arith, x.known, (sectioned p s h).strings)) in
      let wd : q.place.wide ≡ (string_of p.layout s i).wide = ap (λ (y : Str). y.wide) (record_string p s h i r g) in
      record {
        wrote = rw e (subst (λ (y : List ℕ). Wrote old at y end new)
            (same_start i _ _ _ _ _ _ wd x.tells.flag (record_count p s h i r g)) x.wrote);
        next = rw e;
        good = (x.known, x.counted);
        most = omega (arith, x.most);
      }

-- ---- the units of a string

-- a string in its turn, whose line has begun, and what an index tells of it
pub record InLine (p : Places) (s : List ℕ) (t : Turn) (q : HeldString) : Type 0 where
  pub laid : Laid p s
  pub known : t.id < p.strings
  pub counted : Counted p s t
  pub tells : Tells p s t.id q

module _ {p : Places} {s : List ℕ} {t : Turn} {q : HeldString} (x : InLine p s t q) where
  abbrev us : List ℕ
  us = units_in p.layout s t.id

  abbrev begin : ℕ
  begin = p.storage_at + q.place.at

  here : Placed p s
  here = x.laid.placed

  abbrev string : StringRecord
  string = placed p s t.id q.place x.tells.place

  it_stands : Stands p s t.id string
  it_stands = stands p s t.id q.place x.tells.place

  count_is : q.place.count ≡ length us
  count_is = record_count p s here t.id string it_stands

  -- its numbers are small, so that no sum wraps
  pub line_small : (q.place.count < 4294967296) × (q.place.at < 4294967296) × (p.storage_at < 4294967296)
  line_small =
      let (a, b) = record_small p s here t.id string it_stands in
      let z = sectioned p s here in
      (a, b, omega arith)

  -- units one by one are those of the string
  listed_units : (n i : ℕ) → i + n ≤ q.place.count → units_shown s begin q.place.wide i n ≡ take n (drop i us)
  unfolding units_shown
  listed_units zero i k = refl
  listed_units (suc n) i k =
      rw (
        drop-cons us i 0 (omega (arith, count_is)),
        ← record_unit p s here t.id string it_stands i (omega arith),
        listed_units n (suc i) (omega arith),
      )

  left-length : (j : ℕ) → length (drop j us) ≡ q.place.count - j
  left-length j = length-drop j us ∙ ap (λ (n : ℕ). n - j) (sym count_is)

  -- they lie in the image
  pub units_in_lem : (j n : ℕ) → j + n ≤ q.place.count → begin + (j + n) * unit_size q.place.wide ≤ length s
  units_in_lem j n k = units_inside p s here t.id string it_stands (j + n) k

  -- ---- its hash slot

  pub slot_known : q.identifier ≡ true → t.before < p.identifiers
  slot_known e =
      let z = sectioned p s here in
      omega (arith, x.counted, rank_lt x.laid.admitted t.id (omega (arith, x.known)) (sym x.tells.flag ∙ e))

  slot_is : (slot : Option ℕ) → slot ≡ slot_at p.layout s q.identifier t.before → slot ≡ slot_of p.layout s t.id
  unfolding slot_of
  slot_is slot e = e ∙ rw (x.tells.flag, x.counted)

  -- ---- the string behind it

  pub turn_small : (t.id < 4294967296) × (t.before < 4294967296)
  turn_small =
      let z = sectioned p s here in
      (omega (arith, x.known), omega (arith, x.known, x.counted, rank_most p.layout s t.id))

  counted-after : Counted p s (turn_after t q.identifier)
  counted-after = rw (rank_more p.layout s t.id, ← x.tells.flag, ← x.counted, set-bit q.identifier)

  -- no unit is left, and the end of the line is put
  pub gives_closing : (j : ℕ) → q.place.count ≤ j → (slot : Option ℕ) → slot ≡ slot_at p.layout s q.identifier t.before
      → (old new : List ℕ) (at end : ℕ) → Wrote old at (closing q.place.count slot) end new → end ≤ at + 11
      → (n : Turn) → n ≡ turn_after t q.identifier → Gives p s old at (Units t j) (piece end (Strings n)) new
  gives_closing j none slot e old new at end w most n m =
      let b : ltb j (length us) ≡ false = le-ltb j (length us) (omega (arith, count_is)) in
      record {
        wrote = rw (b, ← count_is, ← slot_is slot e) w;
        next = rw (b, m);
        good = rw m counted-after;
        most = omega arith;
      }

-- n units are to be put from unit j on: as many as are left, and at most a chunk
pub record Chunk (p : Places) (s : List ℕ) (t : Turn) (q : HeldString) (j n : ℕ) : Type 0 where
  pub line : InLine p s t q
  pub some : j < q.place.count
  pub least : n ≡ pick (ltb (q.place.count - j) chunk) (q.place.count - j) chunk

module _ {p : Places} {s : List ℕ} {t : Turn} {q : HeldString} {j n : ℕ} (x : Chunk p s t q j n) where
  abbrev count : ℕ
  count = q.place.count

  abbrev shown : List ℕ
  shown = units_shown s (p.storage_at + q.place.at) q.place.wide j n

  abbrev rest : List ℕ
  rest = drop j (units_in p.layout s t.id)

  pub least_units : (n ≤ chunk) × (j + n ≤ count) × (shown ≡ take chunk rest)
  least_units = go (below_or (count - j) chunk)
    where
      listed : j + n ≤ count → shown ≡ take n rest
      listed h = listed_units x.line n j h

      few : length rest ≡ count - j
      few = left-length x.line j

      go : (count - j < chunk) ⊎ (chunk ≤ count - j) → (n ≤ chunk) × (j + n ≤ count) × (shown ≡ take chunk rest)
      go (inl b) =
          let m : n ≡ count - j = x.least ∙ rw (lt-ltb (count - j) chunk b) in (
            omega arith,
            omega (arith, x.some),
            listed (omega (arith, x.some)) ∙ take_all n rest (omega (arith, few)) ∙ sym (take_all chunk rest (omega (arith, few))),
          )
      go (inr b) =
          let m : n ≡ chunk = x.least ∙ rw (le-ltb (count - j) chunk b) in (
            omega arith,
            omega (arith, x.some),
            listed (omega (arith, x.some)) ∙ ap (λ (a : ℕ). take a rest) m,
          )

  pub gives_units : (old new : List ℕ) (at end : ℕ) → Wrote old at (hexes shown) end new → end ≡ at + n * 4
      → Gives p s old at (Units t j) (piece end (Units t (j + 64))) new
  gives_units old new at end w v =
      let e : ltb j (length (units_in p.layout s t.id)) ≡ true
      = lt-ltb j (length (units_in p.layout s t.id)) (omega (arith, x.some, count_is x.line)) in
      record {
        wrote = rw (e, ← least_units.2) w;
        next = rw e;
        good = (x.line.known, x.line.counted);
        most = omega (arith, least_units.0);
      }

-- ---- functions

-- the line of function i, read as f, is put
pub record FunctionPut (p : Places) (s old new : List ℕ) (at end i : ℕ) (f : Function) : Type 0 where
  pub known : i < p.functions
  pub is : as_func f ≡ func_of p.layout s i
  pub wrote : Wrote old at (function_line i f.large f.begin f.size) end new
  pub most : end ≤ at + 67

module _ (p : Places) (s : List ℕ) (h : Placed p s) (old new : List ℕ) (at end : ℕ) where
  pub no_function_lem : (i : ℕ) → p.functions ≤ i → Gives p s old at (Functions i) (piece at End) old
  no_function_lem i k =
      let e : ltb i (functions_in s) ≡ false = le-ltb i (functions_in s) (omega (arith, (sectioned p s h).functions)) in
      record { wrote = rw e (omega arith, refl); next = rw e; good = tt; most = omega arith }

  pub gives_function : (i : ℕ) (f : Function) → FunctionPut p s old new at end i f
      → Gives p s old at (Functions i) (piece end (Functions (i + 1))) new
  unfolding function_line_in
  gives_function i f x =
      let e : ltb i (functions_in s) ≡ true = lt-ltb i (functions_in s) (omega (arith, x.known, (sectioned p s h).functions)) in
      record {
        wrote = rw e (subst (λ (g : Func). Wrote old at (function_line i g.large g.begin g.size) end new) x.is x.wrote);
        next = rw e;
        good = tt;
        most = omega arith;
      }

pub gives_end : (p : Places) (s old : List ℕ) (at : ℕ) → Gives p s old at End (piece at End) old
gives_end p s old at = record { wrote = (omega arith, refl); next = refl; good = tt; most = omega arith }

-- ---- the loop over pieces: after i of them, what is left to make

pub record Going (p : Places) (s out₀ : List ℕ) (x₀ : Point) (out : List ℕ) (x : Point) (at i : ℕ) : Type 0 where
  pub few : i ≤ batch
  pub same : length out ≡ length out₀
  pub room : at + (batch - i) * 256 ≤ length out
  pub good : Good p s x
  pub text : sets out at (pieces p.layout s (batch - i) (spot_of x)) ≡ sets out₀ 0 (pieces p.layout s batch (spot_of x₀))
  pub size : at + length (pieces p.layout s (batch - i) (spot_of x)) ≡ length (pieces p.layout s batch (spot_of x₀))
  pub to : after p.layout s (batch - i) (spot_of x) ≡ after p.layout s batch (spot_of x₀)

module _ (p : Places) (s out₀ : List ℕ) (x₀ : Point) where
  pub going_first : 65_536 ≤ length out₀ → Good p s x₀ → Going p s out₀ x₀ out₀ x₀ 0 0
  going_first h g = record { few = omega arith; same = refl; room = omega arith; good = g; text = refl; size = omega arith; to = refl }

  pub going_next : (out : List ℕ) (x : Point) (at i : ℕ) → Going p s out₀ x₀ out x at i → i < batch
      → (out' : List ℕ) (r : Piece) → Gives p s out at x r out' → Going p s out₀ x₀ out' r.next r.end (i + 1)
  unfolding pieces after
  going_next out x at i g h out' r v =
      let k : length out' ≡ length out = ap length v.wrote.1 ∙ length-sets out at (piece_at p.layout s (spot_of x)) in
      let m : ℕ = batch - (i + 1) in
      let e : batch - i ≡ suc m = omega arith in
      let a : List ℕ = piece_at p.layout s (spot_of x) in
      let b : List ℕ = pieces p.layout s m (spot_of r.next) in
      let ab : pieces p.layout s (batch - i) (spot_of x) ≡ a ++ b = rw (e, v.next) in
      let n : length (a ++ b) ≡ length a + length b = length-append a b in
      record {
        few = omega arith;
        same = k ∙ g.same;
        room = omega (arith, k, v.most, g.room);
        good = v.good;
        text = rw (v.wrote.1, v.wrote.0) (sym (sets_append a b out at) ∙ ap (sets out at) (sym ab) ∙ g.text);
        size = omega (arith, v.wrote.0, n, ap length ab, g.size);
        to = rw v.next (rw e at g.to);
      }

  pub going_last : (out : List ℕ) (x : Point) (at i : ℕ) → Going p s out₀ x₀ out x at i → batch ≤ i
      → GivesAll p s out₀ x₀ (piece at x) out
  unfolding pieces after
  going_last out x at i g h =
      let e : batch - i ≡ 0 = omega arith in
      record {
        wrote = (
          let k : at + length (pieces p.layout s 0 (spot_of x)) ≡ length (pieces p.layout s batch (spot_of x₀)) = rw e
              at g.size in omega arith,
          rw e at g.text,
        );
        next = rw e at g.to;
        good = g.good;
        most = omega (arith, g.room, g.same);
      }

-- fewer steps are left behind a batch of pieces, so that a loop over batches ends
pub batch-falls : (p : Places) (s old new : List ℕ) (x : Point) (r : Piece) → GivesAll p s old x r new → (b : Bool)
    → b ≡ is_end (spot_of x) → not b ≡ true
    → steps p.layout s (spot_of r.next) < steps p.layout s (spot_of x)
batch-falls p s old new x r g b e h = rw g.next (after-falls p.layout s batch (spot_of x) (omega arith) (sym e ∙ not-true b h))

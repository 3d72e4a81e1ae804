-- A string in its turn, as the code writes it.
use mathlib.Core.Path.{◌≡◌, refl, ap, sym, ◌∙◌, subst⁻¹}
use mathlib.Core.Bool.{Bool, true, false}
use mathlib.Core.Option.{none, some}
use mathlib.Core.List.{List}
use Prim.Native.Nat.{ℕ, ◌+◌, ◌-◌, ◌*◌, ◌≤◌, ◌<◌}
use native.Mathlib.Numerals.{add-one}
use native.Mathlib.Omega.{arith}
use lib.Dec.{eqb}
use lib.ListN.{length, replicate, length-replicate}
use lib.Seq.{sets}
use Rattle.bits.specs.Choice.{pick, both}
use Rattle.bits.specs.Bytes.{bytes_at, ascii}
use Rattle.bits.proofs.WriteLaws.{sets_append}
use Rattle.format.specs.declared.Mode.{Mode}
use Rattle.format.specs.Entry as entry
use Rattle.footer.specs.Finalize.{size_limit}
use Rattle.utf.specs.Utf8.{utf16, unit_bytes}
use Rattle.image.specs.Sections.{strings_in}
use Rattle.image.specs.Strings.{Str, size_of, string_of}
use Rattle.edits.specs.Packing.{Packed, gap_of, standing, placed, store_of, packed}
use Rattle.edits.specs.Rebuild.{overs, region, padded}
use Rattle.edits.proofs.TableLaws.{overs_next, overs-room}
use Rattle.edits.proofs.PackLaws.{size_room, start_is}
use Rattle.sections.specs.declared.Places.{Places}
use Rattle.sections.specs.Places.{Placed}
use Rattle.sections.proofs.SectionLaws.{Sectioned, sectioned}
use Rattle.string_tables.specs.Strings.{as_place}
use Rattle.string_packing.specs.declared.Shape.{Shape}
use Rattle.string_packing.specs.declared.Packer.{Packer}
use Rattle.string_packing.specs.declared.Turn.{Turn}
use Rattle.string_edits.specs.Values.{Values, only}
use Rattle.string_edits.specs.Told.{Told, values_in}
use Rattle.string_packing.specs.Strings.{as_string, new_string, string_with, strings_with, Shaped, Held}
use Rattle.string_packing.specs.declared.Sizes.{Sizes}
use Rattle.string_walk.proofs.RecordLaws.{record_small, record_inside, record_string}
use Rattle.string_packing.specs.Pass.{Reached, InTurn, Turned}
use Rattle.string_packing.proofs.ShapeLaws.{place_is, size_is, place_next, sums_more}
use Rattle.string_packing.proofs.PassLaws.{storage_is, overflows_are}
use Rattle.string_packing_write.specs.declared.RegionPlaces.{RegionPlaces}
use Rattle.string_packing_write.specs.Region.{put_entry, put_string, region_put, EntryFits, StringFits, Roomy, source_of, stored_bytes}
use Rattle.string_packing_write.specs.Written.{Behind, Sized}
use Rattle.string_packing_write.proofs.RegionLaws.{laid_next, Joined, Filled, region-padded}

-- the bytes of a value, by its width
value_bytes : (value : List ℕ) (b : Bool) → (as_string value).wide ≡ b
    → pick b (unit_bytes (utf16 value)) value ≡ (as_string value).bytes
unfolding as_string
value_bytes value b e = ap (λ (c : Bool). pick c (unit_bytes (utf16 value)) value) (sym e) ∙ go (ascii value)
  where
    go : (a : Bool) → pick (pick {A = Str} a (record { wide = false; bytes = value })
        (record { wide = true; bytes = unit_bytes (utf16 value) })).wide (unit_bytes (utf16 value)) value
        ≡ (pick {A = Str} a (record { wide = false; bytes = value }) (record { wide = true; bytes = unit_bytes (utf16 value) })).bytes
    go true = refl
    go false = refl

-- where a string stood lies in the image
module _ (m : Mode) (p : Places) (s : List ℕ) (id : ℕ) (x : Shape) (c : Packer) (it : InTurn p s x c) (r : Turn)
    (tu : Turned m p s id x c r) where
  pub old_in : r.old.start + size_of (as_place r.old.place) ≤ length s
  old_in = record_inside p s it.laid.placed c.old.id r.old tu.old

  pub old_few : r.old.place.count < 4294967296
  old_few = (record_small p s it.laid.placed c.old.id r.old tu.old).0

-- a string is in its turn, one of them gets a value of a shape, and a buffer of n bytes has room for the one in its turn
pub record Due (m : Mode) (p : Places) (s value : List ℕ) (id : ℕ) (x : Shape) (c : Packer) (to : RegionPlaces) (n : ℕ) : Type 0 where
  pub turn : InTurn p s x c
  pub shaped : Shaped x (as_string value)
  pub fits : StringFits m to c.old.id c.over c.at (string_with p.layout s (only id value) c.old.id) n

-- the entry of a string is written, then the zeros before it, then its bytes; n is the size that it had
pub record Wrote (p : Places) (s value : List ℕ) (id : ℕ) (x : Shape) (c : Packer) (to : RegionPlaces) (r : Turn) (n : ℕ)
    (out o1 o2 o3 : List ℕ) : Type 0 where
  pub size : n ≡ size_of (as_place r.old.place)
  pub entered : o1 ≡ put_entry to c.old.id c.over (as_place r.new) out
  pub zeros : o2 ≡ sets o1 (to.storage_at + c.at) (replicate (r.new.at - c.at) 0)
  pub stored : o3 ≡ sets o2 (to.storage_at + r.new.at)
      (stored_bytes (eqb c.old.id id) x.wide s value r.old.start n)

module _ (m : Mode) (p : Places) (s value : List ℕ) (id : ℕ) (x : Shape) (c : Packer) (to : RegionPlaces) (room : ℕ)
    (d : Due m p s value id x c to room) where
  abbrev strings : ℕ → Str
  strings = string_with p.layout s (only id value)

  -- the string in its turn: its gap, and where it starts
  abbrev gap : ℕ
  gap = gap_of m (strings c.old.id).wide c.at

  abbrev start : ℕ
  start = c.at + gap

  held : Held p.layout s strings c.old.id (eqb c.old.id id) x
  unfolding string_with
  held = ((λ t. rw t d.shaped), (λ t. rw t))

  module _ (r : Turn) (tu : Turned m p s id x c r) where
    new_is : as_place r.new ≡ standing start (strings c.old.id)
    new_is =
        tu.new
        ∙ place_is m p.layout s strings c.old.id c.at (eqb c.old.id id) x held (as_place r.old.place)
        tu.old.place.is

    pub new_at : r.new.at ≡ start
    new_at = ap (λ (q : entry.Place). q.at) new_is

    old_bytes_lem : bytes_at s r.old.start (size_of (as_place r.old.place)) ≡ (string_of p.layout s c.old.id).bytes
    old_bytes_lem = ap (λ (t : Str). t.bytes) (record_string p s d.turn.laid.placed c.old.id r.old tu.old)

    bytes_is : stored_bytes (eqb c.old.id id) x.wide s value r.old.start (size_of (as_place r.old.place)) ≡ (strings
        c.old.id).bytes
    unfolding stored_bytes source_of string_with
    bytes_is = go (eqb c.old.id id)
      where
        go : (n : Bool)
            → pick (both n x.wide) (unit_bytes (utf16 value))
            (pick n value (bytes_at s r.old.start (size_of (as_place r.old.place))))
            ≡ (new_string (pick n (some value) none) (string_of p.layout s c.old.id)).bytes
        go true = value_bytes value x.wide d.shaped.0
        go false = old_bytes_lem

    -- ---- what the calls ask for

    pub entry-fits : EntryFits to c.old.id c.over (as_place r.new) room
    entry-fits = subst⁻¹ (λ (q : entry.Place). EntryFits to c.old.id c.over q room) new_is d.fits.entry

    pub place_low : to.storage_at + r.new.at ≤ size_limit
    place_low = omega (arith, d.fits.limit, new_at)

    pub gap-room : to.storage_at + c.at + (r.new.at - c.at) ≤ room
    gap-room = omega (arith, d.fits.store, new_at)

    pub bytes_room : to.storage_at + r.new.at + length
        (stored_bytes (eqb c.old.id id) x.wide s value r.old.start (size_of (as_place r.old.place))) ≤ room
    bytes_room = rw bytes_is (omega (arith, d.fits.store, new_at))

    -- the pass stands behind it
    pub behind : Behind m p s c (strings c.old.id) r.next
    behind = record {
      going = tu.going;
      string = tu.string;
      over = tu.over ∙ ap (λ (q : entry.Place). c.over + entry.bit (entry.is_over q)) new_is;
      at =
          omega (
            arith,
            tu.at,
            new_at,
            ap size_of tu.new
                ∙ size_is m p.layout s strings c.old.id c.at (eqb c.old.id id) x held (as_place r.old.place)
                tu.old.place.is,
          );
    }

    -- ---- what they leave

    pub string-put : (n : ℕ) (out o1 o2 o3 : List ℕ) → Wrote p s value id x c to r n out o1 o2 o3
        → o3 ≡ put_string m to c.old.id c.over c.at (strings c.old.id) out
    unfolding put_string
    string-put n out o1 o2 o3 w =
        let g : r.new.at - c.at ≡ gap = omega (arith, new_at) in
        let a : to.storage_at + r.new.at ≡ to.storage_at + c.at + gap = omega (arith, new_at) in
        let b : stored_bytes (eqb c.old.id id) x.wide s value r.old.start n ≡ (strings c.old.id).bytes
        = ap (stored_bytes (eqb c.old.id id) x.wide s value r.old.start) w.size ∙ bytes_is in
        let o : o1 ≡ put_entry to c.old.id c.over (standing start (strings c.old.id)) out
        = w.entered ∙ ap (λ (q : entry.Place). put_entry to c.old.id c.over q out) new_is in
        w.stored ∙ rw (b, a, w.zeros, g, o, sets_append (replicate gap 0) (strings c.old.id).bytes, length-replicate)

-- ---- the strings f, one after the other

-- the first strings of f are packed, another one is next, and a buffer of n bytes has room for all
pub record Filling (m : Mode) (p : Places) (s : List ℕ) (f : ℕ → Str) (c : Packer) (to : RegionPlaces) (n : ℕ) : Type 0 where
  pub placed : Placed p s
  pub known : c.old.id < p.strings
  pub reached : Reached m p s f c
  pub roomy : Roomy to p.strings (packed m f (strings_in s)) n

module _ (m : Mode) (p : Places) (s : List ℕ) (f : ℕ → Str) (c : Packer) (to : RegionPlaces) (n : ℕ)
    (q : Filling m p s f c to n) where
  abbrev from : ℕ
  from = c.at + gap_of m (f c.old.id).wide c.at

  here : standing from (f c.old.id) ≡ placed m f c.old.id
  here = place_next m f c.old.id c.at q.reached.sums.0

  over_fits : c.over + entry.bit (entry.is_over (standing from (f c.old.id))) ≤ overs (placed m f) p.strings
  over_fits =
      subst⁻¹ (λ (y : entry.Place). c.over + entry.bit (entry.is_over y) ≤ overs (placed m f) p.strings) here
      (rw q.reached.sums.1 (overs-room (placed m f) c.old.id p.strings q.known))

  size_fits : from + length (f c.old.id).bytes ≤ length (store_of m f (strings_in s))
  size_fits =
      let known : c.old.id < strings_in s = omega (arith, q.known, (sectioned p s q.placed).strings) in
      rw (q.reached.sums.0, ← start_is m f c.old.id) (size_room m f c.old.id (strings_in s) known)

  -- there is room for the next one
  pub next_fits : StringFits m to c.old.id c.over c.at (f c.old.id) n
  next_fits =
      let z : Sectioned p s = sectioned p s q.placed in
      let ro = q.roomy in
      record {
        entry = record {
          small = omega (arith, ro.smalls, ro.pairs, ro.store, q.known);
          pair = omega (arith, ro.pairs, ro.store, over_fits);
          small_low = omega (arith, ro.smalls, ro.pairs, ro.limit);
          over_low = omega (arith, ro.pairs, ro.limit);
          few = omega (arith, q.known);
          few_over = omega (arith, q.known, q.reached.going.few);
        };
        store = omega (arith, ro.store, size_fits);
        limit = omega (arith, ro.limit, size_fits);
      }

  -- and one string further
  pub next_reached : (r : Packer) → Behind m p s c (f c.old.id) r → Reached m p s f r
  next_reached r b = record {
    going = b.going;
    sums = rw (b.string, b.at, b.over) (sums_more m f c.old.id c.at c.over q.reached.sums);
  }

  pub laid-further : (i : ℕ) (out o1 o2 : List ℕ) → i ≡ c.old.id + 1
      → o1 ≡ region_put to c.old.id (packed m f c.old.id) out
      → o2 ≡ put_string m to c.old.id c.over c.at (f c.old.id) o1 → o2 ≡ region_put to i (packed m f i) out
  laid-further i out o1 o2 e h g =
      let next
      =
      laid_next m to f c.old.id out (omega (arith, q.roomy.smalls, q.known))
      (omega (
        arith,
        q.roomy.pairs,
        overs-room (placed m f) c.old.id p.strings q.known,
        overs_next (placed m f)
            c.old.id,
      )) in
      rw (e, add-one, next, ← q.reached.sums.1, ← q.reached.sums.0, ← h) g

-- behind the last string
pub all_strings : (m : Mode) (p : Places) (s : List ℕ) → Placed p s → (v : Values) (i : ℕ) → i ≡ p.strings
    → (to : RegionPlaces) (out o1 : List ℕ)
    → o1 ≡ region_put to i (packed m (string_with p.layout s v) i) out
    → o1 ≡ region_put to p.strings (strings_with m p.layout s v) out
unfolding strings_with
all_strings m p s pl v i e to out o1 h = rw (← (sectioned p s pl).strings) (rw e at h)

-- the region of strings that were measured
module _ (m : Mode) (p : Places) (s : List ℕ) (edits : Told) (text ends : List ℕ) (z : Sizes) (n : ℕ)
    (q : Sized m p s edits text ends z n) (storage : ℕ) (e : storage ≡ p.over_at + z.overflows * 8) where
  abbrev target : RegionPlaces
  target = record { small_at = p.small_at; over_at = p.over_at; storage_at = storage }

  abbrev every : Packed
  every = strings_with m p.layout s (values_in edits text ends)

  store_is : z.storage ≡ length every.store
  store_is = storage_is m p s q.laid.placed (values_in edits text ends) z q.measured

  pairs_are : z.overflows ≡ overs every.place p.strings
  pairs_are =
      overflows_are m p s q.laid.placed (values_in edits text ends) z q.measured
      ∙ ap (overs every.place) (sym (sectioned p s q.laid.placed).strings)

  pub roomy : Roomy target p.strings every n
  roomy =
      let sc : Sectioned p s = sectioned p s q.laid.placed in
      record {
        smalls = omega arith;
        pairs = omega (arith, pairs_are);
        store = omega (arith, q.room, store_is);
        limit = omega (arith, q.limit, store_is);
      }

  pub region-put : (up : ℕ) (out o1 o2 : List ℕ) → Filled target p.strings every (storage + z.storage) up out o1 o2
      → o2 ≡ sets out p.small_at (padded p.small_at (region p.strings every))
  region-put up out o1 o2 f =
      let sc : Sectioned p s = sectioned p s q.laid.placed in
      let j : Joined target p.strings every = record { over = omega arith; storage = omega (arith, pairs_are) } in
      region-padded target p.strings every j (storage + z.storage) up out o1 o2 (omega (arith, store_is)) f

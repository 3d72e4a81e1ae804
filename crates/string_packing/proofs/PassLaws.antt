-- A turn of the pass over the strings.
use mathlib.Core.Path.{◌≡◌, refl, ap, sym, ◌∙◌, subst⁻¹}
use mathlib.Core.Bool.{Bool, true, false}
use mathlib.Core.Logic.{inl, inr}
use mathlib.Core.Option.{Option}
use mathlib.Core.List.{List}
use Prim.Native.Nat.{ℕ, ◌+◌, ◌*◌, ◌≤◌, ◌<◌}
use native.Mathlib.Omega.{arith}
use borrow.Author.Tests.{eqb-true, eqb-false}
use lib.Dec.{eqb}
use lib.ListN.{length, length-append, length-replicate}
use Rattle.bits.specs.Choice.{pick}
use Rattle.bits.specs.Bytes.{up4}
use Rattle.bits.proofs.TestLaws.{which}
use Rattle.format.specs.declared.Layout.{Layout}
use Rattle.format.specs.declared.Mode.{Mode}
use Rattle.format.specs.Table.{if_set}
use Rattle.format.specs.Entry as entry
use Rattle.footer.specs.Finalize.{size_limit}
use Rattle.image.specs.Sections.{strings_in, small_at}
use Rattle.image.specs.Strings.{Str, size_of, string_of}
use Rattle.edits.specs.Rebuild.{overs, region, padded, new_tail}
use Rattle.edits.proofs.TableLaws.{size-smalls, size-pairs}
use Rattle.sections.specs.declared.Places.{Places}
use Rattle.sections.specs.Places.{Placed}
use Rattle.sections.proofs.SectionLaws.{Sectioned, sectioned}
use Rattle.string_tables.specs.declared.Place.{Place}
use Rattle.string_tables.specs.Strings.{as_place}
use Rattle.string_walk.specs.Places.{CursorOf, VisitedOf}
use Rattle.string_packing.specs.declared.Shape.{Shape}
use Rattle.string_walk.specs.declared.Cursor.{Cursor}
use Rattle.string_walk.specs.declared.Visited.{Visited}
use Rattle.string_edits.specs.declared.Next.{Next}
use Rattle.string_edits.specs.Values.{Values, only}
use Rattle.string_edits.specs.Told.{Coming}
use Rattle.string_packing.specs.declared.Stretch.{Stretch}
use Rattle.string_packing.specs.declared.Packer.{Packer}
use Rattle.string_packing.specs.declared.Turn.{Turn}
use Rattle.string_packing.specs.Strings.{as_string, new_string, string_with, strings_with, Shaped, place_with, Held}
use Rattle.string_packing.specs.declared.Sizes.{Sizes}
use Rattle.string_packing.specs.Pass.{string_most, Reached, InTurn, Turned, StretchOf, Measured}
use Rattle.string_packing.proofs.ShapeLaws.{shaped_count, value_count, sums_none, sums_next}

set-bit : (b : Bool) → if_set b 1 ≡ entry.bit b
set-bit true = refl
set-bit false = refl

-- before the first string
pub reached_none : (m : Mode) (p : Places) (s : List ℕ) (f : ℕ → Str) (o : Cursor) → CursorOf p s o → o.id ≡ 0
    → Reached m p s f (record { old = o; over = 0; at = 0 })
reached_none m p s f o h e =
    record { going = record { old = h; few = omega arith; low = omega arith }; sums = rw e (sums_none m f) }

-- the numbers are small
pub strings_few : (p : Places) (s : List ℕ) (x : Shape) (c : Packer) → InTurn p s x c → p.strings ≤ 16777216
strings_few p s x c it = let z : Sectioned p s = sectioned p s it.laid.placed in omega arith

-- a string in its turn, where it stands, and its new place
pub record PlaceFound (m : Mode) (p : Places) (s : List ℕ) (id : ℕ) (x : Shape) (c : Packer) (r : Visited) (n : Place) : Type 0 where
  pub turn : InTurn p s x c
  pub visits : VisitedOf p s c.old r
  pub new : as_place n ≡ place_with m (eqb c.old.id id) x (as_place r.string.place) c.at
  pub near : n.at ≤ c.at + 1

-- what a string takes at a place: one overflow entry or none, and its bytes
pub record Takes (n : Place) (over : Bool) (v z : ℕ) : Type 0 where
  pub overflows : over ≡ entry.is_over (as_place n)
  pub entries : v ≡ if_set over 1
  pub few : v ≤ 1
  pub size : z ≡ size_of (as_place n)
  pub low : z ≤ n.count * 2

module _ (m : Mode) (p : Places) (s : List ℕ) (id : ℕ) (x : Shape) (c : Packer) (r : Visited) (n : Place)
    (f : PlaceFound m p s id x c r n) where
  old_count : r.string.place.count < 4294967296
  old_count =
      let z : Sectioned p s = sectioned p s f.turn.laid.placed in
      omega (arith, f.visits.string.place.count, f.visits.string.place.stored)

  pub count_small : n.count < 4294967296
  count_small = subst⁻¹ (λ (q : entry.Place). q.count < 4294967296) f.new (go (eqb c.old.id id))
    where
      go : (b : Bool) → pick b x.count r.string.place.count < 4294967296
      go true = f.turn.small
      go false = old_count

  -- the turn, by what the code found
  pub turned : (over : Bool) (v z : ℕ) → Takes n over v z
      → Turned m p s id x c (record {
        old = r.string;
        new = n;
        next = record { old = r.next; over = c.over + v; at = n.at + z };
      })
  turned over v z t =
      let e : v ≡ entry.bit (entry.is_over (as_place n)) = t.entries ∙ set-bit over ∙ ap entry.bit t.overflows in
      let small : n.count < 4294967296 = count_small in
      let low : c.at ≤ c.old.id * string_most = f.turn.going.low in
      record {
        old = f.visits.string;
        new = f.new;
        count = count_small;
        string = f.visits.id;
        over = ap (λ (k : ℕ). c.over + k) e;
        at = ap (λ (k : ℕ). n.at + k) t.size;
        going = record {
          old = f.visits.next;
          few = omega (arith, f.turn.going.few, f.visits.id, t.few);
          low = omega (arith, f.visits.id, f.near, t.low);
        };
      }

-- one string of f further, if it is what the code holds of it
pub turned_reached : (m : Mode) (p : Places) (s : List ℕ) (id : ℕ) (x : Shape) (f : ℕ → Str) (c : Packer) (r : Turn)
    → Turned m p s id x c r → Reached m p s f c → Held p.layout s f c.old.id (eqb c.old.id id) x
    → Reached m p s f r.next
turned_reached m p s id x f c r t rc h = record {
  going = t.going;
  sums = rw (t.string, t.at, t.over)
      (sums_next m p.layout s f c.old.id c.at c.over (eqb c.old.id id) x (as_place r.old.place) (as_place r.new)
      rc.sums h t.old.place.is t.new);
}

-- ---- strings in a row, of which one gets a value

module _ (l : Layout) (s : List ℕ) (v : Values) (value : List ℕ) (from strings : ℕ) (r : Stretch)
    (st : StretchOf v value from strings r) where
  -- string i of them is the image's own with that value
  pub stretch_string : (i : ℕ) → from ≤ i → i < r.end → string_with l s v i ≡ string_with l s (only r.next.id value) i
  unfolding string_with
  stretch_string i h k = elim (which (eqb i r.next.id)) [
    | inl t ↦ let e : i ≡ r.next.id = eqb-true i r.next.id t in
        rw t (ap (λ (o : Option (List ℕ)). new_string o (string_of l s i)) (ap v e ∙ st.own (omega arith)))
    | inr t ↦ rw t (ap (λ (o : Option (List ℕ)). new_string o (string_of l s i)) (st.others i h k (eqb-false i r.next.id t)))
  ]

  -- and what the code holds of it
  pub stretch_held : (i : ℕ) → from ≤ i → i < r.end → Held l s (string_with l s v) i (eqb i r.next.id) r.new
  unfolding string_with
  stretch_held i h k = (
    λ t. subst⁻¹ (Shaped r.new) (stretch_string i h k) (rw t st.shaped),
    λ t. stretch_string i h k ∙ rw t,
  )

-- whatever strings get outside of the stretch: what is packed at its start is packed on, up to d
abbrev pub PackedOn : Mode → Places → List ℕ → Stretch → Packer → Packer → Type 0
PackedOn m p s r c d =
    (v : Values) (value : List ℕ) → StretchOf v value c.old.id p.strings r → Reached m p s (string_with p.layout s v) c
    → Reached m p s (string_with p.layout s v) d

pub packed_next : (m : Mode) (p : Places) (s : List ℕ) (r : Stretch) (c d : Packer) (t : Turn) → PackedOn m p s r c d
    → c.old.id ≤ d.old.id → d.old.id < r.end → Turned m p s r.next.id r.new d t → PackedOn m p s r c t.next
packed_next m p s r c d t on h k tu v value st rc =
    turned_reached m p s r.next.id r.new (string_with p.layout s v) d t tu (on v value st rc)
    (stretch_held p.layout s v value c.old.id p.strings r st d.old.id h k)

-- the next edit is of a string, or of none
module _ (v : Values) (value : List ℕ) (from strings : ℕ) (next : Next) (new : Shape) (c : Coming v value from next.id)
    (x : Shaped new (as_string value)) (small : new.count < 4294967296) (most : strings ≤ size_limit) where
  pub stretch_to : next.id < strings → StretchOf v value from strings (record { next = next; new = new; end = next.id + 1 })
  stretch_to h = record {
    more = omega (arith, c.past);
    most = omega arith;
    others = λ i g k d. c.before i g (omega (arith, d));
    own = λ k. c.at (omega arith);
    shaped = x;
    small = small;
  }

  pub stretch_rest : from < strings → strings ≤ next.id
      → StretchOf v value from strings (record { next = next; new = new; end = strings })
  stretch_rest h k = record {
    more = h;
    most = omega arith;
    others = λ i g j d. c.before i g (omega arith);
    own = λ j. absurd (omega arith);
    shaped = x;
    small = small;
  }

-- a value of fewer than 2^32 bytes has fewer units
pub shape_small : (value : List ℕ) (x : Shape) → Shaped x (as_string value) → length value < 4294967296 → x.count < 4294967296
shape_small value x h k = omega (arith, shaped_count x (as_string value) h, value_count value)

-- behind the last string
pub measured : (m : Mode) (p : Places) (s : List ℕ) (f : ℕ → Str) (c : Packer) → c.old.id ≡ p.strings
    → Reached m p s f c → Measured m p f (record { storage = c.at; overflows = c.over })
measured m p s f c e rc =
    record { sums = rw e at rc.sums; few = omega (arith, rc.going.few); low = rw e at rc.going.low }

-- ---- the tail behind them

module _ (m : Mode) (p : Places) (s : List ℕ) (pl : Placed p s) (v : Values) (z : Sizes)
    (me : Measured m p (string_with p.layout s v) z) where
  pub storage_is : z.storage ≡ length (strings_with m p.layout s v).store
  unfolding strings_with
  storage_is = rw (sectioned p s pl).strings at me.sums.0

  pub overflows_are : z.overflows ≡ overs (strings_with m p.layout s v).place (strings_in s)
  unfolding strings_with
  overflows_are = rw (sectioned p s pl).strings at me.sums.1

  pub length-region : p.small_at + length
      (region (strings_in s) (strings_with m p.layout s v)) ≡ p.over_at + z.overflows * 8 + z.storage
  unfolding region strings_with
  length-region =
      let sc : Sectioned p s = sectioned p s pl in
      let q = strings_with m p.layout s v in
      rw (
        length-append,
        length-append,
        size-smalls q.place (strings_in s),
        size-pairs q.place (strings_in s),
        ← overflows_are,
        ← storage_is,
      ) (omega arith)

  pub tail_is : up4 (p.over_at + z.overflows * 8 + z.storage) ≡ new_tail p.layout (strings_with m p.layout s v) s
  unfolding padded
  tail_is =
      let n : ℕ = p.over_at + z.overflows * 8 + z.storage in
      let e : small_at p.layout s + length (region (strings_in s) (strings_with m p.layout s v)) ≡ n
      =
      ap (λ (a : ℕ). a + length (region (strings_in s) (strings_with m p.layout s v))) (sym (sectioned p s pl).small_from)
      ∙ length-region in
      rw (length-append, e, length-replicate) (omega (arith, e))

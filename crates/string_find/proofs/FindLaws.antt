-- Units compared where they stand, and the pass that finds a string.
use Rattle.std.specs.Prelude.{Ok, Err}
use mathlib.Core.Path.{◌≡◌, refl, ap, sym, ◌∙◌, subst}
use mathlib.Core.Bool.{Bool, true, false, not}
use mathlib.Core.List.{List, [], ◌∷◌, ◌++◌}
use Prim.Native.Nat.{ℕ, zero, suc, ◌+◌, ◌-◌, ◌*◌, ◌≤◌, ◌<◌}
use native.Mathlib.Nat.{not-suc-le-zero, add-zero, zero-add, suc-add, add-suc}
use native.Mathlib.Numerals.{add-one}
use native.Mathlib.Omega.{arith}
use borrow.Author.Tests.{eq-eqb, ne_eqb}
use lib.Dec.{eqb}
use lib.ListN.{length, get_or, drop, length-append}
use lib.Seq.{ext_get_or}
use Rattle.refusals.specs.Numbers as refusals
use Rattle.bits.specs.Choice.{pick, both}
use Rattle.bits.specs.Bytes.{bytes_at}
use Rattle.footer.specs.Footer.{same}
use Rattle.footer.proofs.SameLaws.{longer_differs}
use Rattle.image.specs.Sections.{strings_in}
use Rattle.image.specs.Strings.{unit_size, string_of, units_of}
use Rattle.utf.specs.declared.Reading.{Reading}
use Rattle.utf.specs.Utf8.{between, next_byte, completes, units_from, utf16}
use Rattle.utf.proofs.UnitLaws.{rest, units_end}
use Rattle.sections.specs.declared.Places.{Places}
use Rattle.sections.specs.Places.{Placed}
use Rattle.sections.proofs.SectionLaws.{sectioned}
use Rattle.string_walk.specs.declared.Counts.{Counts}
use Rattle.string_walk.specs.declared.StringRecord.{StringRecord}
use Rattle.string_walk.specs.Places.{Stands, Locates}
use Rattle.string_walk.specs.Units.{unit_at}
use Rattle.string_walk.specs.Walk.{visits}
use Rattle.string_walk.proofs.UnitLaws.{units_count, units_at_lem}
use Rattle.string_walk.proofs.RecordLaws.{record_string, record_count, units_inside}
use Rattle.string_find.specs.Find.{find_from, find_id, units_at}

-- ---- lists that are the same

same_append : (a b c d : List ℕ) → length a ≡ length b → same (a ++ c) (b ++ d) ≡ both (same a b) (same c d)
unfolding same
same_append [] [] c d h = refl
same_append [] (y ∷ b) c d h = absurd (omega (arith, h))
same_append (x ∷ a) [] c d h = absurd (omega (arith, h))
same_append (x ∷ a) (y ∷ b) c d h = go (eqb x y) (same_append a b c d (omega (arith, h)))
  where
    go : (r : Bool) → same (a ++ c) (b ++ d) ≡ both (same a b) (same c d)
        → both r (same (a ++ c) (b ++ d)) ≡ both (both r (same a b)) (same c d)
    go true e = e
    go false e = refl

-- ---- units where they stand

pub length_at : (s : List ℕ) (start : ℕ) (wide : Bool) (j n : ℕ) → length (units_at s start wide j n) ≡ n
unfolding units_at
length_at s start wide j zero = refl
length_at s start wide j (suc n) = ap suc (length_at s start wide (suc j) n)

at_append : (s : List ℕ) (start : ℕ) (wide : Bool) (j m n : ℕ) → units_at s start wide j (m + n) ≡ units_at s start wide j m
    ++ units_at s start wide (j + m) n
unfolding units_at
at_append s start wide j zero n = rw (zero-add n, add-zero j)
at_append s start wide j (suc m) n =
    rw (suc-add m n, add-suc j m, ← suc-add j m)
    (ap (λ (l : List ℕ). unit_at s start wide j ∷ l) (at_append s start wide (suc j) m n))

unit-of : (s : List ℕ) (start : ℕ) (wide : Bool) (n j i : ℕ) → i < n
    → get_or (units_at s start wide j n) i 0 ≡ unit_at s start wide (j + i)
unfolding units_at
unit-of s start wide zero j i h = absurd (not-suc-le-zero h)
unit-of s start wide (suc n) j zero h = rw (add-zero j)
unit-of s start wide (suc n) j (suc i) h = rw (add-suc j i, ← suc-add j i) (unit-of s start wide n (suc j) i (omega arith))

-- they are those of the string
pub string_units : (s : List ℕ) (start n : ℕ) (wide : Bool)
    → units_of (record { wide = wide; bytes = bytes_at s start (n * unit_size wide) }) ≡ units_at s start wide 0 n
string_units s start n wide =
    ext_get_or 0 _ (units_at s start wide 0 n) (units_count s start n wide ∙ sym (length_at s start wide 0 n))
    (λ i h.
    let k : i < n = omega (arith, units_count s start n wide) in
    units_at_lem s start n wide i k ∙ sym (unit-of s start wide n 0 i k ∙ rw (zero-add i)))

-- ---- what one byte completes

module _ (s : List ℕ) (start j : ℕ) (wide : Bool) where
  pub none_next : true ≡ same (units_at s start wide j 0) []
  unfolding units_at same
  none_next = refl

  module _ (x u : ℕ) (e : x ≡ unit_at s start wide j) where
    pub one_next : eqb x u ≡ same (units_at s start wide j 1) (u ∷ [])
    unfolding units_at same
    one_next = rw (← e) (go (eqb x u))
      where
        go : (b : Bool) → b ≡ both b true
        go true = refl
        go false = refl

    pub two_differ : (v : ℕ) → (x ≡ u → ⊥) → false ≡ same (units_at s start wide j 2) (u ∷ v ∷ [])
    unfolding units_at same
    two_differ v h = rw (← e, ne_eqb x u h)

    pub two_next : (v y : ℕ) → x ≡ u → y ≡ unit_at s start wide (j + 1)
        → eqb y v ≡ same (units_at s start wide j 2) (u ∷ v ∷ [])
    unfolding units_at same
    two_next v y h f = rw (← e, eq-eqb x u h, ← add-one, ← f) (go (eqb y v))
      where
        go : (b : Bool) → b ≡ both b true
        go true = refl
        go false = refl

-- room for units
pub room_one : (w : Bool) (start j m : ℕ) → start + (j + 1) * unit_size w ≤ m → start + j * unit_size w + unit_size w ≤ m
room_one true start j m h = omega arith
room_one false start j m h = omega arith

pub room_first : (w : Bool) (start j m : ℕ) → start + (j + 2) * unit_size w ≤ m → start + j * unit_size w + unit_size w ≤ m
room_first true start j m h = omega arith
room_first false start j m h = omega arith

pub room_second : (w : Bool) (start j m : ℕ) → start + (j + 2) * unit_size w ≤ m → start + (j + 1) * unit_size w + unit_size w ≤ m
room_second true start j m h = omega arith
room_second false start j m h = omega arith

pub room_less : (w : Bool) (start k n m : ℕ) → k ≤ n → start + n * unit_size w ≤ m → start + k * unit_size w ≤ m
room_less true start k n m h r = omega arith
room_less false start k n m h r = omega arith

pub room-low : (w : Bool) (start n m : ℕ) → start + n * unit_size w ≤ m → n ≤ m
room-low true start n m h = omega arith
room-low false start n m h = omega arith

-- ---- a turn of the comparison; `q` is the reading after byte i, `us` the units that it completes

-- byte i is read, and x is whether all units that were left before it are the same
pub record Turn (s value us : List ℕ) (start j i : ℕ) (wide : Bool) (r q : Reading) (x : Bool) : Type 0 where
  pub known : i < length value
  pub read : q ≡ next_byte r (get_or value i 0)
  pub units : us ≡ completes q
  pub left : same (units_at s start wide j (length (units_from r (drop i value)))) (units_from r (drop i value)) ≡ x

module _ (s value us : List ℕ) (start j i : ℕ) (wide : Bool) (r q : Reading) (x : Bool) (h : Turn s value us start j i wide r q x) where
  parts : units_from r (drop i value) ≡ us ++ units_from q (drop (i + 1) value)
  parts = rest r q value us i h.known h.read h.units

  pub count_left : (all : ℕ) → j + length (units_from r (drop i value)) ≡ all
      → j + length us + length (units_from q (drop (i + 1) value)) ≡ all
  count_left all f = omega (arith, f, ap length parts, length-append us (units_from q (drop (i + 1) value)))

  parted : both (same (units_at s start wide j (length us)) us)
      (same (units_at s start wide (j + length us) (length (units_from q (drop (i + 1) value)))) (units_from q (drop (i + 1) value)))
      ≡ x
  parted =
      let v : List ℕ = units_from q (drop (i + 1) value) in
      sym (same_append (units_at s start wide j (length us)) us (units_at s start wide (j + length us) (length v)) v
      (length_at s start wide j (length us)))
      ∙ ap (λ (l : List ℕ). same l (us ++ v)) (sym (at_append s start wide j (length us) (length v)))
      ∙ ap (λ (m : ℕ). same (units_at s start wide j m) (us ++ v)) (sym (length-append us v))
      ∙ ap (λ (l : List ℕ). same (units_at s start wide j (length l)) l) (sym parts)
      ∙ h.left

  module _ (t : Bool) (f : t ≡ same (units_at s start wide j (length us)) us) where
    pub differs : not t ≡ true → false ≡ x
    differs g =
        go t g (ap (λ (b : Bool). both b
        (same (units_at s start wide (j + length us) (length (units_from q (drop (i + 1) value)))) (units_from q (drop (i + 1) value)))) f
        ∙ parted)
      where
        go : (t : Bool) → not t ≡ true
            → both t (same (units_at s start wide (j + length us) (length (units_from q (drop (i + 1) value))))
            (units_from q (drop (i + 1) value))) ≡ x → false ≡ x
        go true g k = absurd (let z : ◌≡◌ {A = ℕ} 0 1 = cc in omega arith)
        go false g k = k

    pub agrees : not t ≡ false → same (units_at s start wide (j + length us) (length (units_from q (drop (i + 1) value))))
        (units_from q (drop (i + 1) value)) ≡ x
    agrees g =
        go t g (ap (λ (b : Bool). both b
        (same (units_at s start wide (j + length us) (length (units_from q (drop (i + 1) value)))) (units_from q (drop (i + 1) value)))) f
        ∙ parted)
      where
        go : (t : Bool) → not t ≡ false
            → both t (same (units_at s start wide (j + length us) (length (units_from q (drop (i + 1) value))))
            (units_from q (drop (i + 1) value))) ≡ x
            → same (units_at s start wide (j + length us) (length (units_from q (drop (i + 1) value))))
            (units_from q (drop (i + 1) value)) ≡ x
        go true g k = k
        go false g k = absurd (let z : ◌≡◌ {A = ℕ} 0 1 = cc in omega arith)

-- at the start, and behind the last byte
pub from_start : (s value : List ℕ) (start : ℕ) (wide : Bool) (r : Reading) → r ≡ between
    → (0 + length (units_from r (drop 0 value)) ≡ length (utf16 value))
    × (same (units_at s start wide 0 (length (units_from r (drop 0 value)))) (units_from r (drop 0 value)) ≡ same
    (units_at s start wide 0 (length (utf16 value))) (utf16 value))
unfolding utf16
from_start s value start wide r e = rw e (zero-add (length (units_from between value)), refl)

pub all_agree : (s value : List ℕ) (start j i : ℕ) (wide : Bool) (r : Reading) → length value ≤ i → (x : Bool)
    → same (units_at s start wide j (length (units_from r (drop i value)))) (units_from r (drop i value)) ≡ x → true ≡ x
unfolding units_at same
all_agree s value start j i wide r h x e = rw (units_end r value i h) at e

-- ---- string i

-- its units, where its record says that they stand
pub units_stand : (p : Places) (s : List ℕ) → Placed p s → (i : ℕ) (r : StringRecord) → Stands p s i r
    → units_of (string_of p.layout s i) ≡ units_at s r.start r.place.wide 0 r.place.count
units_stand p s h i r g =
    ap units_of (sym (record_string p s h i r g)) ∙ string_units s r.start r.place.count r.place.wide

-- r is the record of string i, and n units are sought
pub record Sought (p : Places) (s units : List ℕ) (i : ℕ) (r : StringRecord) (n : ℕ) : Type 0 where
  pub placed : Placed p s
  pub stands : Stands p s i r
  pub count : n ≡ length units

module _ (p : Places) (s units : List ℕ) (i : ℕ) (r : StringRecord) (n : ℕ) (h : Sought p s units i r n) where
  pub other_count : (r.place.count ≡ n → ⊥) → false ≡ same (units_of (string_of p.layout s i)) units
  other_count d =
      longer_differs (units_of (string_of p.layout s i)) units
      (λ g. d (record_count p s h.placed i r h.stands ∙ g ∙ sym h.count))

  pub same_count : r.place.count ≡ n
      → same (units_at s r.start r.place.wide 0 (length units)) units ≡ same (units_of (string_of p.layout s i)) units
  same_count e = rw (units_stand p s h.placed i r h.stands, e, h.count)

  pub units_in : r.place.count ≡ n → r.start + length units * unit_size r.place.wide ≤ length s
  units_in e = units_inside p s h.placed i r h.stands (length units) (omega (arith, h.count))

-- ---- the pass

-- string i is next, and was compared; x is what the pass finds from i on
pub record Compared (p : Places) (s units : List ℕ) (i : ℕ) (t : Bool) (x : ℕ) : Type 0 where
  pub known : i < p.strings
  pub tested : t ≡ same (units_of (string_of p.layout s i)) units
  pub finds : find_from p.layout s units i (p.strings - i) ≡ x

module _ (p : Places) (s units : List ℕ) (i : ℕ) (t : Bool) (x : ℕ) (h : Compared p s units i t x) where
  left_is : p.strings - i ≡ suc (p.strings - suc i)
  left_is = omega (arith, h.known)

  found_or : pick t i (find_from p.layout s units (suc i) (p.strings - suc i)) ≡ x
  unfolding find_from
  found_or =
      ap (λ (c : Bool). pick c i (find_from p.layout s units (suc i) (p.strings - suc i))) h.tested ∙ rw left_is at h.finds

  found : t ≡ true → i ≡ x
  found g = rw g at found_or

  pub find_next : t ≡ false → find_from p.layout s units (i + 1) (p.strings - (i + 1)) ≡ x
  find_next g = rw add-one (rw g at found_or)

module _ (p : Places) (s units : List ℕ) where
  pub find_none : Placed p s → find_from p.layout s units 0 (p.strings - 0) ≡ find_id p.layout s units
  unfolding find_id
  find_none pl = let e : p.strings - 0 ≡ strings_in s = omega (arith, (sectioned p s pl).strings) in rw e

  find_end : (i x : ℕ) → p.strings ≤ i → find_from p.layout s units i (p.strings - i) ≡ x → i ≡ x
  unfolding find_from
  find_end i x h e = let z : p.strings - i ≡ 0 = omega arith in rw z at e

  -- ---- what is answered

  pub found_at : (i : ℕ) (t : Bool) → Compared p s units i t (find_id p.layout s units) → t ≡ true
      → (q : StringRecord) (n : Counts)
      → Stands p s i q
      → n ≡ visits p.layout s i
      → Locates p s (find_id p.layout s units) refusals.absent
      (Ok (record { id = i; string = q; counts = n }))
  found_at i t h g q n st v =
      let x : i ≡ find_id p.layout s units = found p s units i t (find_id p.layout s units) h g in
      (x, rw x at h.known, subst (λ (j : ℕ). Stands p s j q) x st, v ∙ ap (visits p.layout s) x)

  pub found_none : (i : ℕ) → p.strings ≤ i → find_from p.layout s units i (p.strings - i) ≡ find_id p.layout s units
      → Locates p s (find_id p.layout s units) refusals.absent (Err refusals.absent)
  found_none i h e = (refl, rw (find_end i (find_id p.layout s units) h e) at h)

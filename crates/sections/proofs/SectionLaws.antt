-- The places that code derives are the definitions', and sections that fit lie one behind the other before the tail.
use mathlib.Core.Path.{◌≡◌, refl, ap, ◌∙◌, subst⁻¹}
use mathlib.Core.List.{List}
use Prim.Native.Nat.{ℕ, ◌+◌, ◌-◌, ◌*◌, ◌≤◌, ◌<◌}
use native.Mathlib.Nat.{mul-le-mul_left}
use native.Mathlib.Omega.{arith}
use lib.ListN.{length}
use Rattle.bits.specs.Bytes.{word_at, up4}
use Rattle.format.specs.declared.Field.{Field}
use Rattle.format.specs.declared.Layout.{Layout}
use Rattle.format.specs.declared.Layout.TheVariants.{Modern, Legacy}
use Rattle.format.specs.Table as table
use Rattle.footer.specs.Footer.{footer_length}
use Rattle.footer.specs.Finalize.{size_limit}
use Rattle.image.proofs.PlaceLaws.{records_at, debug_wide, debug-at}
use Rattle.image.specs.Sections.{functions_in, kinds_in, identifiers_in, strings_in, overflows_in, storage_in, debug_in}
use Rattle.image.specs.Sections.{record_at, kinds_at, hashes_at, small_at, over_at, storage_at, tail_at}
use Rattle.sections.specs.declared.Places.{Places}
use Rattle.sections.specs.Places.{places_of, Fits, Placed}

-- ---- the code's sums

-- items of at most 16 bytes
pub nth_within : (at i size : ℕ) → size ≤ 16 → at + i * size ≤ at + i * 16
nth_within at i size h = omega (arith, mul-le-mul_left i h)

-- no record is larger than 16 bytes
pub record_size : (l : Layout) → (table.record_row l).width ≤ 16
record_size Modern = omega arith
record_size (Legacy big sources) = omega arith

pub row-size : (l : Layout) (f : Field) → f ≡ table.record_row l → (f.at ≡ table.header_length) × (f.width ≤ 16)
row-size l f e = rw e (records_at l, record_size l)

pub record_end : (l : Layout) (i r : ℕ) (f : Field) → f ≡ table.record_row l → r ≡ f.at + i * f.width → r ≡ record_at l i
record_end l i r f e h = rw e at h

-- ---- the debug offset

pub debug-fits : (l : Layout) (f : Field) → f ≡ table.debug_row l → f.at + f.big + f.sources ≤ table.header_length
debug-fits l f e = rw e (go l)
  where
    go : (l : Layout) → (table.debug_row l).at + (table.debug_row l).big + (table.debug_row l).sources ≤ table.header_length
    go Modern = omega arith
    go (Legacy big sources) = omega arith

pub debug_place_lem : (l : Layout) (f : Field) (at : ℕ) → f ≡ table.debug_row l → at ≡ table.place_in l f
    → (at ≡ table.place_in l (table.debug_row l)) × (at + 4 ≤ table.header_length)
debug_place_lem l f at e h = let g = h ∙ ap (table.place_in l) e in (g, omega (arith, g, debug-at l, debug_wide l))

pub debug_read : (l : Layout) (s : List ℕ) (at x : ℕ) → at ≡ table.place_in l (table.debug_row l) → x ≡ word_at s at
    → x ≡ debug_in l s
debug_read l s at x e h = rw (debug_wide l, ← e) h

-- what code derives, step by step: the counts from the header, then each place from those before it
pub record Derived (p : Places) (s : List ℕ) : Type 0 where
  pub functions : p.functions ≡ functions_in s
  pub kinds : p.kinds ≡ kinds_in s
  pub identifiers : p.identifiers ≡ identifiers_in s
  pub strings : p.strings ≡ strings_in s
  pub overflows : p.overflows ≡ overflows_in s
  pub storage : p.storage_size ≡ storage_in s
  pub kinds_from : p.kinds_at ≡ record_at p.layout p.functions
  pub hashes_from : p.hashes_at ≡ p.kinds_at + p.kinds * (table.kind_entry).width
  pub small_from : p.small_at ≡ p.hashes_at + p.identifiers * (table.hash_entry).width
  pub over_from : p.over_at ≡ p.small_at + p.strings * (table.small_entry).width
  pub storage_from : p.storage_at ≡ p.over_at + p.overflows * (table.overflow_entry).width
  pub tail_from : p.tail ≡ up4 (p.storage_at + p.storage_size)
  pub footer_from : p.footer ≡ length s - footer_length

pub derived : (p : Places) (s : List ℕ) → Derived p s → p ≡ places_of p.layout s
unfolding places_of kinds_at hashes_at small_at over_at storage_at tail_at
derived p s d =
    rw (
      d.footer_from,
      d.tail_from,
      d.storage_from,
      d.over_from,
      d.small_from,
      d.hashes_from,
      d.kinds_from,
      d.functions,
      d.kinds,
      d.identifiers,
      d.strings,
      d.overflows,
      d.storage,
    )

-- ---- sections that fit

-- what the places of such an image are, in the form that arithmetic reads
pub record Sectioned (p : Places) (s : List ℕ) : Type 0 where
  pub functions : p.functions ≡ functions_in s
  pub kinds : p.kinds ≡ kinds_in s
  pub identifiers : p.identifiers ≡ identifiers_in s
  pub strings : p.strings ≡ strings_in s
  pub overflows : p.overflows ≡ overflows_in s
  pub storage : p.storage_size ≡ storage_in s
  pub kinds_from : p.kinds_at ≡ kinds_at p.layout s
  pub small_from : p.small_at ≡ small_at p.layout s
  pub over_from : p.over_at ≡ over_at p.layout s
  pub storage_from : p.storage_at ≡ storage_at p.layout s
  pub tail_from : p.tail ≡ tail_at p.layout s
  pub kinds_next : table.header_length ≤ p.kinds_at
  pub hashes_next : p.hashes_at ≡ p.kinds_at + p.kinds * 4
  pub small_next : p.small_at ≡ p.hashes_at + p.identifiers * 4
  pub over_next : p.over_at ≡ p.small_at + p.strings * 4
  pub storage_next : p.storage_at ≡ p.over_at + p.overflows * 8
  pub tail_next : p.storage_at + p.storage_size ≤ p.tail
  pub footer_next : p.tail + 20 ≤ length s
  pub most : length s ≤ 67108864

tail_past : (l : Layout) (s : List ℕ) → storage_at l s + storage_in s ≤ tail_at l s
unfolding tail_at
tail_past l s = omega arith

records_past : (l : Layout) (s : List ℕ) → 128 ≤ kinds_at l s
unfolding kinds_at
records_past l s = omega (arith, records_at l)

of_places : (l : Layout) (s : List ℕ) → Fits l s → Sectioned (places_of l s) s
unfolding places_of hashes_at small_at over_at storage_at
of_places l s h =
    record {
      functions = refl;
      kinds = refl;
      identifiers = refl;
      strings = refl;
      overflows = refl;
      storage = refl;
      kinds_from = refl;
      small_from = refl;
      over_from = refl;
      storage_from = refl;
      tail_from = refl;
      kinds_next = records_past l s;
      hashes_next = refl;
      small_next = refl;
      over_next = refl;
      storage_next = refl;
      tail_next = tail_past l s;
      footer_next = h.room;
      most = h.most;
    }

pub sectioned : (p : Places) (s : List ℕ) → Placed p s → Sectioned p s
sectioned p s h = subst⁻¹ (λ (q : Places). Sectioned q s) h.is (of_places p.layout s h.fits)

-- each record lies in the image
before_kinds : (l : Layout) (s : List ℕ) (i : ℕ) → i < functions_in s → record_at l i + (table.record_row l).width ≤ kinds_at l s
unfolding kinds_at
before_kinds Modern s i k = omega arith
before_kinds (Legacy big sources) s i k = omega arith

pub records_fit : (l : Layout) (s : List ℕ) (i : ℕ) → Fits l s → i < functions_in s
    → record_at l i + (table.record_row l).width ≤ length s
unfolding places_of
records_fit l s i h k =
    let a : record_at l i + (table.record_row l).width ≤ kinds_at l s = before_kinds l s i k in
    let b : Sectioned (places_of l s) s = of_places l s h in
    omega arith

-- so that there are few
pub records_few : (l : Layout) (s : List ℕ) (i : ℕ) → Fits l s → i < functions_in s → i < 67108864
records_few l s i h k = few l (records_fit l s i h k) h.most
  where
    few : (l : Layout) → record_at l i + (table.record_row l).width ≤ length s → length s ≤ size_limit → i < 67108864
    few Modern a b = omega arith
    few (Legacy big sources) a b = omega arith

-- Where strings go in storage. 01, Strings: "ids in order, storage packed with no gaps and no sharing"; 02, No. 2: wide strings at
-- even places.
-- Strings are a function of their ids, with a count: f i is string i. Each definition adds string n behind the first n.
-- docs/FORMAT.md: Packing.
use Rattle.std.specs.Prelude.{◌≡◌, Bool, true, List, [], ◌++◌, ℕ, zero, suc, ◌+◌, ◌/◌, ◌%◌, ◌≤◌, ◌<◌, length, get_or, replicate}
use Rattle.bits.specs.Choice.{pick}
use Rattle.format.specs.declared.Layout.{Layout}
use Rattle.format.specs.declared.Mode.{Mode}
use Rattle.format.specs.declared.Mode.TheVariants.{Plain, Even}
use Rattle.format.specs.Entry.{Place}
use Rattle.image.specs.Sections.{strings_in, storage_in, storage_at}
use Rattle.image.specs.Strings.{Str, unit_size, size_of, place_at}

-- how many units a string has
abbrev pub count_of : Str → ℕ
count_of t = length t.bytes / unit_size t.wide

-- the place of a string at an offset of storage
abbrev pub standing : ℕ → Str → Place
standing at t = record { wide = t.wide; at = at; count = count_of t }

-- ---- strings in storage, however they came there

-- the place of each string, and the bytes of storage
pub record Packed : Type 0 where
  pub place : ℕ → Place
  pub store : List ℕ

-- a string stands at a place of storage: width, length and bytes
pub record Stored (store : List ℕ) (t : Str) (p : Place) : Type 0 where
  pub wide : p.wide ≡ t.wide
  pub count : p.count ≡ count_of t
  pub within : p.at + length t.bytes ≤ length store
  pub byte : (j : ℕ) → j < length t.bytes → get_or store (p.at + j) 0 ≡ get_or t.bytes j 0

-- a packing is sound: each of n strings stands at its place, and no byte of storage is more than all of theirs are
pub record Carries (n : ℕ) (f : ℕ → Str) (q : Packed) : Type 0 where
  pub string : (i : ℕ) → i < n → Stored q.store (f i) (q.place i)
  pub bytes : (k : ℕ) → 0 < k → ((i : ℕ) → i < n → (p : ℕ) → get_or (f i).bytes p 0 < k) → (p : ℕ)
      → get_or q.store p 0 < k

-- ---- the packing of each mode

-- how many zero bytes stand before a string of a width, where those before it end at an offset. 02, No. 2: "a wide string starts at an
-- even storage offset, with one zero byte before it when needed"
abbrev pub gap_of : Mode → Bool → ℕ → ℕ
gap_of Plain wide at = 0
gap_of Even wide at = pick wide (at % 2) 0

-- the bytes of the first n strings, each behind those before it and its gap
unfoldable pub store_of : Mode → (ℕ → Str) → ℕ → List ℕ
store_of m f zero = []
store_of m f (suc i) = store_of m f i ++ (replicate (gap_of m (f i).wide (length (store_of m f i))) 0 ++ (f i).bytes)

-- where string i starts: behind those before it and its gap
unfoldable pub start_of : Mode → (ℕ → Str) → ℕ → ℕ
start_of m f i = length (store_of m f i) + gap_of m (f i).wide (length (store_of m f i))

-- the place of string i
abbrev pub placed : Mode → (ℕ → Str) → ℕ → Place
placed m f i = standing (start_of m f i) (f i)

-- n strings, packed
abbrev pub packed : Mode → (ℕ → Str) → ℕ → Packed
packed m f n = record { place = placed m f; store = store_of m f n }

-- no wide string of n stands at an odd place
abbrev pub NoneOdd : ℕ → (ℕ → Place) → Type 0
NoneOdd n p = (i : ℕ) → i < n → (p i).wide ≡ true → (p i).at % 2 ≡ 0

-- none of an image does
abbrev pub NoneOddIn : Layout → List ℕ → Type 0
NoneOddIn l s = NoneOdd (strings_in s) (place_at l s)

-- ---- an image's strings as a mode packs them: what reading them back does not see

-- where string i starts in storage, and where it ends
abbrev pub start_in : Layout → List ℕ → ℕ → ℕ
start_in l s i = (place_at l s i).at

abbrev pub end_in : Layout → List ℕ → ℕ → ℕ
end_in l s i = (place_at l s i).at + size_of (place_at l s i)

-- a list has zeros from one place to another
abbrev pub Zeros : List ℕ → ℕ → ℕ → Type 0
Zeros s from to = (p : ℕ) → from ≤ p → p < to → get_or s p 0 ≡ 0

pub record Spaced (m : Mode) (l : Layout) (s : List ℕ) : Type 0 where
  -- the first string starts where storage does
  pub first : 0 < strings_in s → start_in l s 0 ≡ 0
  -- each next one where the one before it ends, or behind the gap of its mode
  pub next : (i : ℕ) → suc i < strings_in s → start_in l s (suc i)
      ≡ end_in l s i + gap_of m (place_at l s (suc i)).wide (end_in l s i)
  -- a gap is zeros
  pub gap : (i : ℕ) → suc i < strings_in s → Zeros s (storage_at l s + end_in l s i) (storage_at l s + start_in l s (suc i))
  -- the last one ends where storage does
  pub last : (i : ℕ) → suc i ≡ strings_in s → end_in l s i ≡ storage_in s

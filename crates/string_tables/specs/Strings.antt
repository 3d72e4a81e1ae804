-- Refusal 5 as one pass over the small table, with the count of overflow entries carried along.
-- docs/FORMAT.md: Strings, Admission.
use Rattle.std.specs.Prelude.{◌≡◌, Bool, List, ℕ, ◌+◌, ◌<◌, leb, ltb, eqb, get_or}
use Rattle.bits.specs.Choice.{both, implies, all_below}
use Rattle.format.specs.declared.Layout.{Layout}
use Rattle.format.specs.Table.{entry_offset}
use Rattle.format.specs.Record.{value_of}
use Rattle.format.specs.Entry as entry
use Rattle.image.specs.Sections.{overflows_in, storage_in}
use Rattle.image.specs.Strings.{is_full, over_before, place_of, small_in, pair_in, over_in, size_of}
use Rattle.image.specs.Admission.{overflows_counted, overflows_numbered, strings_stored, strings_narrow, bytes_narrow}
use Rattle.string_tables.specs.declared.Place.{Place}
use Rattle.string_tables.specs.declared.PlaceRead.{PlaceRead}

-- the code's place of a string
abbrev pub as_place : Place → entry.Place
as_place p = record { wide = p.wide; at = p.at; count = p.count }

-- the place that entry x gives, with k overflow pairs read before it, and the pairs read with it: one more where x overflows
pub record Gives (s : List ℕ) (pairs k x : ℕ) (r : PlaceRead) : Type 0 where
  pub place : as_place r.place ≡ place_of (pair_in pairs s) k x
  pub over : r.over ≡ k + entry.bit (is_full x)
  pub at : r.place.at < 4294967296
  pub count : r.place.count < 4294967296

-- none of the n bytes from a place on exceeds 0x7F
unfoldable pub all_narrow : List ℕ → ℕ → ℕ → Bool
all_narrow s at n = all_below n (λ j. leb (get_or s (at + j) 0) 0x7F)

-- an overflow entry x, with k of them before it: pair k is there, and the offset field says k
unfoldable pub numbered : ℕ → ℕ → ℕ → Bool
numbered overflows k x = implies (is_full x) (both (ltb k overflows) (eqb (value_of entry_offset x) k))

-- a string at a place does not leave storage, and its bytes are narrow if it is
unfoldable pub stored : Layout → List ℕ → entry.Place → Bool
stored l s p = both (leb (p.at + size_of p) (storage_in s)) (bytes_narrow l s p)

-- small entry x, with k overflow entries before it
unfoldable pub entry_good : Layout → List ℕ → ℕ → ℕ → Bool
entry_good l s k x = both (numbered (overflows_in s) k x) (stored l s (place_of (over_in l s) k x))

-- small entry i
unfoldable pub entry_good_at : Layout → List ℕ → ℕ → Bool
entry_good_at l s i = entry_good l s (over_before (small_in l s) i) (small_in l s i)

-- none of the conditions of number 5
unfoldable pub strings_good : Layout → List ℕ → Bool
strings_good l s = both (overflows_counted l s) (both (overflows_numbered l s) (both (strings_stored l s) (strings_narrow l s)))

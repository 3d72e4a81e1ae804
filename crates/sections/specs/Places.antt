-- The record of places. 01, Forms to change: "`BytecodeFile` becomes a record of places, derived anew per call".
-- docs/FORMAT.md: Sections.
use Rattle.std.specs.Prelude.{◌≡◌, List, ℕ, ◌+◌, ◌-◌, ◌≤◌, length}
use Rattle.format.specs.declared.Layout.{Layout}
use Rattle.footer.specs.Footer.{footer_length}
use Rattle.footer.specs.Finalize.{size_limit}
use Rattle.image.specs.Sections.{functions_in, kinds_in, identifiers_in, strings_in, overflows_in, storage_in, kinds_at, hashes_at}
use Rattle.image.specs.Sections.{small_at, over_at, storage_at, tail_at}
use Rattle.image.specs.Admitted.{Admitted}
use Rattle.sections.specs.declared.Places.{Places}

-- the places of an image, with the layout inside
unfoldable pub places_of : Layout → List ℕ → Places
places_of l s =
    record {
      layout = l;
      functions = functions_in s;
      kinds = kinds_in s;
      identifiers = identifiers_in s;
      strings = strings_in s;
      overflows = overflows_in s;
      storage_size = storage_in s;
      kinds_at = kinds_at l s;
      hashes_at = hashes_at l s;
      small_at = small_at l s;
      over_at = over_at l s;
      storage_at = storage_at l s;
      tail = tail_at l s;
      footer = length s - footer_length;
    }

-- the sections lie in the image: what the refusals 1 and 3 leave
pub record Fits (l : Layout) (s : List ℕ) : Type 0 where
  pub most : length s ≤ size_limit
  pub room : tail_at l s + footer_length ≤ length s

-- a record of places is an image's, and its sections lie in it
pub record Placed (p : Places) (s : List ℕ) : Type 0 where
  pub is : p ≡ places_of p.layout s
  pub fits : Fits p.layout s

-- an admitted image with its places: what everything above admission goes by
pub record Laid (p : Places) (s : List ℕ) : Type 0 where
  pub placed : Placed p s
  pub admitted : Admitted p.layout s

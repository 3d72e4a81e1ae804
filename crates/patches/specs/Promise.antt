-- What one accepted patch sets, moves and promises: the step from which `Promised` (Lists) is made. 01, Strings and Bodies.
-- docs/FORMAT.md: Lists of patches.
use Rattle.std.specs.Prelude.{◌≡◌, true, false, ◌⊎◌, List, ℕ, ◌+◌, ◌≤◌, ◌<◌, eqb, length, get_or}
use Rattle.bits.specs.Choice.{pick, both}
use Rattle.format.specs.declared.Layout.{Layout}
use Rattle.format.specs.declared.Mode.TheVariants.{Plain}
use Rattle.format.specs.Table as table
use Rattle.format.specs.Hash.{hash_of}
use Rattle.format.specs.Move.{moved}
use Rattle.footer.specs.Footer.{footer_length}
use Rattle.footer.specs.Finalize.{Sealed}
use Rattle.image.specs.Sections.{functions_in, kinds_in, identifiers_in, strings_in, debug_in, tail_at}
use Rattle.image.specs.Strings.{Str, string_of, place_at}
use Rattle.image.specs.Kinds.{is_identifier, rank_of, hash_in}
use Rattle.image.specs.Functions.{Func, func_of, body_of}
use Rattle.image.specs.Admitted.{Disjoint, Admitted}
use Rattle.utf.specs.Utf8.{utf16}
use Rattle.edits.specs.Packing.{placed, NoneOdd, Spaced}
use Rattle.string_edits.specs.Values.{in_turn}
use Rattle.string_packing.specs.Strings.{new_string, string_with, strings_with}
use Rattle.edits.specs.Rebuild.{new_tail}
use Rattle.string_in_place.specs.Patch.{fits_all}
use Rattle.functions.specs.Patch.{threshold}
use Rattle.patches.specs.Patches.{Target, to_values, a_body}

-- ---- what is set

-- string i: the value that it gets, if it gets one, narrow if ASCII, else UTF-16
abbrev pub string_after : ℕ → Target → Str → Str
string_after i (to_values m v) old = new_string (v i) old
string_after i (a_body id body) old = old

-- body i
abbrev pub body_after : ℕ → Target → List ℕ → List ℕ
body_after i (to_values m v) old = old
body_after i (a_body id body) old = pick (eqb i id) body old

-- hash slot r: the hash of the value that string i gets, where this is an identifier of that rank
abbrev pub hash_over : Layout → ℕ → List ℕ → ℕ → List ℕ → ℕ → ℕ
hash_over l r s i value old = pick (both (is_identifier l s i) (eqb r (rank_of l s i))) (hash_of (utf16 value)) old

abbrev pub hash_after : Layout → ℕ → List ℕ → Target → ℕ → ℕ
hash_after l r s (to_values m v) old = in_turn v (hash_over l r s) (strings_in s) old
hash_after l r s (a_body id body) old = old

-- ---- what moves: "a place at or past the tail (rebuild) or threshold (body) moves by delta, any other and 0 stay"

abbrev pub moves_from : Layout → List ℕ → Target → ℕ
moves_from l s (to_values m v) = tail_at l s
moves_from l s (a_body id body) = threshold (func_of l s id)

abbrev pub moves_to : Layout → List ℕ → Target → ℕ
moves_to l s (to_values m v) = pick (fits_all l s v) (tail_at l s) (new_tail l (strings_with m l s v) s)
moves_to l s (a_body id body) = (func_of l s id).begin + length body

abbrev pub place_after : Layout → List ℕ → Target → ℕ → ℕ
place_after l s c = moved (moves_from l s c) (moves_to l s c)

-- the size of body i
abbrev pub size_after : ℕ → Target → ℕ → ℕ
size_after i (to_values m v) old = old
size_after i (a_body id body) old = pick (eqb i id) (length body) old

-- function i: its places move, and a patched body has its new size
abbrev pub function_after : Layout → List ℕ → Target → ℕ → Func → Func
function_after l s c i f = record {
  large = f.large;
  ptr = place_after l s c f.ptr;
  begin = place_after l s c f.begin;
  size = size_after i c f.size;
  info = place_after l s c f.info;
}

-- "every tail byte outside patched bodies, large-header words and footer"
abbrev pub OutsideBody : Layout → List ℕ → Target → ℕ → Type 0
OutsideBody l s (to_values m v) p = Unit {0}
OutsideBody l s (a_body id body) p = p < threshold (func_of l s id) → p < (func_of l s id).begin

abbrev pub OutsideHeaders : Layout → List ℕ → ℕ → Type 0
OutsideHeaders l s p =
    (j : ℕ) → j < functions_in s → (func_of l s j).large ≡ true → Disjoint (func_of l s j).ptr (table.large_row l).width p 1

-- ---- where the strings of t stand, made from s by a patch that sets c. 02, No. 2

-- no string has moved
abbrev pub Unmoved : Layout → List ℕ → List ℕ → Type 0
Unmoved l s t = (i : ℕ) → i < strings_in s → place_at l t i ≡ place_at l s i

-- after a rebuild as its mode packs them; "In-place patches never move a string"; and no body patch does
abbrev pub StringPlaces : Layout → List ℕ → List ℕ → Target → Type 0
StringPlaces l s t (to_values m v) = (fits_all l s v ≡ false → Spaced m l t) × (fits_all l s v ≡ true → Unmoved l s t)
StringPlaces l s t (a_body id body) = Unmoved l s t

-- the mode does not matter: nothing moves, or no wide string comes to an odd place where each stands where the one before it ends
abbrev pub Modeless : Layout → List ℕ → Target → Type 0
Modeless l s (to_values m v) = (fits_all l s v ≡ true) ⊎ NoneOdd (strings_in s) (placed Plain (string_with l s v))
Modeless l s (a_body id body) = Unit {0}

-- ---- what t promises, made from s by a patch that sets c

pub record Kept (l : Layout) (s t : List ℕ) (c : Target) : Type 0 where
  pub admitted : Admitted l t
  pub functions : functions_in t ≡ functions_in s
  pub kinds : kinds_in t ≡ kinds_in s
  pub identifiers : identifiers_in t ≡ identifiers_in s
  pub strings : strings_in t ≡ strings_in s
  pub string : (i : ℕ) → i < strings_in s → string_of l t i ≡ string_after i c (string_of l s i)
  pub body : (i : ℕ) → i < functions_in s → body_of l t i ≡ body_after i c (body_of l s i)
  pub flag : (i : ℕ) → is_identifier l t i ≡ is_identifier l s i
  pub rank : (i : ℕ) → rank_of l t i ≡ rank_of l s i
  pub function : (i : ℕ) → i < functions_in s → func_of l t i ≡ function_after l s c i (func_of l s i)
  pub debug : debug_in l t ≡ place_after l s c (debug_in l s)
  pub long : length t ≡ place_after l s c (length s)
  pub tail : (p : ℕ) → tail_at l s ≤ p → p + footer_length < length s → OutsideBody l s c p → OutsideHeaders l s p
      → (tail_at l t ≤ place_after l s c p) × (place_after l s c p + footer_length < length t)
      × (get_or t (place_after l s c p) 0 ≡ get_or s p 0)

pub record Promise (l : Layout) (s t : List ℕ) (c : Target) : Type 0 where
  pub kept : Kept l s t c
  pub hash : (r : ℕ) → r < identifiers_in s → hash_in l t r ≡ hash_after l r s c (hash_in l s r)
  pub sealed : Sealed t

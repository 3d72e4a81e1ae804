-- The strings of an image, some of them with other values. 01, Strings; 02, Nos. 2 and 4.
-- docs/FORMAT.md: String patches, Packing.
use Rattle.std.specs.Prelude.{◌≡◌, Bool, true, false, List, ℕ, ◌+◌, ◌*◌, length}
use Rattle.std.proofs.Math.Option.{Option, none, some}
use Rattle.bits.specs.Choice.{pick}
use Rattle.bits.specs.Bytes.{ascii}
use Rattle.format.specs.declared.Layout.{Layout}
use Rattle.format.specs.declared.Mode.{Mode}
use Rattle.format.specs.Entry.{Place}
use Rattle.utf.specs.Utf8.{utf16, unit_bytes}
use Rattle.image.specs.Sections.{strings_in}
use Rattle.image.specs.Strings.{Str, unit_size, string_of}
use Rattle.edits.specs.Packing.{Packed, gap_of, placed, store_of, packed}
use Rattle.edits.specs.Rebuild.{overs}
use Rattle.string_edits.specs.Values.{Values}
use Rattle.string_packing.specs.declared.Shape.{Shape}

-- a value as a string: "the value is narrow if ASCII, else UTF-16"
unfoldable pub as_string : List ℕ → Str
as_string value = pick (ascii value) (record { wide = false; bytes = value }) (record { wide = true; bytes = unit_bytes (utf16 value) })

-- a string with the value that it gets, if it gets one
abbrev pub new_string : Option (List ℕ) → Str → Str
new_string none old = old
new_string (some value) old = as_string value

-- string i after edits
unfoldable pub string_with : Layout → List ℕ → Values → ℕ → Str
string_with l s v i = new_string (v i) (string_of l s i)

-- all of them, packed
unfoldable pub strings_with : Mode → Layout → List ℕ → Values → Packed
strings_with m l s v = packed m (string_with l s v) (strings_in s)

-- ---- how much room they take

-- a string has the width and the count of units that the code holds of it
abbrev pub Shaped : Shape → Str → Type 0
Shaped x t = (t.wide ≡ x.wide) × (length t.bytes ≡ x.count * unit_size x.wide)

-- the place of a string that is packed next, where those before it take `at` bytes: that of the new one, or that of one that stood in
-- the image
abbrev pub place_with : Mode → Bool → Shape → Place → ℕ → Place
place_with m new x p at = record {
  wide = pick new x.wide p.wide;
  at = at + gap_of m (pick new x.wide p.wide) at;
  count = pick new x.count p.count;
}

-- string i of f is what the code holds of it: one of a shape, if it is the new one, else the image's own
abbrev pub Held : Layout → List ℕ → (ℕ → Str) → ℕ → Bool → Shape → Type 0
Held l s f i new x = (new ≡ true → Shaped x (f i)) × (new ≡ false → f i ≡ string_of l s i)

-- bytes and overflow entries of the first i strings of f
abbrev pub Sums : Mode → (ℕ → Str) → ℕ → ℕ → ℕ → Type 0
Sums m f i storage overflows = (storage ≡ length (store_of m f i)) × (overflows ≡ overs (placed m f) i)

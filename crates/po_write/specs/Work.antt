-- The work space while a file is written, n words each: heads and links of the chains of written strings, by their values; where the bytes
-- of a written string start; and its count of units, twice, with one more for a wide one, 0 where a string is not written.
use Rattle.std.specs.Prelude.{◌≡◌, true, false, List, ℕ, ◌+◌, ◌*◌, ◌/◌, ◌%◌, ◌≤◌, ◌<◌, eqb, length, get_or, set}
use Rattle.format.specs.declared.Layout.{Layout}
use Rattle.format.specs.Table.{if_set}
use Rattle.format.specs.Hash.{hash_of}
use Rattle.chains.specs.Chains.{Chained, entered}
use Rattle.po_strings.specs.declared.Text.{Text}
use Rattle.sections.specs.declared.Places.{Places}
use Rattle.sections.specs.Places.{Laid}
use Rattle.po_strings.specs.Texts.{is_held, Inside, units_in}
use Rattle.po_write.specs.Strings.{value_of, is_written}

-- the bucket of string i, of n
unfoldable pub bucket_of : Layout → List ℕ → ℕ → ℕ → ℕ
bucket_of l s n i = hash_of (value_of l s i) % n

-- the shape word of string j
abbrev pub shape_at : List ℕ → ℕ → ℕ → ℕ
shape_at w n j = get_or w (n + n + n + j) 0

-- the text that is kept of string j
abbrev pub text_at : List ℕ → ℕ → ℕ → Text
text_at w n j =
    record { start = get_or w (n + n + j) 0; wide = eqb (shape_at w n j % 2) 1; count = shape_at w n j / 2 }

-- what is kept of string j: its text, which is not empty
pub record Kept (l : Layout) (s w : List ℕ) (n j : ℕ) : Type 0 where
  pub inside : Inside s (text_at w n j)
  pub units : units_in s (text_at w n j) ≡ value_of l s j
  pub some : 0 < shape_at w n j

-- the words after the first i strings
pub record Filled (l : Layout) (s : List ℕ) (n i : ℕ) (w : List ℕ) : Type 0 where
  pub long : length w ≡ 4 * n
  pub chained : Chained (is_written l s) (bucket_of l s n) n i w
  pub kept : (j : ℕ) → j < i → is_written l s j ≡ true → Kept l s w n j
  pub none : (j : ℕ) → j < i → is_written l s j ≡ false → shape_at w n j ≡ 0
  pub ahead : (j : ℕ) → i ≤ j → j < n → shape_at w n j ≡ 0

-- a text is that of string `id`, which is plain and has a value of a file; it is looked for in its bucket, among the strings before it
pub record Sought (p : Places) (s w : List ℕ) (id bucket : ℕ) (t : Text) : Type 0 where
  pub laid : Laid p s
  pub known : id < p.strings
  pub filled : Filled p.layout s p.strings id w
  pub chain : bucket ≡ bucket_of p.layout s p.strings id
  pub inside : Inside s t
  pub units : units_in s t ≡ value_of p.layout s id
  pub held : is_held (value_of p.layout s id) ≡ true

-- the words with a text kept of string k, which enters a bucket
abbrev pub kept_text : List ℕ → ℕ → ℕ → ℕ → Text → List ℕ
kept_text w n k b t = set (set (entered w n k b) (n + n + k) t.start) (n + n + n + k) (t.count * 2 + if_set t.wide 1)

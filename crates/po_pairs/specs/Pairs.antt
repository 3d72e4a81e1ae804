-- The pairs of a translators' file. 02, No. 1: "`msgid` then `msgstr`, each followed by one space and quoted text; after either, lines of
-- quoted text alone that continue it"; 16 "for a line outside the subset, bytes that aren't UTF-8, or a msgid given twice".
-- docs/FORMAT.md: Translators' files.
use Rattle.std.specs.Prelude.{Bool, not, List, [], ◌∷◌, ◌++◌, map, ℕ, length, get_or}
use Rattle.bits.specs.Choice.{pick, both, all_below}
use Rattle.footer.specs.Footer.{same}
use Rattle.utf.specs.Utf8.{is_utf8}
use Rattle.po_lines.specs.Lines.{is_ended}
use Rattle.po_lines.specs.Kinds.{Line, read_lines, opens_value, continues_value}
use Rattle.po_pairs.specs.declared.Stand.TheVariants.{Between}
use Rattle.po_pairs.specs.Order.{stand_after, ends_well}

-- ---- values: msgid, msgstr, msgid, msgstr, ..

-- what the first lines add to the value before them
unfoldable pub continued : List Line → List ℕ
continued [] = []
continued (l ∷ ls) = pick (continues_value l.kind) (l.text ++ continued ls) []

-- each value: the text of a line with a keyword, and of the lines that continue it
unfoldable pub values_of : List Line → List (List ℕ)
values_of [] = []
values_of (l ∷ ls) = pick (opens_value l.kind) ((l.text ++ continued ls) ∷ values_of ls) (values_of ls)

-- the values of a file
unfoldable pub values_in : List ℕ → List (List ℕ)
values_in s = values_of (read_lines s)

-- ---- pairs

-- bytes of UTF-8, without escapes and joined
pub record Pair : Type 0 where
  pub msgid : List ℕ
  pub msgstr : List ℕ

-- values, two by two
unfoldable pub paired : List (List ℕ) → List Pair
paired [] = []
paired (a ∷ []) = []
paired (a ∷ b ∷ vs) = record { msgid = a; msgstr = b } ∷ paired vs

-- the values of pairs
unfoldable pub unpaired : List Pair → List (List ℕ)
unpaired [] = []
unpaired (p ∷ ps) = p.msgid ∷ p.msgstr ∷ unpaired ps

-- of pair q of a list; past its end all is empty
abbrev pub no_pair : Pair
no_pair = record { msgid = []; msgstr = [] }

abbrev pub msgid_of : List Pair → ℕ → List ℕ
msgid_of ps q = (get_or ps q no_pair).msgid

abbrev pub msgstr_of : List Pair → ℕ → List ℕ
msgstr_of ps q = (get_or ps q no_pair).msgstr

-- a pair that is not yet translated
abbrev pub untranslated : List ℕ → Pair
untranslated v = record { msgid = v; msgstr = [] }

-- ---- "a msgid given twice"

-- value j is new where none before it is the same
abbrev pub is_new : (ℕ → List ℕ) → ℕ → Bool
is_new v j = all_below j (λ i. not (same (v i) (v j)))

-- each of the first k is new
abbrev pub all_new : (ℕ → List ℕ) → ℕ → Bool
all_new v k = all_below k (is_new v)

-- so in a list of values
unfoldable pub different : List (List ℕ) → Bool
different vs = all_new (λ j. get_or vs j []) (length vs)

abbrev pub id_of : Pair → List ℕ
id_of p = p.msgid

-- ---- a file

-- each line is in the subset and may follow the one before it, the last ends with a line feed, and all bytes are UTF-8
unfoldable pub in_subset : List ℕ → Bool
in_subset s = both (is_utf8 s) (both (is_ended s) (ends_well (stand_after Between (read_lines s))))

-- what a file says: its pairs, or it is outside the subset
pub data Read : Type 0 where
  outside : Read
  pairs : List Pair → Read

unfoldable pub read_file : List ℕ → Read
read_file s = pick (both (in_subset s) (different (map id_of (paired (values_in s))))) (pairs (paired (values_in s))) outside

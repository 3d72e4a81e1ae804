-- Files of a few lines, read as the definitions say.
use mathlib.Core.Path.{◌≡◌, refl}
use mathlib.Core.List.{List, [], ◌∷◌, ◌++◌}
use Prim.Native.Nat.{ℕ}
use Rattle.bits.specs.Choice.{all_below}
use Rattle.footer.specs.Footer.{same}
use Rattle.utf.specs.Utf8.{opens, next_byte, reading_of, is_utf8}
use Rattle.po_text.specs.Marks.{msgid_mark, msgstr_mark}
use Rattle.po_lines.specs.Lines.{lines_of, last_of}
use Rattle.po_lines.specs.Quoted.{quote_next, given, quote_end, unescaped}
use Rattle.po_lines.specs.Kinds.{begins, is_printable, marked_as, kind_of, line_of, read_lines}
use Rattle.po_pairs.specs.Order.{stand_after}
use Rattle.po_pairs.specs.Pairs.{continued, values_of, values_in, paired, different, in_subset, outside, pairs, read_file}

-- a closing quote and the line feed
abbrev done : List ℕ
done = 34 ∷ 10 ∷ []

-- `# c`, the header, an empty line, and a pair whose msgid `a\né` has a line that continues it and whose msgstr is `\"x\\`
abbrev two_pairs : List ℕ
two_pairs =
    (35 ∷ 32 ∷ 99 ∷ 10 ∷ []) ++ (msgid_mark ++ (done ++ (msgstr_mark ++ (done ++ (10 ∷ []
    ++ (msgid_mark ++ ((97 ∷ 92 ∷ 110 ∷ []) ++ (done ++ ((34 ∷ 195 ∷ 169 ∷ []) ++ (done
    ++ (msgstr_mark ++ ((92 ∷ 34 ∷ 120 ∷ 92 ∷ 92 ∷ []) ++ done))))))))))))

two_pairs_lem : read_file two_pairs
    ≡ pairs (record { msgid = []; msgstr = [] }
    ∷ record { msgid = 97 ∷ 10 ∷ 195 ∷ 169 ∷ []; msgstr = 34 ∷ 120 ∷ 92 ∷ [] } ∷ [])
unfolding read_file different all_below same in_subset is_utf8 reading_of next_byte opens stand_after values_in values_of continued
    read_lines
    lines_of last_of line_of kind_of marked_as begins is_printable quote_end quote_next unescaped given paired
two_pairs_lem = refl

-- the last line feed is missing
no_feed : read_file (msgid_mark ++ (done ++ (msgstr_mark ++ (34 ∷ [])))) ≡ outside
unfolding read_file different all_below same in_subset is_utf8 reading_of next_byte opens stand_after values_in values_of continued
    read_lines
    lines_of last_of line_of kind_of marked_as begins is_printable quote_end quote_next unescaped given paired
no_feed = refl

-- the msgid `ab` twice, the second time in two pieces
given-twice : read_file (msgid_mark ++ ((97 ∷ 98 ∷ []) ++ (done ++ (msgstr_mark ++ (done
    ++ (msgid_mark ++ ((97 ∷ []) ++ (done ++ ((34 ∷ 98 ∷ []) ++ (done ++ (msgstr_mark ++ done)))))))))))
    ≡ outside
unfolding read_file different all_below same in_subset is_utf8 reading_of next_byte opens stand_after values_in values_of continued
    read_lines
    lines_of last_of line_of kind_of marked_as begins is_printable quote_end quote_next unescaped given paired
given-twice = refl

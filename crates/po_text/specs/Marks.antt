-- The bytes that stand around a value in a translators' file. 02, No. 1: "`msgid` then `msgstr`, each followed by one space and quoted
-- text".
-- docs/FORMAT.md: Translators' files.
use Rattle.std.specs.Prelude.{List, [], ◌∷◌, ℕ}

-- `"`
abbrev pub quote_mark : ℕ
quote_mark = 34

-- `\`
abbrev pub backslash : ℕ
backslash = 92

-- a tab
abbrev pub tab : ℕ
tab = 9

-- `msgid "`
abbrev pub msgid_mark : List ℕ
msgid_mark = 109 ∷ 115 ∷ 103 ∷ 105 ∷ 100 ∷ 32 ∷ quote_mark ∷ []

-- `msgstr "`
abbrev pub msgstr_mark : List ℕ
msgstr_mark = 109 ∷ 115 ∷ 103 ∷ 115 ∷ 116 ∷ 114 ∷ 32 ∷ quote_mark ∷ []

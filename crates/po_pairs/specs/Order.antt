-- Which line may follow which. 02, No. 1: "between pairs, lines that are empty or begin with `#`; `msgid` then `msgstr`, ..; after either,
-- lines of quoted text alone that continue it". Such lines also stand before the first pair and after the last; one within a pair is
-- outside the subset.
-- docs/FORMAT.md: Translators' files.
use Rattle.std.specs.Prelude.{Bool, true, false, List, [], ◌∷◌}
use Rattle.po_lines.specs.declared.Kind.{Kind}
use Rattle.po_lines.specs.declared.Kind.TheVariants.{Blank, Msgid, Msgstr, More, Outside}
use Rattle.po_lines.specs.Kinds.{Line}
use Rattle.po_pairs.specs.declared.Stand.{Stand}
use Rattle.po_pairs.specs.declared.Stand.TheVariants.{Between, InId, InStr, Astray}

-- where the lines stand after one more
abbrev pub follow : Stand → Kind → Stand
follow Between Blank = Between
follow Between Msgid = InId
follow Between Msgstr = Astray
follow Between More = Astray
follow Between Outside = Astray
follow InId Blank = Astray
follow InId Msgid = Astray
follow InId Msgstr = InStr
follow InId More = InId
follow InId Outside = Astray
follow InStr Blank = Between
follow InStr Msgid = InId
follow InStr Msgstr = Astray
follow InStr More = InStr
follow InStr Outside = Astray
follow Astray k = Astray

-- where they stand after all
unfoldable pub stand_after : Stand → List Line → Stand
stand_after st [] = st
stand_after st (l ∷ ls) = stand_after (follow st l.kind) ls

-- between two pairs, or behind a msgstr: each pair is whole
abbrev pub ends_well : Stand → Bool
ends_well Between = true
ends_well InId = false
ends_well InStr = true
ends_well Astray = false

-- outside the subset
abbrev pub is_astray : Stand → Bool
is_astray Between = false
is_astray InId = false
is_astray InStr = false
is_astray Astray = true

-- in a value that lines may continue
abbrev pub in_value : Stand → Bool
in_value Between = false
in_value InId = true
in_value InStr = true
in_value Astray = false

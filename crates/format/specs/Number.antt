-- Fields that are counted in bytes: those of headers, of tables and of large headers. A reader or writer cites a row as a whole.
use Rattle.std.specs.Prelude.{List, ℕ, ◌+◌, ◌*◌}
use Rattle.std.proofs.lemmas.List.Edits.{sets}
use Rattle.bits.specs.Bytes.{number_at, bytes_of}
use Rattle.format.specs.declared.Field.{Field}
use Rattle.format.specs.declared.Layout.{Layout}
use Rattle.format.specs.Table.{place_in}

-- the number that a field of s holds
abbrev pub number_held : Field → List ℕ → ℕ
number_held f s = number_at s f.at f.width

-- the same, where the field's place is counted from p on
abbrev pub number_from : ℕ → Field → List ℕ → ℕ
number_from p f s = number_at s (p + f.at) f.width

-- the same of a header field, where it stands in a layout
abbrev pub number_in : Layout → Field → List ℕ → ℕ
number_in l f s = number_at s (place_in l f) f.width

-- where entry k of a section starts, whose first entry starts at p; f is the row of its entries
abbrev pub entry_at : ℕ → Field → ℕ → ℕ
entry_at p f k = p + k * f.width

-- the number that this entry is
abbrev pub entry_in : ℕ → Field → List ℕ → ℕ → ℕ
entry_in p f s k = number_at s (entry_at p f k) f.width

-- the bytes of a number in a field
abbrev pub bytes_for : Field → ℕ → List ℕ
bytes_for f x = bytes_of f.width x

-- s with a number in a field
abbrev pub with_number : Field → ℕ → List ℕ → List ℕ
with_number f x s = sets s f.at (bytes_for f x)

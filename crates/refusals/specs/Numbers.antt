-- The refusal numbers, by their names. 01, Refusal numbers: its table, row by row.
-- docs/FORMAT.md: Refusals.
use Rattle.std.specs.Prelude.{ℕ}

-- image under 148 or over 67,108,864 bytes; finalize under 36 or over that limit; a record slot, word or header buffer too short
abbrev pub size : ℕ
size = 1

-- wrong first 8 bytes
abbrev pub magic : ℕ
magic = 2

-- tail start past length minus 20
abbrev pub sections : ℕ
sections = 3

-- counts differ from string count, or identifiers from identifier count
abbrev pub kinds : ℕ
kinds = 4

-- overflow entries, a string that leaves storage, a narrow byte that exceeds 0x7F
abbrev pub string : ℕ
string = 5

-- a body, an info or debug place, or a large header where it cannot be
abbrev pub function : ℕ
function = 6

-- no such string or function
abbrev pub id : ℕ
id = 7

-- not valid UTF-8; in the builder, not ASCII
abbrev pub value : ℕ
value = 8

-- something lies in the old body
abbrev pub inside : ℕ
inside = 9

-- old body empty, new one not
abbrev pub empty : ℕ
empty = 10

-- result over 67,108,864 bytes
abbrev pub limit : ℕ
limit = 11

-- a moved place, a new size or a builder's string is too large for its field; 02, No. 8: a shift's sum below 0 or past its width
abbrev pub field : ℕ
field = 12

-- output shorter than the result
abbrev pub room : ℕ
room = 13

-- no string has the old value's UTF-16 units
abbrev pub absent : ℕ
absent = 14

-- malformed input of a program or of the builder; edits that are no list (02, No. 4)
abbrev pub job : ℕ
job = 15

-- 02, No. 1: a line outside the subset, bytes that aren't UTF-8, or a msgid given twice
abbrev pub file : ℕ
file = 16

-- 02, No. 4: an id given twice
abbrev pub twice : ℕ
twice = 17

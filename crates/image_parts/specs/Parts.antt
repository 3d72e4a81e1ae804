-- An image made of its parts. 01, Image rules: "Sections follow each other from byte 128"; the tail; "The last 20 bytes are the footer".
-- docs/FORMAT.md: Sections.
use Rattle.std.specs.Prelude.{◌≡◌, List, ◌++◌, ℕ, ◌+◌, ◌*◌, ◌≤◌, length, replicate}
use Rattle.bits.specs.Bytes.{words_of}
use Rattle.format.specs.declared.Layout.{Layout}
use Rattle.format.specs.Table as table
use Rattle.format.specs.Number.{number_held}
use Rattle.footer.specs.Footer.{footer_length}
use Rattle.footer.specs.Finalize.{size_limit, lengthed, sealed}
use Rattle.image.specs.Sections.{functions_in, kinds_in, identifiers_in, strings_in, overflows_in, storage_in}
use Rattle.edits.specs.Packing.{Packed}
use Rattle.edits.specs.Rebuild.{overs, region, padded}

-- the bytes of header and function records, the words of kinds and identifier hashes, the strings and their number, the bytes of the tail
pub record Parts : Type 0 where
  pub header : List ℕ
  pub records : List ℕ
  pub kinds : List ℕ
  pub hashes : List ℕ
  pub count : ℕ
  pub strings : Packed
  pub tail : List ℕ

-- all before the small table
unfoldable pub front : Parts → List ℕ
front x = x.header ++ (x.records ++ (words_of x.kinds ++ words_of x.hashes))

-- all before the tail: small table, overflow table and storage come next, with zeros to a multiple of 4
unfoldable pub sections : Parts → List ℕ
sections x = front x ++ padded (length (front x)) (region x.count x.strings)

-- all before the footer
unfoldable pub laid : Parts → List ℕ
laid x = sections x ++ x.tail

-- that and the footer's 20 bytes, finalized
unfoldable pub joined : Parts → List ℕ
joined x = sealed (lengthed (laid x ++ replicate footer_length 0))

-- the header says of the parts what they are, and the image is not over the limit
pub record PartsFit (l : Layout) (x : Parts) : Type 0 where
  pub long : length x.header ≡ table.header_length
  pub magic : number_held table.magic x.header ≡ table.magic_number
  pub functions : length x.records ≡ functions_in x.header * (table.record_row l).width
  pub kinds : kinds_in x.header ≡ length x.kinds
  pub identifiers : identifiers_in x.header ≡ length x.hashes
  pub strings : strings_in x.header ≡ x.count
  pub overflows : overflows_in x.header ≡ overs x.strings.place x.count
  pub storage : storage_in x.header ≡ length x.strings.store
  pub limit : length (laid x) + footer_length ≤ size_limit

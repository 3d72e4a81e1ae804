-- The minimal modern image, its parts in order. serialize.rs, `build_minimal_modern`: one function with a large header. Places and
-- widths are the table's.
-- docs/FORMAT.md: Builder.
use Rattle.std.specs.Prelude.{false, List, [], ◌++◌, ℕ, zero, suc, ◌+◌, ◌-◌, ◌*◌, length, get_or, take, replicate}
use Rattle.bits.specs.Bytes.{bytes_of, up4, zeros_to4}
use Rattle.format.specs.declared.Layout.TheVariants.{Modern}
use Rattle.format.specs.Table as table
use Rattle.format.specs.Record.{with_value, put_pointer}
use Rattle.format.specs.Number.{with_number}
use Rattle.format.specs.Entry.{Place, entry}
use Rattle.header_write.specs.Headers.{modern_header}
use Rattle.footer.specs.Footer.{footer_length}
use Rattle.footer.specs.Finalize.{lengthed, sealed}

-- ---- the strings. 01, refusal 15: "strings come as one text and their end places"

-- where string i starts: at the end of the one before, the first at 0
unfoldable pub start_of : List ℕ → ℕ → ℕ
start_of ends zero = 0
start_of ends (suc i) = get_or ends i 0

-- the place of string i in storage
abbrev pub place_of : List ℕ → ℕ → Place
place_of ends i = record { wide = false; at = start_of ends i; count = start_of ends (suc i) - start_of ends i }

-- the storage is the text up to the last end: "text past the last end is not read"
abbrev pub storage_of : List ℕ → List ℕ → List ℕ
storage_of text ends = take (start_of ends (length ends)) text

-- ---- places, from the number of strings n and the lengths of storage and body

abbrev pub kinds_at : ℕ
kinds_at = (table.modern_record).at + (table.modern_record).width

abbrev pub small_at : ℕ
small_at = kinds_at + (table.kind_entry).width

abbrev pub storage_at : ℕ → ℕ
storage_at n = small_at + n * (table.small_entry).width

abbrev pub body_at : ℕ → ℕ → ℕ
body_at n storage = up4 (storage_at n + storage)

abbrev pub large_at : ℕ → ℕ → ℕ
large_at begin size = up4 (begin + size)

-- ---- the sections: all before the tail

-- the header: one function, one kind, no identifier, and a source hash of zeros
unfoldable pub header_of : ℕ → ℕ → ℕ → List ℕ
header_of version n storage = modern_header version (replicate (table.source_hash_row).width 0) 1 1 0 n storage
    (replicate table.header_length 0)

-- the record of the function: nothing but the flag and the pointer of its large header
unfoldable pub record_of : ℕ → ℕ
record_of p = put_pointer Modern p (with_value table.modern_flags (with_value table.large_flag 1 0) 0)

-- the small entries of the first n strings
unfoldable pub small_table : List ℕ → ℕ → List ℕ
small_table ends zero = []
small_table ends (suc i) =
    let p = place_of ends i in
    small_table ends i ++ bytes_of (table.small_entry).width (entry p.wide p.at p.count)

-- header, record, one kind word for all strings, small table, storage, zeros; the record points to p
unfoldable pub sections : ℕ → List ℕ → List ℕ → ℕ → List ℕ
sections version storage ends p =
    header_of version (length ends) (length storage)
    ++ bytes_of (table.modern_record).width (record_of p)
    ++ bytes_of (table.kind_entry).width (length ends)
    ++ small_table ends (length ends)
    ++ storage
    ++ zeros_to4 (storage_at (length ends) + length storage)

-- ---- the tail

-- the large header of a body. serialize.rs: `large`, caches, `PROHIBIT_NONE`. The one parameter is `this`; the flags say that the function
-- may be called with and without `new`; loop depth, name, number registers and caches are 0
unfoldable pub large_header : ℕ → ℕ → List ℕ
large_header begin size =
    with_number table.modern_large_flags 2
    (with_number table.modern_large_frame 1
    (with_number table.modern_large_non_ptr_regs 1
    (with_number table.modern_large_size size
    (with_number table.modern_large_params 1 (with_number table.large_offset begin (replicate (table.modern_large_whole).width 0))))))

-- the length of the whole image
abbrev pub length_of : ℕ → ℕ → ℕ → ℕ
length_of n storage size = large_at (body_at n storage) size + (table.modern_large_whole).width + footer_length

-- body, zeros, large header, from the place where the body begins
unfoldable pub tail_of : ℕ → List ℕ → List ℕ
tail_of begin body = body ++ zeros_to4 (begin + length body) ++ large_header begin (length body)

-- ---- the image

-- all before the footer
unfoldable pub all_but_footer : ℕ → List ℕ → List ℕ → List ℕ → List ℕ
all_but_footer version storage ends body =
    let begin = body_at (length ends) (length storage) in
    sections version storage ends (large_at begin (length body)) ++ tail_of begin body

-- that and the footer's 20 bytes, finalized
unfoldable pub minimal : ℕ → List ℕ → List ℕ → List ℕ → List ℕ
minimal version storage ends body = sealed (lengthed (all_but_footer version storage ends body ++ replicate footer_length 0))

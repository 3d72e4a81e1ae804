-- The one table of places and widths. 01, Image rules; 01, Forms: "positions and widths of header and record fields for all layouts".
-- docs/FORMAT.md: Header, Sections, Function records, Large headers.
use Rattle.std.specs.Prelude.{Bool, true, false, List, [], ◌∷◌, ℕ, ◌+◌, length, get_or}
use Rattle.format.specs.declared.Field.{Field}
use Rattle.format.specs.declared.Layout.{Layout}
use Rattle.format.specs.declared.Layout.TheVariants.{Modern, Legacy}

-- a field that stands at one place in every layout that has it
abbrev pub fixed : ℕ → ℕ → Field
fixed at width = record { at = at; width = width; big = 0; sources = 0 }

-- a field that big integers and function sources push on
abbrev pub pushed : ℕ → ℕ → ℕ → ℕ → Field
pushed at width big sources = record { at = at; width = width; big = big; sources = sources }

-- ---- Header fields of every layout, in bytes.

abbrev pub magic : Field
magic = fixed 0 8

abbrev pub version : Field
version = fixed 8 4

abbrev pub source_hash_row : Field
source_hash_row = fixed 12 20

abbrev pub file_length : Field
file_length = fixed 32 4

abbrev pub global_code_index : Field
global_code_index = fixed 36 4

abbrev pub function_count : Field
function_count = fixed 40 4

abbrev pub kind_count : Field
kind_count = fixed 44 4

abbrev pub identifier_count : Field
identifier_count = fixed 48 4

abbrev pub string_count : Field
string_count = fixed 52 4

abbrev pub overflow_count : Field
overflow_count = fixed 56 4

abbrev pub storage_size : Field
storage_size = fixed 60 4

-- ---- The other fields of a modern header, in bytes.

abbrev pub modern_big_int_count : Field
modern_big_int_count = fixed 64 4

abbrev pub modern_big_int_storage : Field
modern_big_int_storage = fixed 68 4

abbrev pub modern_reg_exp_count : Field
modern_reg_exp_count = fixed 72 4

abbrev pub modern_reg_exp_storage : Field
modern_reg_exp_storage = fixed 76 4

abbrev pub modern_literal_values : Field
modern_literal_values = fixed 80 4

abbrev pub modern_obj_keys : Field
modern_obj_keys = fixed 84 4

abbrev pub modern_obj_shapes : Field
modern_obj_shapes = fixed 88 4

abbrev pub modern_string_switches : Field
modern_string_switches = fixed 92 4

abbrev pub modern_segment_id : Field
modern_segment_id = fixed 96 4

abbrev pub modern_cjs_modules : Field
modern_cjs_modules = fixed 100 4

abbrev pub modern_function_sources : Field
modern_function_sources = fixed 104 4

abbrev pub modern_debug : Field
modern_debug = fixed 108 4

abbrev pub modern_options : Field
modern_options = fixed 112 4

-- ---- The other fields of a legacy header, in bytes. The first two stand there only with big integers, the
-- function source count only with function sources.

abbrev pub legacy_big_int_count : Field
legacy_big_int_count = fixed 64 4

abbrev pub legacy_big_int_storage : Field
legacy_big_int_storage = fixed 68 4

abbrev pub legacy_reg_exp_count : Field
legacy_reg_exp_count = pushed 64 4 8 0

abbrev pub legacy_reg_exp_storage : Field
legacy_reg_exp_storage = pushed 68 4 8 0

abbrev pub legacy_array_buffer : Field
legacy_array_buffer = pushed 72 4 8 0

abbrev pub legacy_obj_keys : Field
legacy_obj_keys = pushed 76 4 8 0

abbrev pub legacy_obj_values : Field
legacy_obj_values = pushed 80 4 8 0

abbrev pub legacy_segment_id : Field
legacy_segment_id = pushed 84 4 8 0

abbrev pub legacy_cjs_modules : Field
legacy_cjs_modules = pushed 88 4 8 0

abbrev pub legacy_function_sources : Field
legacy_function_sources = pushed 92 4 8 0

abbrev pub legacy_debug : Field
legacy_debug = pushed 92 4 8 4

abbrev pub legacy_options : Field
legacy_options = pushed 96 1 8 4

-- ---- Function records, in bytes: where the first one starts, and the size of each.

abbrev pub modern_record : Field
modern_record = fixed 128 12

abbrev pub legacy_record : Field
legacy_record = fixed 128 16

-- ---- Fields of a legacy record, in bits.

abbrev pub legacy_offset : Field
legacy_offset = fixed 0 25

abbrev pub legacy_params : Field
legacy_params = fixed 25 7

abbrev pub legacy_size : Field
legacy_size = fixed 32 15

abbrev pub legacy_name : Field
legacy_name = fixed 47 17

abbrev pub legacy_info : Field
legacy_info = fixed 64 25

abbrev pub legacy_frame : Field
legacy_frame = fixed 89 7

abbrev pub legacy_environment : Field
legacy_environment = fixed 96 8

abbrev pub legacy_read_cache : Field
legacy_read_cache = fixed 104 8

abbrev pub legacy_write_cache : Field
legacy_write_cache = fixed 112 8

abbrev pub legacy_flags : Field
legacy_flags = fixed 120 8

abbrev pub legacy_pointer_low : Field
legacy_pointer_low = fixed 0 16

-- ---- Fields of a modern record, in bits.

abbrev pub modern_offset : Field
modern_offset = fixed 0 25

abbrev pub modern_size : Field
modern_size = fixed 32 14

abbrev pub modern_flags : Field
modern_flags = fixed 88 8

abbrev pub modern_pointer_low : Field
modern_pointer_low = fixed 0 24

abbrev pub modern_pointer_high : Field
modern_pointer_high = fixed 46 8

-- ---- A bit of a record's flags, 0x20: a large header.

abbrev pub large_flag : Field
large_flag = fixed 5 1

-- ---- Fields of a small string entry, in bits.

abbrev pub entry_wide : Field
entry_wide = fixed 0 1

abbrev pub entry_offset : Field
entry_offset = fixed 1 23

abbrev pub entry_length : Field
entry_length = fixed 24 8

-- ---- Fields of a kind word, in bits.

abbrev pub kind_run : Field
kind_run = fixed 0 31

abbrev pub kind_identifier : Field
kind_identifier = fixed 31 1

-- ---- Words of what has several, in bytes from its start: rows that several fields share.

abbrev pub first_word : Field
first_word = fixed 0 4

abbrev pub second_word : Field
second_word = fixed 4 4

-- ---- Entries of the sections after the records, in bytes: the size of each.

abbrev pub kind_entry : Field
kind_entry = first_word

abbrev pub hash_entry : Field
hash_entry = first_word

abbrev pub small_entry : Field
small_entry = first_word

abbrev pub overflow_entry : Field
overflow_entry = fixed 0 8

-- ---- Words of an overflow entry, in bytes from its start.

abbrev pub overflow_offset : Field
overflow_offset = first_word

abbrev pub overflow_length : Field
overflow_length = second_word

-- ---- Fields of a large header, in bytes from its pointer.

abbrev pub large_offset : Field
large_offset = first_word

abbrev pub modern_large_params : Field
modern_large_params = second_word

abbrev pub modern_large_size : Field
modern_large_size = fixed 12 4

abbrev pub modern_large_non_ptr_regs : Field
modern_large_non_ptr_regs = fixed 24 4

abbrev pub modern_large_frame : Field
modern_large_frame = fixed 28 4

abbrev pub modern_large_flags : Field
modern_large_flags = fixed 36 1

abbrev pub legacy_large_size : Field
legacy_large_size = fixed 8 4

abbrev pub legacy_large_info : Field
legacy_large_info = fixed 16 4

-- ---- From the pointer on: the words that no other header or body may share, and a whole modern header with zeros to a multiple of 4.

abbrev pub modern_large : Field
modern_large = fixed 0 16

abbrev pub legacy_large : Field
legacy_large = fixed 0 20

abbrev pub modern_large_whole : Field
modern_large_whole = fixed 0 40

-- ---- all rows, in the order of the code's table; what is the same four numbers may stand there once

abbrev pub rows : List Field
rows =
    magic ∷
    version ∷
    source_hash_row ∷
    file_length ∷
    global_code_index ∷
    function_count ∷
    kind_count ∷
    identifier_count ∷
    string_count ∷
    overflow_count ∷
    storage_size ∷
    modern_big_int_count ∷
    modern_big_int_storage ∷
    modern_reg_exp_count ∷
    modern_reg_exp_storage ∷
    modern_literal_values ∷
    modern_obj_keys ∷
    modern_obj_shapes ∷
    modern_string_switches ∷
    modern_segment_id ∷
    modern_cjs_modules ∷
    modern_function_sources ∷
    modern_debug ∷
    modern_options ∷
    legacy_big_int_count ∷
    legacy_big_int_storage ∷
    legacy_reg_exp_count ∷
    legacy_reg_exp_storage ∷
    legacy_array_buffer ∷
    legacy_obj_keys ∷
    legacy_obj_values ∷
    legacy_segment_id ∷
    legacy_cjs_modules ∷
    legacy_function_sources ∷
    legacy_debug ∷
    legacy_options ∷
    modern_record ∷
    legacy_record ∷
    legacy_offset ∷
    legacy_params ∷
    legacy_size ∷
    legacy_name ∷
    legacy_info ∷
    legacy_frame ∷
    legacy_environment ∷
    legacy_read_cache ∷
    legacy_write_cache ∷
    legacy_flags ∷
    legacy_pointer_low ∷
    modern_size ∷
    modern_flags ∷
    modern_pointer_low ∷
    modern_pointer_high ∷
    large_flag ∷
    entry_wide ∷
    entry_offset ∷
    entry_length ∷
    kind_run ∷
    kind_identifier ∷
    first_word ∷
    second_word ∷
    overflow_entry ∷
    modern_large_size ∷
    modern_large_non_ptr_regs ∷
    modern_large_frame ∷
    modern_large_flags ∷
    legacy_large_info ∷
    modern_large ∷
    legacy_large ∷
    modern_large_whole ∷
    []

-- how many there are
abbrev pub row_count : ℕ
row_count = length rows

-- row k of the table
abbrev pub row_of : ℕ → Field
row_of k = get_or rows k (fixed 0 0)

-- the length of the file header: 01, "Sections follow each other from byte 128", in every layout
abbrev pub header_length : ℕ
header_length = modern_record.at

-- 01: "Bytes 0..8 hold 0x1F1903C103BC1FC6"
abbrev pub magic_number : ℕ
magic_number = 0x1F1903C103BC1FC6

-- ---- by layout

-- a number that counts only where a fact holds
abbrev pub if_set : Bool → ℕ → ℕ
if_set true n = n
if_set false n = 0

-- where a field stands in an image: 01, "plus 8 with big integers, plus 4 with function sources"
abbrev pub place_in : Layout → Field → ℕ
place_in Modern f = f.at
place_in (Legacy big sources) f = f.at + if_set big f.big + if_set sources f.sources

-- the place of the first function record, and the size of each: 01, "12 bytes modern, 16 legacy"
abbrev pub record_row : Layout → Field
record_row Modern = modern_record
record_row (Legacy big sources) = legacy_record

-- the words of a large header: 01, "20 bytes legacy, 16 modern"
abbrev pub large_row : Layout → Field
large_row Modern = modern_large
large_row (Legacy big sources) = legacy_large

-- the debug offset's field
abbrev pub debug_row : Layout → Field
debug_row Modern = modern_debug
debug_row (Legacy big sources) = legacy_debug

-- The file headers, field by field at their places of the table. The Rust's write_modern_header and write_legacy_header.
-- docs/FORMAT.md: Header writers.
use Rattle.std.specs.Prelude.{Bool, true, false, List, [], ◌∷◌, ◌++◌, ℕ, zero, suc, ◌+◌, leb, eqb, length}
use Rattle.std.proofs.lemmas.List.Edits.{sets}
use Rattle.refusals.specs.Numbers as refusals
use Rattle.bits.specs.Choice.{pick, both}
use Rattle.bits.specs.Bytes.{bytes_of}
use Rattle.bits.specs.Outcome.{Outcome, refused, made}
use Rattle.format.specs.declared.Field.{Field}
use Rattle.format.specs.declared.Layout.{Layout}
use Rattle.format.specs.declared.Layout.TheVariants.{Modern, Legacy}
use Rattle.format.specs.Table as table
use Rattle.header_write.specs.declared.headers.LegacyHeader.{LegacyHeader}

-- a field and the value that it gets
pub record Put : Type 0 where
  pub field : Field
  pub value : ℕ

abbrev pub put : Field → ℕ → Put
put f v = record { field = f; value = v }

-- the fields written one after the other, each at its place in the layout
unfoldable pub put_all : Layout → List Put → List ℕ → List ℕ
put_all l [] s = s
put_all l (p ∷ ps) s = put_all l ps (sets s (table.place_in l p.field) (bytes_of p.field.width p.value))

-- fields that stand in a header only where a fact holds
abbrev pub optional : Bool → List Put → List Put
optional true ps = ps
optional false ps = []

-- the magic number, the version and the source hash
unfoldable pub identity : ℕ → List ℕ → List ℕ → List ℕ
identity version hash s =
    sets (put_all Modern (put table.magic table.magic_number ∷ put table.version version ∷ []) s) (table.source_hash_row).at hash

-- a header buffer of fewer than 128 bytes is refused with 1
unfoldable pub on_header : (List ℕ → List ℕ) → List ℕ → Outcome
on_header edit s = pick (leb table.header_length (length s)) (made (edit s)) (refused refusals.size)

-- the fields of a modern header after the source hash, in order: bytes 32..40 and those from 116 on are in none
abbrev pub modern_rows : ℕ → ℕ → ℕ → ℕ → ℕ → List Put
modern_rows functions kinds identifiers strings storage =
    put table.function_count functions
    ∷ put table.kind_count kinds
    ∷ put table.identifier_count identifiers
    ∷ put table.string_count strings
    ∷ put table.overflow_count 0
    ∷ put table.storage_size storage
    ∷ put table.modern_big_int_count 0
    ∷ put table.modern_big_int_storage 0
    ∷ put table.modern_reg_exp_count 0
    ∷ put table.modern_reg_exp_storage 0
    ∷ put table.modern_literal_values 0
    ∷ put table.modern_obj_keys 0
    ∷ put table.modern_obj_shapes 0
    ∷ put table.modern_string_switches 0
    ∷ put table.modern_segment_id 0
    ∷ put table.modern_cjs_modules 0
    ∷ put table.modern_function_sources 0
    ∷ put table.modern_debug 0
    ∷ put table.modern_options 0
    ∷ []

-- a modern header
unfoldable pub modern_header : ℕ → List ℕ → ℕ → ℕ → ℕ → ℕ → ℕ → List ℕ → List ℕ
modern_header version hash functions kinds identifiers strings storage s =
    put_all Modern (modern_rows functions kinds identifiers strings storage) (identity version hash s)

-- the layout of a legacy header
abbrev pub layout_of : LegacyHeader → Layout
layout_of h = Legacy h.has_bigint h.has_function_source

-- the segment's id, or 0 where the version has none
abbrev pub segment_of : LegacyHeader → ℕ
segment_of h = table.if_set h.has_segment_id h.segment_id

-- the fields of a legacy header after the source hash, in order: counts, and those of big integers
unfoldable pub legacy_front : LegacyHeader → List Put
legacy_front h =
    (put table.file_length h.file_length
    ∷ put table.global_code_index h.global_code_index
    ∷ put table.function_count h.function_count
    ∷ put table.kind_count h.string_kind_count
    ∷ put table.identifier_count h.identifier_count
    ∷ put table.string_count h.string_count
    ∷ put table.overflow_count h.overflow_string_count
    ∷ put table.storage_size h.string_storage_size
    ∷ [])
    ++ optional h.has_bigint
    (put table.legacy_big_int_count h.big_int_count ∷ put table.legacy_big_int_storage h.big_int_storage_size ∷ [])

-- the fields behind them, in order: all bytes after the options byte stay
unfoldable pub legacy_back : LegacyHeader → List Put
legacy_back h =
    (put table.legacy_reg_exp_count h.reg_exp_count
    ∷ put table.legacy_reg_exp_storage h.reg_exp_storage_size
    ∷ put table.legacy_array_buffer h.array_buffer_size
    ∷ put table.legacy_obj_keys h.obj_key_buffer_size
    ∷ put table.legacy_obj_values h.obj_value_buffer_size
    ∷ put table.legacy_segment_id (segment_of h)
    ∷ put table.legacy_cjs_modules h.cjs_module_count
    ∷ [])
    ++ (optional h.has_function_source (put table.legacy_function_sources h.function_source_count ∷ [])
    ++ ((put table.legacy_debug h.debug_info_offset ∷ []) ++ (put table.legacy_options h.options ∷ [])))

-- a legacy header
unfoldable pub legacy_header : LegacyHeader → List ℕ → List ℕ
legacy_header h s = put_all (layout_of h) (legacy_front h ++ legacy_back h) (identity h.version h.source_hash s)

-- ---- what the code's loop over a run of rows writes

-- the rows from k on with these values
unfoldable pub run : ℕ → List ℕ → List Put
run k [] = []
run k (v ∷ vs) = put (table.row_of k) v ∷ run (suc k) vs

-- a row that is a word of a header, wherever the layout pushes it
abbrev pub is_header_word : Field → Bool
is_header_word f = both (eqb f.width 4) (leb (f.at + f.big + f.sources + f.width) table.header_length)

-- n rows from k on are words of a header
abbrev pub header_words : ℕ → ℕ → Bool
header_words k zero = true
header_words k (suc n) = both (is_header_word (table.row_of k)) (header_words (suc k) n)

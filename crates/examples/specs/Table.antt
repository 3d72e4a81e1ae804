-- The marked examples of 01: one table, one claim.
-- docs/FORMAT.md: Marked examples.
use Rattle.std.specs.Prelude.{Bool, true, false, List, [], ◌∷◌, ℕ, T, eqb, length}
use Rattle.bits.specs.Choice.{both, all_below, sum_below, judge}
use Rattle.bits.specs.Bytes.{bytes_at, number, bytes_of, word_at, ascii}
use Rattle.bits.specs.Fields.{field_of, with_field}
use Rattle.bits.specs.Word32.{add32, xor_n}
use Rattle.format.specs.declared.Layout.{Layout}
use Rattle.format.specs.declared.Layout.TheVariants.{Modern, Legacy}
use Rattle.format.specs.declared.Mode.{Mode}
use Rattle.format.specs.declared.Mode.TheVariants.{Plain}
use Rattle.format.specs.Table.{modern_pointer_low, modern_pointer_high, legacy_pointer_low, legacy_info, place_in, debug_row}
use Rattle.format.specs.Table.{modern_record, storage_size, large_offset}
use Rattle.format.specs.Record.{with_value, is_large, pointer, put_pointer}
use Rattle.format.specs.Number.{number_held, number_from}
use Rattle.format.specs.Entry.{Place, bit, is_over, entry, small_word}
use Rattle.format.specs.Hash.{mixed, hash_step, hash_from, hash_of}
use Rattle.format.specs.Move.{moved}
use Rattle.header_write.specs.Headers.{put_all, identity, modern_header}
use Rattle.sha1_hash.specs.BigEndian.{big_bytes}
use Rattle.sha1_hash.specs.Sha1.{digest_bytes, digest}
use Rattle.footer.specs.Footer.{footed}
use Rattle.footer.specs.Finalize.{lengthed, sealed}
use Rattle.serialize.specs.Parts.{start_of, storage_of, header_of, record_of, small_table, sections, large_header, tail_of}
use Rattle.serialize.specs.Parts.{all_but_footer, minimal}
use Rattle.serialize.specs.Builder as builder
use Rattle.image.specs.Sections.{kinds_at, hashes_at, small_at, over_at, storage_at, tail_at}
use Rattle.image.specs.Strings.{over_before, place_of, locate, small_in, over_in, place_at, string_of}
use Rattle.image.specs.Kinds.{kind_in, covered, identified}
use Rattle.image.specs.Functions as function
use Rattle.image.specs.Admission.{overflows_counted, overflows_numbered, strings_stored, bytes_narrow, strings_narrow}
use Rattle.image.specs.Admission.{headers_in, bodies_in, infos_in, debug_in_tail, headers_apart, bodies_apart, checks}
use Rattle.edits.specs.Fit.{fields_fit}
use Rattle.utf.specs.Utf8 as utf8
use Rattle.edits.specs.Edit.{splice, write_all, groups, put_small, pointed, put_header, record_group, header_group, edit}
use Rattle.edits.specs.Packing.{store_of}
use Rattle.edits.specs.Packing as packing
use Rattle.edits.specs.Rebuild.{smalls, pair_of, pairs, overs, region, padded, rebuild}
use Rattle.string_overlap.specs.Overlap.{is_apart, is_alone}
use Rattle.string_edits.specs.Values.{only, in_turn}
use Rattle.string_packing.specs.Strings.{as_string, string_with, strings_with}
use Rattle.string_in_place.specs.Patch.{fits_in_place, fits_all, changed, new_length, patch_fits}
use Rattle.strings.specs.Patch.{by_id_refusal}

-- what a definition gives, and what 01 says
pub record Row : Type 0 where
  pub given : ℕ
  pub marked : ℕ

abbrev pub row : ℕ → ℕ → Row
row g m = record { given = g; marked = m }

-- a string's place: wide or not, offset, length
abbrev pub at : Bool → ℕ → ℕ → Place
at wide offset count = record { wide = wide; at = offset; count = count }

-- the debug offset's position in a layout
abbrev pub debug : Layout → ℕ
debug l = place_in l (debug_row l)

-- what a definition makes of the strings "a" and "bc" and a 4-byte body
abbrev pub to_j : {A : Type 0} → (ℕ → List ℕ → List ℕ → List ℕ → A) → A
to_j build = build 97 (0x61 ∷ 0x62 ∷ 0x63 ∷ []) (1 ∷ 3 ∷ []) (1 ∷ 2 ∷ 3 ∷ 4 ∷ [])

-- the finished image
abbrev pub of_j : List ℕ
of_j = to_j (λ version text ends. minimal version (storage_of text ends) ends)

-- what a definition makes of that image when its string 0 is set to "aaaaa"
abbrev pub to_k : {A : Type 0} → (Mode → Layout → List ℕ → ℕ → List ℕ → A) → A
to_k patch = patch Plain Modern of_j 0 (0x61 ∷ 0x61 ∷ 0x61 ∷ 0x61 ∷ 0x61 ∷ [])

abbrev pub of_k : List ℕ
of_k = to_k (λ m l s id value. changed m l s (only id value))

unfoldable pub rows : List Row
rows =
    -- a. narrow, length 254, offset 0
    row (small_word 0 (at false 0 254)) 0xFE000000
    -- b. length 255, first overflow
    ∷ row (small_word 0 (at false 0 255)) 0xFF000000
    -- c. offset 8,388,607 small, 8,388,608 overflow
    ∷ row (bit (is_over (at false 8388607 1))) 0
    ∷ row (small_word 0 (at false 8388607 1)) 0x01FFFFFE
    ∷ row (bit (is_over (at false 8388608 1))) 1
    ∷ row (small_word 0 (at false 8388608 1)) 0xFF000000
    -- d. wide, length 1, offset 0
    ∷ row (small_word 0 (at true 0 1)) 0x01000001
    -- e. modern low 0xA0, name bits 1
    ∷ row (pointer Modern (with_value modern_pointer_high 1 (with_value modern_pointer_low 0xA0 0))) 0x010000A0
    -- f. legacy low 0x1234, info 2
    ∷ row (pointer (Legacy false false) (with_value legacy_info 2 (with_value legacy_pointer_low 0x1234 0))) 0x21234
    -- g. threshold 160, delta 4
    ∷ row (moved 160 164 160) 164
    ∷ row (moved 160 164 159) 159
    -- h. the hash of nothing, of "a", of "ab" and of U+00E9
    ∷ row (hash_of []) 0
    ∷ row (hash_of (0x61 ∷ [])) 0x18270
    ∷ row (hash_of (0x61 ∷ 0x62 ∷ [])) 0x614F9F9
    ∷ row (hash_of (utf8.utf16 (0xC3 ∷ 0xA9 ∷ []))) 0x3AA7A
    -- i. debug positions
    ∷ row (debug (Legacy false false)) 92
    ∷ row (debug (Legacy false true)) 96
    ∷ row (debug (Legacy true false)) 100
    ∷ row (debug (Legacy true true)) 104
    ∷ row (debug Modern) 108
    -- j. builder, "a", "bc", 4-byte body: accepted; small words, body at 156, large header at 160, length 220
    ∷ row (to_j (λ version text ends body. judge (builder.checks version text ends body))) 0
    ∷ row (small_in Modern of_j 0) 0x01000000
    ∷ row (small_in Modern of_j 1) 0x02000002
    ∷ row (function.func_of Modern of_j 0).begin 156
    ∷ row (function.func_of Modern of_j 0).size 4
    ∷ row (word_at of_j 156) 0x04030201
    ∷ row (function.func_of Modern of_j 0).ptr 160
    ∷ row (length of_j) 220
    -- k. then id 0 to "aaaaa": accepted; small words, storage 7, body at 160, large header 164, length 224
    ∷ row (to_k by_id_refusal) 0
    ∷ row (word_at of_k 144) 0x05000000
    ∷ row (word_at of_k 148) 0x0200000A
    ∷ row (number_held storage_size of_k) 7
    ∷ row (word_at of_k 160) 0x04030201
    ∷ row (pointer Modern (number_held modern_record of_k)) 164
    ∷ row (number_from 164 large_offset of_k) 160
    ∷ row (length of_k) 224
    ∷ []

-- every row gives what is marked
unfoldable pub all_marked : List Row → Bool
all_marked [] = true
all_marked (r ∷ rs) = both (eqb r.given r.marked) (all_marked rs)

-- the claim
pub marked : T (all_marked rows)
unfolding rows all_marked small_word entry with_field field_of pointer moved hash_of hash_from hash_step mixed add32 xor_n all_but_footer
    sections
    header_of modern_header identity put_all record_of put_pointer small_table start_of tail_of large_header bytes_of bytes_at number
    minimal sealed lengthed footed digest digest_bytes big_bytes kinds_at hashes_at small_at over_at storage_at tail_at over_before place_of
    locate small_in over_in place_at string_of function.small function.header function.record_in function.func_of is_large splice
    write_all groups put_small pointed put_header record_group header_group edit store_of packing.start_of smalls pair_of pairs overs
    region padded
    rebuild is_apart is_alone in_turn as_string string_with strings_with fits_in_place fits_all changed ascii all_below sum_below judge
    kind_in covered
    identified overflows_counted overflows_numbered strings_stored bytes_narrow strings_narrow headers_in bodies_in infos_in debug_in_tail
    headers_apart bodies_apart checks fields_fit utf8.is_utf8 utf8.reading_of utf8.next_byte utf8.opens new_length patch_fits by_id_refusal
    builder.checks builder.ends_ascend builder.ends_within builder.all_small utf8.utf16 utf8.units_from utf8.units_of_point
marked = tt

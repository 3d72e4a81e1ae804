-- The parts of the image: their lengths, and each written at its place.
use Rattle.std.specs.Prelude.{Result}
use mathlib.Core.Path.{◌≡◌, refl, ap, ◌∙◌}
use mathlib.Core.Bool.{false}
use mathlib.Core.List.{List, [], ◌++◌, append-nil}
use Prim.Native.Nat.{ℕ, zero, suc, ◌+◌, ◌-◌, ◌*◌, ◌^◌, ◌≤◌, ◌<◌}
use native.Mathlib.Numerals.{add-one}
use native.Mathlib.Omega.{arith}
use borrow.Rule.Slice.PartMut.{put_mid}
use lib.ListN.{length, take, drop, replicate, length-append, length-replicate, length-drop, drop_of_length-le}
use lib.Seq.{sets, length-sets}
use Rattle.bits.specs.Bytes.{bytes_of, up4, zeros_to4}
use Rattle.bits.specs.Outcome.{Answers, made}
use Rattle.bits.proofs.ListLaws.{AllBelow, below_zeros}
use Rattle.bits.proofs.ByteLaws.{length-bytes_of}
use Rattle.bits.proofs.WriteLaws.{sets_then, part_sets}
use Rattle.format.specs.declared.Field.{Field}
use Rattle.format.specs.Table as table
use Rattle.format.specs.Table.{header_length, source_hash_row}
use Rattle.format.specs.Number.{number_held, bytes_for, with_number}
use Rattle.format.specs.Entry.{entry}
use Rattle.format.proofs.RecordLaws.{Apart}
use Rattle.format.proofs.NumberLaws.{number_put, number_kept, number_below, Written, number-within}
use Rattle.header_write.specs.Slots.{Writes}
use Rattle.header_write.specs.Headers.{modern_header, on_header}
use Rattle.header_write.proofs.HeaderLaws.{length-modern_header}
use Rattle.header_write.proofs.SlotLaws.{front}
use Rattle.footer.specs.Footer.{footer_length}
use Rattle.footer.specs.Finalize.{size_limit, lengthed, sealed, finalize_of}
use Rattle.footer.proofs.FinalizeLaws.{finalize_within, length_finalized, finalized_over}
use Rattle.serialize.specs.Parts.{start_of, storage_at, body_at, large_at, length_of, header_of, record_of, small_table, sections}
use Rattle.serialize.specs.Parts.{large_header, tail_of, all_but_footer, minimal}

-- ---- lengths

length-zeros_to4 : (n : ℕ) → length (zeros_to4 n) ≡ up4 n - n
length-zeros_to4 n = length-replicate {A = ℕ} (up4 n - n) 0

length-header_of : (v n z : ℕ) → length (header_of v n z) ≡ header_length
unfolding header_of
length-header_of v n z = length-modern_header v (replicate source_hash_row.width 0) 1 1 0 n z (replicate header_length 0)

length-small_table : (ends : List ℕ) (n : ℕ) → length (small_table ends n) ≡ n * 4
unfolding small_table
length-small_table ends zero = refl
length-small_table ends (suc n) =
    let e = bytes_of 4 (entry false (start_of ends n) (start_of ends (suc n) - start_of ends n)) in
    omega (
      arith,
      length-append (small_table ends n) e,
      length-small_table ends n,
      length-bytes_of 4
          (entry false (start_of ends n) (start_of ends (suc n) - start_of ends n)),
    )

pub length-large_header : (begin size : ℕ) → length (large_header begin size) ≡ (table.modern_large_whole).width
unfolding large_header
length-large_header begin size = simp length-sets

length-sections : (v : ℕ) (storage ends : List ℕ) (p : ℕ)
    → length (sections v storage ends p) ≡ body_at (length ends) (length storage)
unfolding sections
length-sections v storage ends p = simp (length-append, length-header_of, length-bytes_of, length-small_table, length-zeros_to4)
    (omega arith)

length-tail_of : (begin : ℕ) (body : List ℕ)
    → begin + length (tail_of begin body) ≡ large_at begin (length body) + (table.modern_large_whole).width
unfolding tail_of
length-tail_of begin body = simp (length-append, length-zeros_to4, length-large_header) (omega arith)

-- ---- the header, in a buffer of zeros

pub header_is : (v n z : ℕ) (r : Result (Unit {0}) ℕ) (s : List ℕ)
    → Writes (on_header (modern_header v (replicate source_hash_row.width 0) 1 1 0 n z) (replicate header_length 0)) r
    (replicate header_length 0) s
    → s ≡ header_of v n z
unfolding on_header header_of
header_is v n z r s w =
    let h = modern_header v (replicate source_hash_row.width 0) 1 1 0 n z (replicate header_length 0) in
    let l : length h ≡ header_length = length-header_of v n z in
    w.1 ∙ rw (drop_of_length-le (replicate {A = ℕ} header_length 0) {i = length h} (omega arith)) (append-nil h)

-- ---- the record, in the part that is lent for it

-- `new` is the part of l for the record, with the record w stored in it, which points to p
pub record RecordStored (l new : List ℕ) (at end w p : ℕ) : Type 0 where
  pub from : at ≡ 128
  pub to : end ≡ 140
  pub room : 140 ≤ length l
  pub put : new ≡ sets (take (end - at) (drop at l)) 0 (bytes_of 12 w)
  pub pointing : w ≡ record_of p

pub record_laid : (l new : List ℕ) (at end w p : ℕ) → RecordStored l new at end w p
    → put_mid at (end - at) l new ≡ sets l 128 (bytes_of 12 (record_of p))
record_laid l new at end w p s =
    rw (s.put, s.pointing, s.from, s.to)
    (part_sets l (bytes_of 12 (record_of p)) 128 12 0 s.room (omega (arith, length-bytes_of 12 (record_of p))))

-- ---- the small table: one entry more

pub small-none : (ends o : List ℕ) → o ≡ sets o 144 (small_table ends 0)
unfolding small_table
small-none ends o = refl

pub small_more : (ends o o1 : List ℕ) (i at w : ℕ) → o1 ≡ sets o 144 (small_table ends i) → at ≡ storage_at i
    → w ≡ entry false (start_of ends i) (start_of ends (i + 1) - start_of ends i)
    → sets o1 at (bytes_of 4 w) ≡ sets o 144 (small_table ends (i + 1))
unfolding small_table
small_more ends o o1 i at w p e k =
    rw add-one (sets_then o o1 _ (small_table ends i) _ 144 at p (omega (arith, length-small_table ends i)) (rw (k, add-one)))

-- ---- the large header

module _ (begin size : ℕ) where
  abbrev z : List ℕ
  z = replicate (table.modern_large_whole).width 0

  abbrev a : List ℕ
  a = with_number table.large_offset begin z

  abbrev b : List ℕ
  b = with_number table.modern_large_params 1 a

  abbrev c : List ℕ
  c = with_number table.modern_large_size size b

  abbrev d : List ℕ
  d = with_number table.modern_large_non_ptr_regs 1 c

  abbrev e : List ℕ
  e = with_number table.modern_large_frame 1 d

  -- its body offset and its body size are read back
  behind : (g : Field) → Apart table.modern_large_non_ptr_regs g → Apart table.modern_large_frame g → Apart table.modern_large_flags g
      → number_held g (large_header begin size) ≡ number_held g c
  unfolding large_header
  behind g j k l =
      number_kept table.modern_large_flags g 2 e l ∙ number_kept table.modern_large_frame g 1 d k
      ∙ number_kept table.modern_large_non_ptr_regs g 1 c j

  pub large_offset_lem : begin < 2 ^ 32 → number_held table.large_offset (large_header begin size) ≡ begin
  large_offset_lem h =
      behind table.large_offset (omega arith) (omega arith) (omega arith)
      ∙ number_kept table.modern_large_size table.large_offset size b (omega arith)
      ∙ number_kept table.modern_large_params table.large_offset 1 a (omega arith) ∙ number_put table.large_offset begin z (omega arith) h

  pub large_size : size < 2 ^ 32 → number_held table.modern_large_size (large_header begin size) ≡ size
  large_size h =
      behind table.modern_large_size (omega arith) (omega arith) (omega arith)
      ∙ number_put table.modern_large_size size b (simp length-sets (omega arith)) h

  -- it is bytes
  pub large_below : AllBelow 256 (large_header begin size)
  unfolding large_header
  large_below =
      number_below table.modern_large_flags 2 e
      (number_below table.modern_large_frame 1 d
      (number_below table.modern_large_non_ptr_regs 1 c
      (number_below table.modern_large_size size b
      (number_below table.modern_large_params 1 a
      (number_below table.large_offset begin z (below_zeros 256 (omega arith) (table.modern_large_whole).width))))))

-- zeros in o at this place, then field by field all but the flags
pub record HeaderStored (o o0 o1 o2 o3 o4 o5 : List ℕ) (at begin size : ℕ) : Type 0 where
  pub zeros : Written o at (replicate (table.modern_large_whole).width 0) o0
  pub offset : o1 ≡ sets o0 (at + (table.large_offset).at) (bytes_for table.large_offset begin)
  pub params : o2 ≡ sets o1 (at + (table.modern_large_params).at) (bytes_for table.modern_large_params 1)
  pub sized : o3 ≡ sets o2 (at + (table.modern_large_size).at) (bytes_for table.modern_large_size size)
  pub regs : o4 ≡ sets o3 (at + (table.modern_large_non_ptr_regs).at) (bytes_for table.modern_large_non_ptr_regs 1)
  pub frame : o5 ≡ sets o4 (at + (table.modern_large_frame).at) (bytes_for table.modern_large_frame 1)

module _ (o o0 o1 o2 o3 o4 o5 : List ℕ) (at begin size : ℕ) where
  pub large_laid : HeaderStored o o0 o1 o2 o3 o4 o5 at begin size
      → sets o5 (at + (table.modern_large_flags).at) (bytes_for table.modern_large_flags 2) ≡ sets o at (large_header begin size)
  unfolding large_header
  large_laid h =
      let w1 = number-within table.large_offset begin o o0 o1 (z begin size) at h.zeros (omega arith) h.offset in
      let w2 = number-within table.modern_large_params 1 o o1 o2 (a begin size) at w1 (simp length-sets (omega arith)) h.params in
      let w3 = number-within table.modern_large_size size o o2 o3 (b begin size) at w2 (simp length-sets (omega arith)) h.sized in
      let w4 = number-within table.modern_large_non_ptr_regs 1 o o3 o4 (c begin size) at w3 (simp length-sets (omega arith)) h.regs in
      let w5 = number-within table.modern_large_frame 1 o o4 o5 (d begin size) at w4 (simp length-sets (omega arith)) h.frame in
      (number-within table.modern_large_flags 2 o o5 _ (e begin size) at w5 (simp length-sets (omega arith)) refl).laid

-- ---- parts behind each other

-- what lies before the body, part by part in o
pub record SectionsStored (v : ℕ) (storage ends : List ℕ) (p : ℕ) (o o1 o2 o3 o4 o5 o6 : List ℕ) : Type 0 where
  pub header : o1 ≡ sets o 0 (header_of v (length ends) (length storage))
  pub pointing : o2 ≡ sets o1 128 (bytes_of 12 (record_of p))
  pub kinds : o3 ≡ sets o2 140 (bytes_of 4 (length ends))
  pub small : o4 ≡ sets o3 144 (small_table ends (length ends))
  pub text : o5 ≡ sets o4 (storage_at (length ends)) storage
  pub zeros : o6 ≡ sets o5 (storage_at (length ends) + length storage) (zeros_to4 (storage_at (length ends) + length storage))

module _ (v : ℕ) (storage ends : List ℕ) (p : ℕ) (o o1 o2 o3 o4 o5 o6 : List ℕ) where
  pub sections-laid : SectionsStored v storage ends p o o1 o2 o3 o4 o5 o6 → o6 ≡ sets o 0 (sections v storage ends p)
  unfolding sections
  sections-laid y =
      let a = header_of v (length ends) (length storage) in
      let b = a ++ bytes_of 12 (record_of p) in
      let c = b ++ bytes_of 4 (length ends) in
      let d = c ++ small_table ends (length ends) in
      let a-is = length-header_of v (length ends) (length storage) in
      let b-is : length b ≡ 140 = simp (length-append, a-is, length-bytes_of) (omega arith) in
      let c-is : length c ≡ 144 = simp (length-append, a-is, length-bytes_of) (omega arith) in
      let d-is : length d ≡ storage_at (length ends) = simp (length-append, a-is, length-bytes_of, length-small_table) (omega arith) in
      let f2 = sets_then o o1 o2 a (bytes_of 12 (record_of p)) 0 128 y.header (omega arith) y.pointing in
      let f3 = sets_then o o2 o3 b (bytes_of 4 (length ends)) 0 140 f2 (omega arith) y.kinds in
      let f4 = sets_then o o3 o4 c (small_table ends (length ends)) 0 144 f3 (omega arith) y.small in
      let f5 = sets_then o o4 o5 d storage 0 (storage_at (length ends)) f4 (omega arith) y.text in
      sets_then o o5 o6 (d ++ storage) _ 0 _ f5 (omega (arith, length-append d storage)) y.zeros

module _ (o o1 o2 o3 : List ℕ) where
  pub tail_laid : (begin : ℕ) (body : List ℕ) → o1 ≡ sets o begin body
      → o2 ≡ sets o1 (begin + length body) (zeros_to4 (begin + length body))
      → o3 ≡ sets o2 (large_at begin (length body)) (large_header begin (length body)) → o3 ≡ sets o begin (tail_of begin body)
  unfolding tail_of
  tail_laid begin body e1 e2 e3 =
      let z = zeros_to4 (begin + length body) in
      let f2 = sets_then o o1 o2 body z begin (begin + length body) e1 refl e2 in
      sets_then o o2 o3 (body ++ z) _ begin _ f2 (omega (arith, length-append body z, length-zeros_to4 (begin + length body))) e3

-- ---- the image

-- in a buffer o of the image's length all was laid but the footer: what lies before the body, then what lies from it on
pub record ImageFilled (v : ℕ) (storage ends body o o1 o2 : List ℕ) : Type 0 where
  pub long : length o ≡ length_of (length ends) (length storage) (length body)
  pub limit : length o ≤ size_limit
  pub front : o1 ≡ sets o 0 (sections v storage ends (large_at (body_at (length ends) (length storage)) (length body)))
  pub back : o2 ≡ sets o1 (body_at (length ends) (length storage)) (tail_of (body_at (length ends) (length storage)) body)

module _ (v : ℕ) (storage ends body : List ℕ) where
  abbrev begin : ℕ
  begin = body_at (length ends) (length storage)

  abbrev large : ℕ
  large = large_at begin (length body)

  length-laid : length (all_but_footer v storage ends body) + footer_length ≡ length_of (length ends) (length storage) (length body)
  unfolding all_but_footer
  length-laid =
      omega (
        arith,
        length-append (sections v storage ends large) (tail_of begin body),
        length-sections v storage ends large,
        length-tail_of
            begin body,
      )

  length_unsealed : length (all_but_footer v storage ends body ++ replicate footer_length 0) ≡ length_of (length ends) (length storage)
      (length body)
  length_unsealed = length-append (all_but_footer v storage ends body) (replicate footer_length 0) ∙ length-laid

  pub length-minimal : length (minimal v storage ends body) ≡ length_of (length ends) (length storage) (length body)
  unfolding minimal
  length-minimal =
      length_finalized (all_but_footer v storage ends body ++ replicate footer_length 0) (omega (arith, length_unsealed)) ∙ length_unsealed

  all_laid : (o o1 o2 : List ℕ) → o1 ≡ sets o 0 (sections v storage ends large) → o2 ≡ sets o1 begin (tail_of begin body)
      → o2 ≡ sets o 0 (all_but_footer v storage ends body)
  unfolding all_but_footer
  all_laid o o1 o2 e1 e2 =
      sets_then o o1 o2 (sections v storage ends large) (tail_of begin body) 0 begin e1
      (omega (arith, length-sections v storage ends large))
      e2

  -- what is laid, with any bytes for the footer, finalized
  minimal-is : (s x : List ℕ) → s ≡ all_but_footer v storage ends body ++ x → length x ≡ footer_length
      → sealed (lengthed s) ≡ minimal v storage ends body
  unfolding minimal
  minimal-is s x e l = rw e (finalized_over (all_but_footer v storage ends body) x (replicate footer_length 0) l refl)

  pub image_made : (o o1 o2 o3 : List ℕ) (r : Result ℕ ℕ) → ImageFilled v storage ends body o o1 o2 → Answers (finalize_of o2) r o2 o3
      → Answers (made (minimal v storage ends body)) r o o3
  image_made o o1 o2 o3 r y a =
      let m = all_but_footer v storage ends body in
      let k = length-laid in
      let x = drop (length m) o in
      let e : o2 ≡ m ++ x = all_laid o o1 o2 y.front y.back ∙ front m o (omega arith) in
      let n : length x ≡ footer_length = length-drop (length m) o ∙ omega arith in
      let f : length o2 ≡ length o = ap length e ∙ length-append m x ∙ omega arith in
      let g : finalize_of o2 ≡ made (minimal v storage ends body)
      = finalize_within o2 (omega arith) (omega arith) ∙ ap made (minimal-is o2 x e n) in
      let b = rw g at a in
      let d : (s : List ℕ) → length s ≡ length o → drop (length (minimal v storage ends body)) s ≡ []
      = λ s i. drop_of_length-le s {i = length (minimal v storage ends body)} (omega (arith, length-minimal)) in
      (b.0, b.1 ∙ rw (d o2 f, d o refl))

-- A modern header is read back field by field: its fields share no byte.
use mathlib.Core.Path.{◌≡◌, refl, ◌∙◌}
use mathlib.Core.Bool.{Bool, true}
use mathlib.Core.Logic.{inl, inr}
use mathlib.Core.List.{List, [], ◌∷◌}
use Prim.Native.Nat.{ℕ, zero, suc, ◌+◌, ◌^◌, ◌≤◌, ◌<◌}
use native.Mathlib.Nat.{not-suc-le-zero}
use native.Mathlib.Omega.{arith}
use borrow.Author.Tests.{leb-true}
use lib.Dec.{leb}
use lib.ListN.{length, get_or}
use lib.Seq.{sets, length-sets}
use Rattle.bits.specs.Choice.{both, either}
use Rattle.bits.specs.Bytes.{number_at, word_at, bytes_of}
use Rattle.bits.proofs.TestLaws.{both_0, both_1, either_or}
use Rattle.bits.proofs.ListLaws.{AllBelow, below_sets, below_bytes_of}
use Rattle.bits.proofs.ByteLaws.{number_at_ext, length-bytes_of}
use Rattle.bits.proofs.WriteLaws.{sets_off, number_at_back}
use Rattle.format.specs.declared.Layout.{Layout}
use Rattle.format.specs.declared.Layout.TheVariants.{Modern}
use Rattle.format.specs.Table as table
use Rattle.header_write.specs.Headers.{Put, put, put_all, identity, modern_rows, modern_header}
use Rattle.header_write.proofs.HeaderLaws.{length-put_all}

-- ---- fields that share no byte

-- n bytes from p are in none of the fields
abbrev clear_of : Layout → List Put → ℕ → ℕ → Bool
clear_of l [] p n = true
clear_of l (q ∷ qs) p n =
    let at = table.place_in l q.field in
    both (either (leb (p + n) at) (leb (at + q.field.width) p)) (clear_of l qs p n)

-- no field shares a byte with one behind it, and each ends at or before `end`
abbrev tidy : Layout → List Put → ℕ → Bool
tidy l [] end = true
tidy l (q ∷ qs) end =
    let at = table.place_in l q.field in
    both (clear_of l qs at q.field.width) (both (leb (at + q.field.width) end) (tidy l qs end))

-- the k-th of the fields
abbrev nth : List Put → ℕ → Put
nth [] k = put table.magic 0
nth (q ∷ qs) zero = q
nth (q ∷ qs) (suc k) = nth qs k

-- fields that share no byte, in a list that is long enough for them
record Spread (l : Layout) (ps : List Put) (s : List ℕ) (end : ℕ) : Type 0 where
  tidied : tidy l ps end ≡ true
  room : end ≤ length s

module _ (l : Layout) where
  below_put_all : (ps : List Put) (s : List ℕ) → AllBelow 256 s → AllBelow 256 (put_all l ps s)
  unfolding put_all
  below_put_all [] s h = h
  below_put_all (p ∷ ps) s h =
      let at : ℕ = table.place_in l p.field in
      let vs : List ℕ = bytes_of p.field.width p.value in
      below_put_all ps (sets s at vs) (below_sets 256 (omega arith) vs s at (below_bytes_of p.field.width p.value) h)

  -- a byte that is in no field stays
  put_off : (ps : List Put) (s : List ℕ) (p n j : ℕ) → clear_of l ps p n ≡ true → p ≤ j → j < p + n
      → get_or (put_all l ps s) j 0 ≡ get_or s j 0
  unfolding put_all
  put_off [] s p n j c h k = refl
  put_off (q ∷ qs) s p n j c h k =
      let at : ℕ = table.place_in l q.field in
      let w : ℕ = q.field.width in
      let o : Bool = either (leb (p + n) at) (leb (at + w) p) in
      put_off qs (sets s at (bytes_of w q.value)) p n j (both_1 o (clear_of l qs p n) c) h k
      ∙ sets_off (bytes_of w q.value) s at j
      (λ g. elim (either_or (leb (p + n) at) (leb (at + w) p) (both_0 o (clear_of l qs p n) c)) [
        | inl t ↦ absurd (omega (arith, leb-true (p + n) at t))
        | inr t ↦ omega (arith, leb-true (at + w) p t, length-bytes_of w q.value)
      ])

  number_off : (ps : List Put) (s : List ℕ) (p n : ℕ) → clear_of l ps p n ≡ true → number_at (put_all l ps s) p n ≡ number_at s p n
  number_off ps s p n c = number_at_ext (put_all l ps s) s n p p (λ j h. put_off ps s p n (p + j) c (omega arith) (omega arith))

  -- field k is read back
  field_back : (ps : List Put) (s : List ℕ) (end k : ℕ) → Spread l ps s end → k < length ps
      → (nth ps k).value < 256 ^ (nth ps k).field.width
      → number_at (put_all l ps s) (table.place_in l (nth ps k).field) (nth ps k).field.width ≡ (nth ps k).value
  unfolding put_all
  field_back [] s end k z h b = absurd (not-suc-le-zero h)
  field_back (q ∷ qs) s end zero z h b =
      let t : tidy l (q ∷ qs) end ≡ true = z.tidied in
      let at : ℕ = table.place_in l q.field in
      let w : ℕ = q.field.width in
      let c : clear_of l qs at w ≡ true = both_0 (clear_of l qs at w) _ t in
      let r : leb (at + w) end ≡ true = both_0 (leb (at + w) end) (tidy l qs end) (both_1 (clear_of l qs at w) _ t) in
      number_off qs (sets s at (bytes_of w q.value)) at w c
      ∙ number_at_back s at w q.value (omega (arith, leb-true (at + w) end r, z.room)) b
  field_back (q ∷ qs) s end (suc k) z h b =
      let t : tidy l (q ∷ qs) end ≡ true = z.tidied in
      let at : ℕ = table.place_in l q.field in
      let w : ℕ = q.field.width in
      let r : tidy l qs end ≡ true = both_1 (leb (at + w) end) (tidy l qs end) (both_1 (clear_of l qs at w) _ t) in
      field_back qs (sets s at (bytes_of w q.value)) end k (record { tidied = r; room = rw length-sets z.room }) (omega arith) b

-- ---- the modern header, in a buffer of 128 bytes or more

-- what is read from a modern header: magic number, version, the six counts and sizes, no debug offset
pub record Headed (v f k i n z : ℕ) (h : List ℕ) : Type 0 where
  pub magic : number_at h (table.magic).at (table.magic).width ≡ table.magic_number
  pub version : word_at h (table.version).at ≡ v
  pub functions : word_at h (table.function_count).at ≡ f
  pub kinds : word_at h (table.kind_count).at ≡ k
  pub identifiers : word_at h (table.identifier_count).at ≡ i
  pub strings : word_at h (table.string_count).at ≡ n
  pub overflows : word_at h (table.overflow_count).at ≡ 0
  pub storage : word_at h (table.storage_size).at ≡ z
  pub debug : word_at h (table.modern_debug).at ≡ 0

-- the numbers of a header fit their words
pub record Words (v f k i n z : ℕ) : Type 0 where
  pub version : v < 2 ^ 32
  pub functions : f < 2 ^ 32
  pub kinds : k < 2 ^ 32
  pub identifiers : i < 2 ^ 32
  pub strings : n < 2 ^ 32
  pub storage : z < 2 ^ 32

module _ (v : ℕ) (hash : List ℕ) (f k i n z : ℕ) (s : List ℕ) where
  abbrev rows : List Put
  rows = modern_rows f k i n z

  abbrev opening : List Put
  opening = put table.magic table.magic_number ∷ put table.version v ∷ []

  abbrev header : List ℕ
  header = modern_header v hash f k i n z s

  pub header_below : AllBelow 256 hash → AllBelow 256 s → AllBelow 256 header
  unfolding modern_header identity
  header_below b h =
      below_put_all Modern rows (sets (put_all Modern opening s) 12 hash)
      (below_sets 256 (omega arith) hash (put_all Modern opening s) 12 b (below_put_all Modern opening s h))

  -- a field before the source hash
  opening_kept : (j : ℕ) → j < 12 → get_or header j 0 ≡ get_or (put_all Modern opening s) j 0
  unfolding modern_header identity
  opening_kept j h =
      put_off Modern rows (identity v hash s) 0 12 j refl (omega arith) (omega arith)
      ∙ sets_off hash (put_all Modern opening s) 12 j (λ g. absurd (omega arith))

  module _ (room : 128 ≤ length s) where
    -- field j behind it
    row_back : (j : ℕ) → j < 19 → (nth rows j).value < 256 ^ (nth rows j).field.width
        → number_at header (nth rows j).field.at (nth rows j).field.width ≡ (nth rows j).value
    unfolding modern_header identity
    row_back j h b =
        field_back Modern rows (identity v hash s) 128 j
        (record { tidied = refl; room = simp (length-sets, length-put_all) room }) h b

    opening_spread : Spread Modern opening s 128
    opening_spread = record { tidied = refl; room = room }

    -- all of them, where the numbers fit their words
    pub header_read : Words v f k i n z → Headed v f k i n z header
    header_read w = record {
      magic =
          number_at_ext header (put_all Modern opening s) 8 0 0 (λ j h. opening_kept (0 + j) (omega arith))
          ∙ field_back Modern opening s 128 0 opening_spread (omega arith) (omega arith);
      version =
          number_at_ext header (put_all Modern opening s) 4 8 8 (λ j h. opening_kept (8 + j) (omega arith))
          ∙ field_back Modern opening s 128 1 opening_spread (omega arith) w.version;
      functions = row_back 0 (omega arith) w.functions;
      kinds = row_back 1 (omega arith) w.kinds;
      identifiers = row_back 2 (omega arith) w.identifiers;
      strings = row_back 3 (omega arith) w.strings;
      overflows = row_back 4 (omega arith) (omega arith);
      storage = row_back 5 (omega arith) w.storage;
      debug = row_back 17 (omega arith) (omega arith);
    }

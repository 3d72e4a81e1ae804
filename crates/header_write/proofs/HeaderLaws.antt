-- A run of header words, written by a loop; headers in parts.
use Rattle.std.specs.Prelude.{Err, Ok}
use mathlib.Core.Path.{◌≡◌, refl, ap, sym, ◌∙◌, subst}
use mathlib.Core.Bool.{Bool, true, false}
use mathlib.Core.List.{List, [], ◌∷◌, ◌++◌}
use Prim.Native.Nat.{ℕ, zero, suc, ◌+◌, ◌≤◌, ◌<◌}
use native.Mathlib.Nat.{mod-eq_of_lt, not-suc-le-zero, add-zero, add-suc, suc-add}
use native.Mathlib.Numerals.{add-one}
use native.Mathlib.Omega.{arith}
use borrow.Author.Tests.{eqb-true, leb-true, lt-leb, le-leb}
use lib.Dec.{eqb}
use lib.ListN.{length, get_or, set, drop, drop_of_length-le}
use lib.Seq.{sets, length-sets, drop-cons}
use Rattle.bits.specs.Bytes.{bytes_of}
use Rattle.bits.proofs.TestLaws.{both_0, both_1}
use Rattle.format.specs.declared.Field.{Field}
use Rattle.format.specs.declared.Layout.{Layout}
use Rattle.format.specs.declared.Layout.TheVariants.{Modern, Legacy}
use Rattle.format.specs.Table.{row_of, header_length, place_in, if_set, legacy_options}
use Rattle.header_write.specs.Slots.{Writes}
use Rattle.header_write.specs.Headers.{Put, put, put_all, run, is_header_word, header_words, on_header, identity, modern_header}
use Rattle.header_write.proofs.SlotLaws.{whole}

-- ---- tests

-- each row of a run is a header word
words-at : (k n i : ℕ) → header_words k n ≡ true → i < n → is_header_word (row_of (k + i)) ≡ true
words-at k zero i t h = absurd (not-suc-le-zero h)
words-at k (suc n) zero t h = rw add-zero (both_0 (is_header_word (row_of k)) (header_words (suc k) n) t)
words-at k (suc n) (suc i) t h =
    rw (add-suc, ← suc-add) (words-at (suc k) n i (both_1 (is_header_word (row_of k)) (header_words (suc k) n) t) (omega arith))

-- so is the row that the code looked up
pub row_at : (f : Field) (k n i : ℕ) → f ≡ row_of (k + i) → header_words k n ≡ true → i < n → is_header_word f ≡ true
row_at f k n i e t h = subst (λ (y : Field). is_header_word y ≡ true) (sym e) (words-at k n i t h)

pub word_width : (f : Field) → is_header_word f ≡ true → f.width ≡ 4
word_width f t = eqb-true f.width 4 (both_0 (eqb f.width 4) _ t)

pub word_fits : (f : Field) → is_header_word f ≡ true → f.at + f.big + f.sources + 4 ≤ header_length
word_fits f t =
    omega (arith, word_width f t, leb-true (f.at + f.big + f.sources + f.width) header_length (both_1 (eqb f.width 4) _ t))

pub if_set-le : (b : Bool) (n : ℕ) → if_set b n ≤ n
if_set-le true n = omega arith
if_set-le false n = omega arith

pub place_le : (l : Layout) (f : Field) → place_in l f ≤ f.at + f.big + f.sources
place_le Modern f = omega arith
place_le (Legacy b s) f = omega (arith, if_set-le b f.big, if_set-le s f.sources)

-- ---- fields one after the other

pub put_all_append : (l : Layout) (ps qs : List Put) (s : List ℕ) → put_all l (ps ++ qs) s ≡ put_all l qs (put_all l ps s)
unfolding put_all
put_all_append l [] qs s = refl
put_all_append l (p ∷ ps) qs s = put_all_append l ps qs _

-- two runs of fields are one
pub parts : (l : Layout) (a b : List Put) (s s₁ s₂ : List ℕ) → s₁ ≡ put_all l a s → s₂ ≡ put_all l b s₁
    → s₂ ≡ put_all l (a ++ b) s
parts l a b s s₁ s₂ p₁ p₂ = rw (put_all_append l a, ← p₁) p₂

-- a header keeps the length of its buffer
pub length-put_all : (l : Layout) (ps : List Put) (s : List ℕ) → length (put_all l ps s) ≡ length s
unfolding put_all
length-put_all l [] s = refl
length-put_all l (p ∷ ps) s =
    length-put_all l ps (sets s (place_in l p.field) (bytes_of p.field.width p.value)) ∙ simp length-sets

pub length-modern_header : (v : ℕ) (hash : List ℕ) (f k i n z : ℕ) (s : List ℕ)
    → length (modern_header v hash f k i n z s) ≡ length s
unfolding modern_header identity
length-modern_header v hash f k i n z s = simp (length-put_all, length-sets)

-- the one field that is a byte
pub options_fit : (l : Layout) (f : Field) → f ≡ legacy_options → (f.at + f.big + f.sources ≤ 128) × (place_in l f < 128)
options_fit l f e =
    let h : f.at + f.big + f.sources ≡ 108 = ap (λ (g : Field). g.at + g.big + g.sources) e in
    (omega arith, omega (arith, place_le l f))

pub options_put : (l : Layout) (f : Field) (s : List ℕ) (at x : ℕ) → at ≡ place_in l f → f ≡ legacy_options → x < 256
    → set s at x ≡ put_all l (put legacy_options x ∷ []) s
unfolding put_all bytes_of
options_put l f s at x e r h =
    rw (mod-eq_of_lt h, e) (ap (λ (g : Field). set s (place_in l g) x) r)

-- ---- a turn of the loop, and its end

-- the row of turn i is f, a word, and its value was stored in buf
pub record RowStored (l : Layout) (k i : ℕ) (vs buf : List ℕ) (f : Field) (buf' : List ℕ) : Type 0 where
  pub more : i < length vs
  pub row : f ≡ row_of (k + i)
  pub word : f.width ≡ 4
  pub stored : buf' ≡ sets buf (place_in l f) (bytes_of 4 (get_or vs i 0))

module _ (l : Layout) (k i : ℕ) (vs buf : List ℕ) (x : List ℕ) (inv : put_all l (run (k + i) (drop i vs)) buf ≡ x) where
  pub run-next : (f : Field) (buf' : List ℕ) → RowStored l k i vs buf f buf'
      → put_all l (run (k + (i + 1)) (drop (i + 1) vs)) buf' ≡ x
  unfolding put_all run
  run-next f buf' t =
      let a : k + (i + 1) ≡ suc (k + i) = omega arith in
      let g : sets buf (place_in l (row_of (k + i))) (bytes_of (row_of (k + i)).width (get_or vs i 0)) ≡ buf'
      = subst (λ (y : Field). sets buf (place_in l y) (bytes_of y.width (get_or vs i 0)) ≡ buf') t.row
      (ap (λ (n : ℕ). sets buf (place_in l f) (bytes_of n (get_or vs i 0))) t.word ∙ sym t.stored) in
      rw (a, add-one)
      (ap (λ (b : List ℕ). put_all l (run (suc (k + i)) (drop (suc i) vs)) b) (sym g)
      ∙ ap (λ (d : List ℕ). put_all l (run (k + i) d) buf) (sym (drop-cons vs i 0 t.more))
      ∙ inv)

  pub run_end : length vs ≤ i → buf ≡ x
  unfolding put_all run
  run_end h = rw (drop_of_length-le vs h) at inv

-- ---- the two ways out of a header's writer

pub header_short : (edit : List ℕ → List ℕ) (s : List ℕ) → length s < 128 → Writes (on_header edit s) (Err 1) s s
unfolding on_header
header_short edit s h = rw (lt-leb 128 (length s) h) (refl, refl)

pub header_done : (edit : List ℕ → List ℕ) (s s' : List ℕ) → 128 ≤ length s → length s' ≡ length s → s' ≡ edit s
    → Writes (on_header edit s) (Ok tt) s s'
unfolding on_header
header_done edit s s' h l e = rw (le-leb 128 (length s) h, ← e) (refl, whole s s' l)

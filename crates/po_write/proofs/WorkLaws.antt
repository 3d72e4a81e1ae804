-- The words of the work space: all zeros, one string passed over, one kept.
use mathlib.Core.Path.{◌≡◌, ap, sym, ◌∙◌, subst⁻¹}
use mathlib.Core.Bool.{Bool, true, false}
use mathlib.Core.Logic.{inl, inr, ◌≢◌}
use mathlib.Core.List.{List}
use Prim.Native.Nat.{ℕ, suc, ◌+◌, ◌*◌, ◌/◌, ◌%◌, ◌≤◌, ◌<◌}
use native.Mathlib.Numerals.{add-one}
use native.Mathlib.Omega.{arith}
use borrow.Author.Tests.{eq-eqb, ne_eqb}
use lib.Dec.{eqb}
use lib.ListN.{length, get_or, set, length-set, replicate, length-replicate, get_or-replicate}
use lib.Seq.{sets, get_or-set_same, get_or-set_other}
use Rattle.bits.proofs.TestLaws.{which, below}
use Rattle.bits.proofs.WriteLaws.{sets_all}
use Rattle.format.specs.declared.Layout.{Layout}
use Rattle.format.specs.Table.{if_set}
use Rattle.chains.specs.Chains.{Chained, entered}
use Rattle.chains.proofs.ChainLaws.{chained_none, chained_skip, chained_enter, chained_kept}
use Rattle.po_strings.specs.declared.Text.{Text}
use Rattle.po_strings.specs.Texts.{Inside, units_in}
use Rattle.po_write.specs.Strings.{value_of, is_written}
use Rattle.po_write.specs.Work.{bucket_of, shape_at, text_at, Kept, Filled, kept_text}

-- all words cleared
pub all_zeros : (n : ℕ) (old w : List ℕ) (k : ℕ) → k ≡ 4 * n → length old ≡ k → w ≡ sets old 0 (replicate k 0)
    → w ≡ replicate (4 * n) 0
all_zeros n old w k h g e =
    rw (← h) (e ∙ sets_all (replicate k 0) old (length-replicate {A = ℕ} k 0 ∙ sym g))

module _ (l : Layout) (s : List ℕ) (n : ℕ) where
  -- ---- the start: zeros

  pub filled_none : (old w : List ℕ) (k : ℕ) → k ≡ 4 * n → length old ≡ k → w ≡ sets old 0 (replicate k 0)
      → Filled l s n 0 w
  filled_none old w k h g e =
      let z : w ≡ replicate (4 * n) 0 = all_zeros n old w k h g e in
      record {
        long = ap length z ∙ length-replicate {A = ℕ} (4 * n) 0;
        chained = chained_none (is_written l s) (bucket_of l s n) n w
            (λ b k. rw z (get_or-replicate (4 * n) b 0 0 (omega arith)));
        kept = λ j k. absurd (omega arith);
        none = λ j k. absurd (omega arith);
        ahead = λ j k g. rw z (get_or-replicate (4 * n) (n + n + n + j) 0 0 (omega arith));
      }

  -- ---- a string that is not written

  module _ (i : ℕ) (w : List ℕ) (h : i < n) (f : Filled l s n i w) where
    pub filled_skip : is_written l s i ≡ false → Filled l s n (i + 1) w
    filled_skip off =
        rw (add-one i) (record {
          long = f.long;
          chained = chained_skip (is_written l s) (bucket_of l s n) n i w f.chained off;
          kept = λ j k on. elim (below j i k) [
            | inl q ↦ absurd (let x : is_written l s i ≡ true = rw q at on in let z : ◌≡◌ {A = ℕ} 0 1 = cc in omega arith)
            | inr g ↦ f.kept j g on
          ];
          none = λ j k o. elim (below j i k) [
            | inl q ↦ rw q (f.ahead i (omega arith) h)
            | inr g ↦ f.none j g o
          ];
          ahead = λ j k g. f.ahead j (omega arith) g;
        })

  -- ---- at the end a word tells which strings are written

  module _ (w : List ℕ) (f : Filled l s n n w) (j : ℕ) (h : j < n) where
    pub told_off : shape_at w n j ≡ 0 → is_written l s j ≡ false
    told_off e =
        elim (which (is_written l s j)) [ inl t ↦ absurd (omega (arith, (f.kept j h t).some)) | inr t ↦ t ]

    pub told_on : (shape_at w n j ≡ 0 → ⊥) → is_written l s j ≡ true
    told_on e = elim (which (is_written l s j)) [ inl t ↦ t | inr t ↦ absurd (e (f.none j h t)) ]

-- ---- a text in two words

shape_wide : (n : ℕ) (b : Bool) → eqb ((n * 2 + if_set b 1) % 2) 1 ≡ b
shape_wide n true = eq-eqb ((n * 2 + 1) % 2) 1 (omega arith)
shape_wide n false = ne_eqb ((n * 2 + 0) % 2) 1 (λ e. omega arith)

shape_count : (n : ℕ) (b : Bool) → (n * 2 + if_set b 1) / 2 ≡ n
shape_count n true = omega arith
shape_count n false = omega arith

-- ---- a string that is written

-- the text of string i is kept
pub record Keeps (l : Layout) (s : List ℕ) (n i b : ℕ) (w : List ℕ) (t : Text) : Type 0 where
  pub known : i < n
  pub filled : Filled l s n i w
  pub written : is_written l s i ≡ true
  pub bucket : b ≡ bucket_of l s n i
  pub low : b < n
  pub inside : Inside s t
  pub units : units_in s t ≡ value_of l s i
  pub some : 0 < t.count

module _ (l : Layout) (s : List ℕ) (n i b : ℕ) (w : List ℕ) (t : Text) (g : Keeps l s n i b w t) where
  abbrev shape : ℕ
  shape = t.count * 2 + if_set t.wide 1

  abbrev linked : List ℕ
  linked = entered w n i b

  abbrev started : List ℕ
  started = set linked (n + n + i) t.start

  abbrev after : List ℕ
  after = kept_text w n i b t

  entered-long : length linked ≡ 4 * n
  entered-long = length-set (set w (n + i) (get_or w b 0)) b (i + 1) ∙ length-set w (n + i) (get_or w b 0) ∙ g.filled.long

  started_long : length started ≡ 4 * n
  started_long = length-set linked (n + n + i) t.start ∙ entered-long

  pub kept_long : length after ≡ 4 * n
  kept_long = length-set started (n + n + n + i) shape ∙ started_long

  -- where the words stay
  beside : (q : ℕ) → q ≢ n + n + i → q ≢ n + n + n + i → get_or after q 0 ≡ get_or linked q 0
  beside q x y = get_or-set_other started (n + n + n + i) q shape 0 y ∙ get_or-set_other linked (n + n + i) q t.start 0 x

  behind : (q : ℕ) → n + n ≤ q → q ≢ n + n + i → q ≢ n + n + n + i → get_or after q 0 ≡ get_or w q 0
  behind q h x y =
      beside q x y
      ∙ get_or-set_other (set w (n + i) (get_or w b 0)) b q (i + 1) 0 (λ e. omega (arith, g.low))
      ∙ get_or-set_other w (n + i) q (get_or w b 0) 0 (λ e. omega (arith, g.known))

  -- string i
  own_start : get_or after (n + n + i) 0 ≡ t.start
  own_start =
      get_or-set_other started (n + n + n + i) (n + n + i) shape 0 (λ e. omega (arith, g.known))
      ∙ get_or-set_same linked (n + n + i) t.start 0 (omega (arith, entered-long, g.known))

  own_shape : shape_at after n i ≡ shape
  own_shape = get_or-set_same started (n + n + n + i) shape 0 (omega (arith, started_long, g.known))

  own_text : text_at after n i ≡ t
  own_text = rw (own_start, own_shape, shape_wide t.count t.wide, shape_count t.count t.wide)

  own_kept : Kept l s after n i
  own_kept =
      record {
        inside = subst⁻¹ (λ (x : Text). Inside s x) own_text g.inside;
        units = ap (λ (x : Text). units_in s x) own_text ∙ g.units;
        some = omega (arith, own_shape, g.some);
      }

  -- the others
  other_shape : (j : ℕ) → j ≢ i → j < n → shape_at after n j ≡ shape_at w n j
  other_shape j x h = behind (n + n + n + j) (omega arith) (λ e. omega (arith, g.known)) (λ e. x (omega arith))

  other_text : (j : ℕ) → j ≢ i → j < n → text_at after n j ≡ text_at w n j
  other_text j x h =
      rw (behind (n + n + j) (omega arith) (λ e. x (omega arith)) (λ e. omega (arith, h)), other_shape j x h)

  other_kept : (j : ℕ) → j ≢ i → j < n → Kept l s w n j → Kept l s after n j
  other_kept j x h k =
      let e = other_text j x h in
      record {
        inside = subst⁻¹ (λ (x : Text). Inside s x) e k.inside;
        units = ap (λ (x : Text). units_in s x) e ∙ k.units;
        some = omega (arith, other_shape j x h, k.some);
      }

  kept_chained : Chained (is_written l s) (bucket_of l s n) n (suc i) after
  kept_chained =
      chained_kept (is_written l s) (bucket_of l s n) n (suc i) linked after
      (chained_enter (is_written l s) (bucket_of l s n) n i w g.filled.chained (rw (← g.bucket) g.low)
      (omega (arith, g.filled.long, g.known)) g.written linked (ap (λ (x : ℕ). entered w n i x) g.bucket))
      (λ q h. beside q (λ e. omega (arith, g.known)) (λ e. omega (arith, g.known)))

  kept_filled : Filled l s n (suc i) after
  kept_filled =
      record {
        long = kept_long;
        chained = kept_chained;
        kept = λ j k on. elim (below j i k) [
          | inl q ↦ rw q own_kept
          | inr h ↦ other_kept j (λ q. omega arith) (omega (arith, g.known)) (g.filled.kept j h on)
        ];
        none = λ j k o. elim (below j i k) [
          | inl q ↦ absurd (let x : is_written l s i ≡ false = rw q at o in let z : ◌≡◌ {A = ℕ} 0 1 = cc g.written in omega arith)
          | inr h ↦ other_shape j (λ q. omega arith) (omega (arith, g.known)) ∙ g.filled.none j h o
        ];
        ahead = λ j k h. other_shape j (λ q. omega arith) h ∙ g.filled.ahead j (omega arith) h;
      }

  pub filled_keep : (v : List ℕ) → v ≡ kept_text w n i b t → Filled l s n (i + 1) v
  filled_keep v e =
      subst⁻¹ (λ (k : ℕ). Filled l s n k v) (add-one i) (subst⁻¹ (λ (x : List ℕ). Filled l s n (suc i) x) e kept_filled)

-- Flags and marks, string by string; and that each pair that is applied has its flag exactly where some plain string has its msgid.
use mathlib.Core.Path.{◌≡◌, refl, ap, sym, ◌∙◌}
use mathlib.Core.Bool.{Bool, true, false, not}
use mathlib.Core.Logic.{inl, inr, ◌≢◌}
use mathlib.Core.List.{List}
use Prim.Native.Nat.{ℕ, zero, suc, ◌+◌, ◌-◌, ◌≤◌, ◌<◌}
use native.Mathlib.Nat.{add_assoc}
use native.Mathlib.Omega.{arith}
use borrow.Author.Tests.{lt-ltb, le-ltb, ne_eqb, eqb-true, eqb-false, not-true}
use lib.Dec.{eqb}
use lib.ListN.{length, get_or, set, length-set, replicate, length-replicate, get_or-replicate}
use lib.Seq.{sets, length-sets, get_or-set_same, get_or-set_other}
use Rattle.bits.specs.Choice.{implies, all_below}
use Rattle.bits.proofs.TestLaws.{which, below, below_or, both_0, both_1, both_of, all_of, all_fails}
use Rattle.bits.proofs.PassLaws.{all_same}
use Rattle.bits.proofs.WriteLaws.{sets_in, sets_off}
use Rattle.format.specs.declared.Layout.{Layout}
use Rattle.footer.specs.Footer.{same}
use Rattle.image.specs.Sections.{strings_in}
use Rattle.image.specs.Kinds.{is_identifier}
use Rattle.image.specs.Strings.{string_of, units_of}
use Rattle.utf.specs.Utf8.{utf16}
use Rattle.sections.specs.declared.Places.{Places}
use Rattle.sections.specs.Places.{Placed}
use Rattle.sections.proofs.SectionLaws.{sectioned}
use Rattle.footer.proofs.SameLaws.{same-is}
use Rattle.chains.proofs.ChainLaws.{chained_kept}
use Rattle.po_targets.specs.Targets.{applied, fits, pair_for, target_of, is_plain, has_plain, all_found}
use Rattle.po_targets.specs.Marks.{id_in, str_in, bucket_of, Different, Entered, found_by, mark_of, mark_by, Marked, Looked}
use Rattle.po_targets.specs.Marks.{all_flagged}
use Rattle.po_targets.proofs.PairLaws.{fits_units, pair_own, pair_past, target_plain}

-- ---- words behind the chains may change

pub entered_kept : (text ends : List ℕ) (k m : ℕ) (w v : List ℕ) → Entered text ends k m w
    → ((q : ℕ) → q < m + m → get_or v q 0 ≡ get_or w q 0) → Entered text ends k m v
entered_kept text ends k m w v e kept =
    record {
      within = e.within;
      few = e.few;
      some = e.some;
      most = e.most;
      chained =
          chained_kept (λ q. true) (λ q. bucket_of m (utf16 (id_in text ends q))) m k w v e.chained
          (λ q h. kept q (omega (arith, e.few)));
    }

-- ---- marks; `t` is the pair of each string

module _ (t : ℕ → ℕ) where
  pub mark_past : (n j : ℕ) → j < n → mark_by t n j ≡ mark_of (t j)
  mark_past n j h = rw (lt-ltb j n h)

  mark_to_come : (i j : ℕ) → i ≤ j → mark_by t i j ≡ 0
  mark_to_come i j h = rw (le-ltb j i h)

  mark_other : (i j : ℕ) → j ≢ i → mark_by t i j ≡ mark_by t (suc i) j
  mark_other i j d =
      elim (below_or j i) [
        | inl l ↦ mark_past i j l ∙ sym (mark_past (suc i) j (omega arith))
        | inr l ↦ mark_to_come i j l ∙ sym (mark_to_come (suc i) j (omega (arith, d)))
      ]

  -- none is looked up
  module _ (m n : ℕ) (old w : List ℕ) (long : length old ≡ m + m + m + n) (e : w ≡ sets old (m + m) (replicate (m + n) 0)) where
    zeros : (j : ℕ) → j < m + n → get_or w (m + m + j) 0 ≡ 0
    zeros j h =
        let l : length (replicate {A = ℕ} (m + n) 0) ≡ m + n = length-replicate {A = ℕ} (m + n) 0 in
        rw e (sets_in (replicate (m + n) 0) old (m + m) j (omega arith) (omega arith) ∙ get_or-replicate (m + n) j 0 0 h)

    pub marked-none : Marked t m n 0 w
    unfolding found_by
    marked-none =
        record {
          long = ap length e ∙ length-sets old (m + m) (replicate (m + n) 0) ∙ long;
          found = λ q h. zeros q (omega arith);
          marks = λ j h. rw add_assoc (zeros (m + j) (omega arith)) ∙ sym (mark_to_come 0 j (omega arith));
        }

    pub chains_kept : (q : ℕ) → q < m + m → get_or w q 0 ≡ get_or old q 0
    chains_kept q h = rw e (sets_off (replicate (m + n) 0) old (m + m) q (λ l. absurd (omega arith)))

  module _ (m n i : ℕ) (w : List ℕ) (g : Marked t m n i w) where
    -- no pair goes to string i
    pub marked_skip : t i ≡ 0 → Marked t m n (suc i) w
    unfolding found_by
    marked_skip e =
        record {
          long = g.long;
          found = λ q h. g.found q h ∙ rw (ne_eqb (t i) (suc q) (λ z. omega arith));
          marks = λ j h. g.marks j h ∙ elim (which (eqb j i)) [
            | inl y ↦
                let x : j ≡ i = eqb-true j i y in
                rw x (mark_to_come i i (omega arith) ∙ sym (mark_past (suc i) i (omega arith) ∙ ap mark_of e))
            | inr d ↦ mark_other i j (eqb-false j i d)
          ];
        }

    -- pair x - 1 goes to it
    module _ (x : ℕ) (e : x ≡ t i) (d : x ≢ 0) (few : x ≤ m) (known : i < n) where
      abbrev flagged : List ℕ
      flagged = set w (m + m + (x - 1)) 1

      abbrev after : List ℕ
      after = set flagged (m + m + m + i) (x + x)

      pub put-kept : (q : ℕ) → q < m + m → get_or after q 0 ≡ get_or w q 0
      put-kept q h =
          get_or-set_other flagged (m + m + m + i) q (x + x) 0 (λ z. omega arith)
          ∙ get_or-set_other w (m + m + (x - 1)) q 1 0 (λ z. omega arith)

      put_found : (q : ℕ) → q < m → get_or after (m + m + q) 0 ≡ found_by t q (suc i)
      unfolding found_by
      put_found q h =
          get_or-set_other flagged (m + m + m + i) (m + m + q) (x + x) 0 (λ z. omega arith)
          ∙ elim (which (eqb (t i) (suc q))) [
            | inl y ↦
                let k : m + m + q ≡ m + m + (x - 1) = omega (arith, eqb-true (t i) (suc q) y) in
                rw (y, k) (get_or-set_same w (m + m + (x - 1)) 1 0 (omega (arith, g.long, d)))
            | inr y ↦
                rw y (get_or-set_other w (m + m + (x - 1)) (m + m + q) 1 0 (λ z. eqb-false (t i) (suc q) y (omega (arith, d)))
                ∙ g.found q h)
          ]

      put_marks : (j : ℕ) → j < n → get_or after (m + m + m + j) 0 ≡ mark_by t (suc i) j
      put_marks j h =
          elim (which (eqb j i)) [
            | inl y ↦
                let k : j ≡ i = eqb-true j i y in
                rw k
                (get_or-set_same flagged (m + m + m + i) (x + x) 0 (rw length-set (omega (arith, g.long)))
                ∙ sym (mark_past (suc i) i (omega arith) ∙ ap mark_of (sym e)))
            | inr y ↦
                get_or-set_other flagged (m + m + m + i) (m + m + m + j) (x + x) 0 (λ z. eqb-false j i y (omega arith))
                ∙ get_or-set_other w (m + m + (x - 1)) (m + m + m + j) 1 0 (λ z. omega (arith, d))
                ∙ g.marks j h ∙ mark_other i j (eqb-false j i y)
          ]

      pub marked-put : Marked t m n (suc i) after
      marked-put = record { long = simp length-set g.long; found = put_found; marks = put_marks }

-- ---- strings of an image

module _ (p : Places) (s text ends : List ℕ) (k m : ℕ) where
  abbrev target : ℕ → ℕ
  target i = target_of p.layout s (id_in text ends) (str_in text ends) k i

  pub looked_none : (old w : List ℕ) → Entered text ends k m old → length old ≡ m + m + m + p.strings
      → w ≡ sets old (m + m) (replicate (m + p.strings) 0) → Looked p s text ends k m 0 w
  looked_none old w g long e =
      record {
        entered = entered_kept text ends k m old w g (chains_kept target m p.strings old w long e);
        marked = marked-none target m p.strings old w long e;
      }

  module _ (i : ℕ) (w : List ℕ) (g : Looked p s text ends k m i w) (x : ℕ) (e : x ≡ target i) where
    pub looked_skip : x ≡ 0 → Looked p s text ends k m (suc i) w
    looked_skip z =
        record { entered = g.entered; marked = marked_skip target m p.strings i w g.marked (sym e ∙ z) }

    pub looked_put : x ≢ 0 → x ≤ k → i < p.strings
        → Looked p s text ends k m (suc i) (set (set w (m + m + (x - 1)) 1) (m + m + m + i) (x + x))
    looked_put d few known =
        let low : x ≤ m = omega (arith, g.entered.few) in
        record {
          entered = entered_kept text ends k m w _ g.entered (put-kept target m p.strings i w g.marked x e d low known);
          marked = marked-put target m p.strings i w g.marked x e d low known;
        }

-- ---- what a flag says

module _ (t : ℕ → ℕ) (q : ℕ) where
  pub flag-none : (n : ℕ) → found_by t q n ≡ 0 → (i : ℕ) → i < n → t i ≢ suc q
  unfolding found_by
  flag-none zero f i h e = omega arith
  flag-none (suc n) f i h e =
      elim (which (eqb (t n) (suc q))) [
        | inl y ↦ omega (arith, rw y at f)
        | inr y ↦ elim (below i n h) [
          | inl k ↦ eqb-false (t n) (suc q) y (rw k at e)
          | inr l ↦ flag-none n (rw y at f) i l e
        ]
      ]

  pub flag-some : (n : ℕ) → found_by t q n ≢ 0 → (i : ℕ) × (i < n) × (t i ≡ suc q)
  unfolding found_by
  flag-some zero f = absurd (f refl)
  flag-some (suc n) f =
      elim (which (eqb (t n) (suc q))) [
        | inl y ↦ (n, omega arith, eqb-true (t n) (suc q) y)
        | inr y ↦
            let r : (i : ℕ) × (i < n) × (t i ≡ suc q) = flag-some n (rw y at f) in
            (r.0, omega (arith, r.1), r.2)
      ]

-- ---- plain strings that have some units

module _ (l : Layout) (s units : List ℕ) where
  pub plain_some : (i : ℕ) → i < strings_in s → is_plain l s units i ≡ true → has_plain l s units ≡ true
  unfolding has_plain
  plain_some i h t = rw (all_fails (λ j. not (is_plain l s units j)) (strings_in s) i h (rw t))

  pub plain_none : ((i : ℕ) → i < strings_in s → is_plain l s units i ≡ false) → has_plain l s units ≡ false
  unfolding has_plain
  plain_none f = rw (all_of (λ j. not (is_plain l s units j)) (strings_in s) (λ i h. rw (f i h)))

-- ---- pairs of different msgids: a pair goes to each plain string that has its msgid, and to no other

module _ (l : Layout) (s : List ℕ) (ids strs : ℕ → List ℕ) (k : ℕ) where
  pub target_own : (i q : ℕ) → target_of l s ids strs k i ≡ suc q
      → (q < k) × (applied (ids q) (strs q) ≡ true) × (is_plain l s (utf16 (ids q)) i ≡ true)
  unfolding target_of
  target_own i q e =
      let units : List ℕ = units_of (string_of l s i) in
      elim (which (is_identifier l s i)) [
        | inl y ↦ absurd (omega (arith, rw y at e))
        | inr n ↦
            let own : (q < k) × (fits ids strs units q ≡ true) = pair_own ids strs units k q (rw n at e) in (
              own.0,
              both_0 (applied (ids q) (strs q)) (same units (utf16 (ids q))) own.1,
              rw n (both_1 (applied (ids q) (strs q)) (same units (utf16 (ids q))) own.1),
            )
      ]

  -- so a mark is one more than the number of the msgstr of such a pair
  pub mark_own : (i j : ℕ) → mark_of (target_of l s ids strs k i) ≡ suc j
      → (q : ℕ) × (j ≡ suc (q + q)) × (q < k) × (applied (ids q) (strs q) ≡ true) × (is_plain l s (utf16 (ids q)) i ≡ true)
  mark_own i j e =
      let q : ℕ = target_of l s ids strs k i - 1 in
      let own = target_own i q (omega (arith, e)) in
      (q, omega (arith, e), own.0, own.1, own.2)

  module _ (differ : (a b : ℕ) → a < k → b < k → utf16 (ids a) ≡ utf16 (ids b) → a ≡ b) where
    pub target_is : (i q : ℕ) → q < k → applied (ids q) (strs q) ≡ true → is_plain l s (utf16 (ids q)) i ≡ true
        → target_of l s ids strs k i ≡ suc q
    target_is i q h a p =
        let units : List ℕ = units_of (string_of l s i) in
        let plain : is_identifier l s i ≡ false
        = not-true (is_identifier l s i) (both_0 (not (is_identifier l s i)) (same units (utf16 (ids q))) p) in
        let has : same units (utf16 (ids q)) ≡ true = both_1 (not (is_identifier l s i)) (same units (utf16 (ids q))) p in
        let past : q < pair_for ids strs units k
        = pair_past ids strs units k q h (both_of (applied (ids q) (strs q)) (same units (utf16 (ids q))) a has) in
        let j : ℕ = pair_for ids strs units k - 1 in
        let e : pair_for ids strs units k ≡ suc j = omega arith in
        let own : (j < k) × (fits ids strs units j ≡ true) = pair_own ids strs units k j e in
        let x : j ≡ q
        = differ j q own.0 h (sym (fits_units ids strs units j own.1) ∙ same-is units (utf16 (ids q)) has) in
        sym (target_plain l s ids strs k i plain) ∙ e ∙ ap suc x

    flag_tells : (q : ℕ) → q < k → applied (ids q) (strs q) ≡ true
        → not (eqb (found_by (target_of l s ids strs k) q (strings_in s)) 0) ≡ has_plain l s (utf16 (ids q))
    flag_tells q h a =
        let flag : ℕ = found_by (target_of l s ids strs k) q (strings_in s) in
        elim (which (eqb flag 0)) [
          | inl y ↦
              rw y (sym (plain_none l s (utf16 (ids q)) (λ i b. not_so (is_plain l s (utf16 (ids q)) i)
              (λ p. flag-none (target_of l s ids strs k) q (strings_in s) (eqb-true flag 0 y) i b (target_is i q h a p)))))
          | inr n ↦
              let r = flag-some (target_of l s ids strs k) q (strings_in s) (eqb-false flag 0 n) in
              rw n (sym (plain_some l s (utf16 (ids q)) r.0 r.1 (target_own r.0 q r.2).2))
        ]
      where
        not_so : (b : Bool) → (b ≡ true → ⊥) → b ≡ false
        not_so true f = absurd (f refl)
        not_so false f = refl

    pub all_found_lem : (flag : ℕ → ℕ) → ((q : ℕ) → q < k → flag q ≡ found_by (target_of l s ids strs k) q (strings_in s))
        → all_below k (λ q. implies (applied (ids q) (strs q)) (not (eqb (flag q) 0))) ≡ all_found l s ids strs k
    unfolding all_found
    all_found_lem flag e =
        all_same (λ q. implies (applied (ids q) (strs q)) (not (eqb (flag q) 0)))
        (λ q. implies (applied (ids q) (strs q)) (has_plain l s (utf16 (ids q)))) k
        (λ q h. imp_same (applied (ids q) (strs q)) _ _ (λ a. rw (e q h) (flag_tells q h a)))
      where
        imp_same : (a b c : Bool) → (a ≡ true → b ≡ c) → implies a b ≡ implies a c
        imp_same true b c f = f refl
        imp_same false b c f = refl

-- ---- when all strings are looked up

module _ (p : Places) (s text ends : List ℕ) (k m : ℕ) (w : List ℕ) (g : Looked p s text ends k m p.strings w) where
  pub looked_found : Placed p s → Different text ends k
      → all_flagged text ends k m w ≡ all_found p.layout s (id_in text ends) (str_in text ends) k
  looked_found pl differ =
      all_found_lem p.layout s (id_in text ends) (str_in text ends) k differ (λ q. get_or w (m + m + q) 0)
      (λ q h.
      g.marked.found q (omega (arith, g.entered.few))
      ∙ ap (found_by (target_of p.layout s (id_in text ends) (str_in text ends) k) q) (sectioned p s pl).strings)

  pub looked_marks : (i : ℕ) → i < p.strings
      → get_or w (m + m + m + i) 0 ≡ mark_of (target_of p.layout s (id_in text ends) (str_in text ends) k i)
  looked_marks i h =
      g.marked.marks i h ∙ mark_past (target_of p.layout s (id_in text ends) (str_in text ends) k) p.strings i h

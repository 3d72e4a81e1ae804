-- An image with other strings: what a rebuild makes of it hangs only on what it shares with the image that it comes from. So a rebuild
-- of a rebuild is the second rebuild.
use mathlib.Core.Path.{◌≡◌, refl, ap, sym, ◌∙◌, subst}
use mathlib.Core.Bool.{Bool, true, false}
use mathlib.Core.Logic.{inl, inr, ◌≢◌}
use mathlib.Core.List.{List, [], ◌∷◌, ◌++◌}
use Prim.Native.Nat.{ℕ, ◌+◌, ◌-◌, ◌/◌, ◌≤◌, ◌<◌}
use native.Mathlib.Omega.{arith}
use borrow.Author.Tests.{eqb-true, eqb-false}
use lib.Dec.{eqb}
use lib.ListN.{length, get_or}
use Rattle.bits.specs.Choice.{pick}
use Rattle.bits.proofs.TestLaws.{which, below_or}
use Rattle.bits.proofs.ByteLaws.{length-bytes_of}
use Rattle.format.specs.declared.Layout.{Layout}
use Rattle.format.specs.declared.Layout.TheVariants.{Modern, Legacy}
use Rattle.format.specs.Table as table
use Rattle.format.specs.Number.{bytes_for}
use Rattle.format.specs.Move.{moved}
use Rattle.format.proofs.MoveLaws.{moved-low, moved-high}
use Rattle.footer.specs.Footer.{footer_length}
use Rattle.image.specs.Sections.{functions_in, strings_in, debug_in, record_at, kinds_at, hashes_at, small_at, tail_at}
use Rattle.image.specs.Strings.{Str}
use Rattle.image.specs.Functions.{Func, record_in, func_of}
use Rattle.image.specs.Admitted.{Admitted}
use Rattle.image.proofs.PlaceLaws.{debug-at, ordered, record_in_lem}
use Rattle.edits.specs.Edit.{splice, Write, write_all, groups, put_record, put_header, record_group, header_group, edit}
use Rattle.edits.specs.Edit.{move_func}
use Rattle.edits.specs.Packing.{Packed}
use Rattle.edits.specs.Rebuild.{overs, new_tail, rebuild}
use Rattle.edits.proofs.WriteLaws.{Outside, writes_append, writes_off, splice-low, splice_new, splice-high, length-splice}
use Rattle.edits.proofs.HitLaws.{hit_or, outside_parts, outside_both, outside_group, outside_groups, groups_ext}
use Rattle.edits.proofs.SlotLaws.{func_eq, small-fits}
use Rattle.edits.proofs.OverLaws.{put_over}
use Rattle.edits.proofs.EditLaws.{record_back, record_off}
use Rattle.edits.proofs.ReadLaws.{Agree, functions_same, string_count-same, kinds_at-same, hashes_at-same}
use Rattle.edits.proofs.ReadLaws.{small_at-same, counts_of, tail_at-same, record_same}
use Rattle.edits.proofs.BodyLaws.{sound, front_agree}
use Rattle.edits.proofs.RebuildLaws.{new_region, Rebuilds, rebuilding, parted, words_off, counts_kept, kinds_kept, length_rebuilt}
use Rattle.edits.proofs.RebuildLaws.{rebuilt_func}
use Rattle.edits.proofs.StringLaws.{tail_is, rebuilt_debug}
use Rattle.edits.proofs.KeepLaws.{Same, funcs_same, same_admitted, rebuilt_admitted}

-- ---- which bytes a rebuild writes

-- a byte that is none of the file length
abbrev pub NotLength : ℕ → Type 0
NotLength p = (table.file_length).at ≤ p → (table.file_length).at + (table.file_length).width ≤ p

-- byte p of an image of n bytes, with its hash slots where s has them, is none of these, none of the file length and none of the footer
pub record Settled (l : Layout) (s : List ℕ) (n p : ℕ) : Type 0 where
  pub before : p + footer_length < n
  pub not_length : NotLength p
  pub not_hash : hashes_at l s ≤ p → small_at l s ≤ p

-- a byte of the header that a rebuild leaves
abbrev NotWord : Layout → ℕ → Type 0
NotWord l p =
    ((table.overflow_count).at ≤ p → (table.storage_size).at + (table.storage_size).width ≤ p)
    × (table.place_in l (table.debug_row l) ≤ p → table.place_in l (table.debug_row l) + (table.debug_row l).width ≤ p)

not_word : (l : Layout) (q : Packed) (s : List ℕ) (p : ℕ) → Outside p (rebuilding l q s).words → NotWord l p
not_word l q s p o = (
  (λ g. elim (below_or p 60) [
    | inl k ↦ absurd (omega (arith, o.0 g, length-bytes_of 4 (overs q.place (strings_in s))))
    | inr k ↦ omega (arith, o.1.0 k, length-bytes_of 4 (length q.store))
  ]),
  (λ g. omega (arith, o.1.1.0 g, length-bytes_of (table.debug_row l).width (moved (tail_at l s) (new_tail l q s) (debug_in l s)))),
)

-- each byte of the records is one record's
record_hit : (l : Layout) (whole : Bool) (s : List ℕ) (fs : ℕ → Func) (p : ℕ) → table.header_length ≤ p → p < kinds_at l s
    → ((j : ℕ) → j < functions_in s → Outside p (record_group l whole s fs j)) → ⊥
unfolding kinds_at record_group
record_hit Modern whole s fs p h k o =
    let i : ℕ = (p - 128) / 12 in
    omega (arith, (o i (omega arith)).0 (omega arith), length-bytes_of 12 (put_record Modern whole (fs i) (record_in Modern s i)))
record_hit (Legacy big sources) whole s fs p h k o =
    let l : Layout = Legacy big sources in
    let i : ℕ = (p - 128) / 16 in
    omega (arith, (o i (omega arith)).0 (omega arith), length-bytes_of 16 (put_record l whole (fs i) (record_in l s i)))

-- large headers that move take their words along
header_shift : (l : Layout) (f g : Func) (p q : ℕ) → g.ptr + p ≡ f.ptr + q → Outside p (put_header l f)
    → Outside q (put_header l g)
unfolding put_header
header_shift Modern f g p q e o = (
  (λ h. omega (arith, o.0 (omega arith), length-bytes_of 4 f.begin, length-bytes_of 4 g.begin)),
  ((λ h. omega (arith, o.1.0 (omega arith), length-bytes_of 4 f.size, length-bytes_of 4 g.size)), tt),
)
header_shift (Legacy big sources) f g p q e o = (
  (λ h. omega (arith, o.0 (omega arith), length-bytes_of 4 f.begin, length-bytes_of 4 g.begin)),
  (
    (λ h. omega (arith, o.1.0 (omega arith), length-bytes_of 4 f.size, length-bytes_of 4 g.size)),
    ((λ h. omega (arith, o.1.1.0 (omega arith), length-bytes_of 4 f.info, length-bytes_of 4 g.info)), tt),
  ),
)

group_shift : (l : Layout) (fs gs : ℕ → Func) (i p q : ℕ) → (gs i).large ≡ (fs i).large
    → ((fs i).large ≡ true → (gs i).ptr + p ≡ (fs i).ptr + q) → Outside p (header_group l fs i) → Outside q (header_group l gs i)
unfolding header_group
group_shift l fs gs i p q e h o =
    subst (λ (b : Bool). Outside q (pick b (put_header l (gs i)) [])) (sym e) (go (fs i).large h o)
  where
    go : (b : Bool) → (b ≡ true → (gs i).ptr + p ≡ (fs i).ptr + q) → Outside p (pick b (put_header l (fs i)) [])
        → Outside q (pick b (put_header l (gs i)) [])
    go true h o = header_shift l (fs i) (gs i) p q (h refl) o
    go false h o = tt

-- ---- the writes of a rebuild, in one list

abbrev new_func : Layout → Packed → List ℕ → ℕ → Func
new_func l q s i = move_func (moved (tail_at l s) (new_tail l q s)) (func_of l s i)

abbrev record_writes : Layout → Packed → List ℕ → List Write
record_writes l q s = groups (functions_in s) (record_group l true s (new_func l q s))

abbrev header_writes : Layout → Packed → List ℕ → List Write
header_writes l q s = groups (functions_in s) (header_group l (new_func l q s))

abbrev writes_of : Layout → Packed → List ℕ → List Write
writes_of l q s = (rebuilding l q s).words ++ (record_writes l q s ++ header_writes l q s)

rebuild-is : (l : Layout) (q : Packed) (s : List ℕ)
    → rebuild l q s ≡ write_all (writes_of l q s) (splice (small_at l s) (tail_at l s) (new_region l q s) s)
unfolding rebuild edit
rebuild-is l q s =
    let x : List ℕ = splice (small_at l s) (tail_at l s) (new_region l q s) s in
    sym (writes_append (rebuilding l q s).words (record_writes l q s ++ header_writes l q s) x
    ∙ writes_append (record_writes l q s) (header_writes l q s) (write_all (rebuilding l q s).words x))

-- ---- t has what s has, but for strings, hash slots, file length and footer; what lies in the tail has moved with it

pub record Restrung (l : Layout) (s t : List ℕ) : Type 0 where
  pub source : Admitted l s
  pub admitted : Admitted l t
  pub counts : Agree s t (table.function_count).at (table.overflow_count).at
  pub front : (p : ℕ) → p < table.header_length → NotLength p → NotWord l p → get_or t p 0 ≡ get_or s p 0
  pub kinds : Agree s t (kinds_at l s) (hashes_at l s)
  -- each record is the same after a rebuild has put a function into it
  pub records : (i : ℕ) → i < functions_in s → (f : Func) → f.large ≡ (func_of l s i).large
      → put_record l true f (record_in l t i) ≡ put_record l true f (record_in l s i)
  pub func : (i : ℕ) → i < functions_in s → func_of l t i ≡ move_func (moved (tail_at l s) (tail_at l t)) (func_of l s i)
  pub debug : debug_in l t ≡ moved (tail_at l s) (tail_at l t) (debug_in l s)
  pub long : length t + tail_at l s ≡ length s + tail_at l t
  -- each byte before the footer that no word of a large header takes
  pub tail : (j : ℕ) → tail_at l s + j + footer_length < length s
      → ((i : ℕ) → i < functions_in s → Outside (tail_at l s + j) (header_group l (func_of l s) i))
      → get_or t (tail_at l t + j) 0 ≡ get_or s (tail_at l s + j) 0

-- ---- two moves of a place that is 0 or in the tail

moved_twice : (a b c p : ℕ) → 0 < a → 0 < b → (p ≢ 0 → a ≤ p) → moved b c (moved a b p) ≡ moved a c p
moved_twice a b c p x y h =
    elim (which (eqb p 0)) [
      | inl t ↦ rw (eqb-true p 0 t, moved-low a b 0 x, moved-low b c 0 y, moved-low a c 0 x)
      | inr f ↦ let k = h (eqb-false p 0 f) in
          rw (moved-high a b p k, moved-high a c p k) (moved-high b c (p - a + b) (omega arith) ∙ omega arith)
    ]

tail_some : (l : Layout) (s : List ℕ) → 0 < tail_at l s
tail_some l s = let o = ordered l s in omega (arith, o.kinds, o.hashes, o.small, o.over, o.storage, o.tail)

module _ (l : Layout) (s : List ℕ) (ad : Admitted l s) (b c : ℕ) (some : 0 < b) where
  debug-twice : moved b c (moved (tail_at l s) b (debug_in l s)) ≡ moved (tail_at l s) c (debug_in l s)
  debug-twice = moved_twice (tail_at l s) b c (debug_in l s) (tail_some l s) some (λ z. (ad.debug z).0)

  pointer_past : (i : ℕ) → i < functions_in s → (func_of l s i).ptr ≢ 0 → tail_at l s ≤ (func_of l s i).ptr
  pointer_past i h z = elim (which (func_of l s i).large) [
    | inl t ↦ (ad.header i h t).0
    | inr f ↦ absurd (z (small-fits l s i f).ptr)
  ]

  func_twice : (i : ℕ) → i < functions_in s
      → move_func (moved b c) (move_func (moved (tail_at l s) b) (func_of l s i)) ≡ move_func (moved (tail_at l s) c) (func_of l s i)
  func_twice i h =
      let a : ℕ = tail_at l s in
      let f : Func = func_of l s i in
      func_eq _ _
      (record {
        large = refl;
        ptr = moved_twice a b c f.ptr (tail_some l s) some (pointer_past i h);
        begin = moved_twice a b c f.begin (tail_some l s) some (λ z. (ad.body i h).0);
        size = refl;
        info = moved_twice a b c f.info (tail_some l s) some (λ z. (ad.info i h z).0);
      })

-- a function of an image with other strings moves as that of s does
pub func_further : (l : Layout) (s t : List ℕ) → Restrung l s t → (c i : ℕ) → i < functions_in s
    → move_func (moved (tail_at l t) c) (func_of l t i) ≡ move_func (moved (tail_at l s) c) (func_of l s i)
func_further l s t r c i h =
    ap (λ (f : Func). move_func (moved (tail_at l t) c) f) (r.func i h)
    ∙ func_twice l s r.source (tail_at l t) c (tail_some l t) i h

-- ---- a rebuild of it is a rebuild of s

module _ (l : Layout) (s t : List ℕ) (r : Restrung l s t) (q : Packed) where
  ad : Admitted l s
  ad = r.source

  bd : Admitted l t
  bd = r.admitted

  abbrev new : List ℕ
  new = new_region l q s

  abbrev to : ℕ
  to = new_tail l q s

  abbrev small : ℕ
  small = small_at l s

  sa : small_at l t ≡ small_at l s
  sa = small_at-same l s t r.counts

  sc : strings_in t ≡ strings_in s
  sc = string_count-same l s t r.counts

  fc : functions_in t ≡ functions_in s
  fc = functions_same l s t r.counts

  new_same : new_region l q t ≡ new
  new_same = rw (sa, sc)

  to_same : new_tail l q t ≡ to
  to_same = rw (sa, sc)

  func_same : (i : ℕ) → i < functions_in s → new_func l q t i ≡ new_func l q s i
  func_same i h =
      ap (λ (x : ℕ). move_func (moved (tail_at l t) x) (func_of l t i)) to_same ∙ func_further l s t r to i h

  words_same : (rebuilding l q t).words ≡ (rebuilding l q s).words
  words_same =
      let d : moved (tail_at l t) (new_tail l q t) (debug_in l t) ≡ moved (tail_at l s) to (debug_in l s)
      = ap (λ (x : ℕ). moved (tail_at l t) x (debug_in l t)) to_same ∙ ap (moved (tail_at l t) to) r.debug
      ∙ debug-twice l s ad (tail_at l t) to (tail_some l t) in
      rw (d, sc)

  records_same : record_writes l q t ≡ record_writes l q s
  unfolding record_group
  records_same =
      ap (λ (n : ℕ). groups n (record_group l true t (new_func l q t))) fc
      ∙ groups_ext (record_group l true t (new_func l q t)) (record_group l true s (new_func l q s)) (functions_in s)
      (λ i h. ap (λ (n : ℕ). record { place = record_at l i; bytes = bytes_for (table.record_row l) n } ∷ [])
      (ap (λ (f : Func). put_record l true f (record_in l t i)) (func_same i h) ∙ r.records i h (new_func l q s i) refl))

  headers_same : header_writes l q t ≡ header_writes l q s
  unfolding header_group
  headers_same =
      ap (λ (n : ℕ). groups n (header_group l (new_func l q t))) fc
      ∙ groups_ext (header_group l (new_func l q t)) (header_group l (new_func l q s)) (functions_in s)
      (λ i h. ap (λ (f : Func). pick f.large (put_header l f) []) (func_same i h))

  abbrev x : List ℕ
  x = splice small (tail_at l t) new t

  abbrev y : List ℕ
  y = splice small (tail_at l s) new s

  writes_same : writes_of l q t ≡ writes_of l q s
  writes_same =
      ap (λ (w : List Write). w ++ (record_writes l q t ++ header_writes l q t)) words_same ∙ rw (records_same, headers_same)

  rebuilt_over : rebuild l q t ≡ write_all (writes_of l q s) x
  rebuilt_over =
      rebuild-is l q t
      ∙ ap (λ (w : List Write). write_all w (splice (small_at l t) (tail_at l t) (new_region l q t) t)) writes_same
      ∙ rw (new_same, sa)

  pub rebuilt_length : length (rebuild l q t) ≡ length (rebuild l q s)
  rebuilt_length = omega (arith, length_rebuilt l q t bd, length_rebuilt l q s ad, to_same, r.long, ad.room, bd.room)

  -- a place past the headers' words after the rebuild was one before it
  headers_clear : (j : ℕ) → Outside (to + j) (header_writes l q s) → (i : ℕ) → i < functions_in s
      → Outside (tail_at l s + j) (header_group l (func_of l s) i)
  headers_clear j o i h =
      group_shift l (new_func l q s) (func_of l s) i (to + j) (tail_at l s + j) refl
      (λ e. omega (arith, moved-high (tail_at l s) to (func_of l s i).ptr (ad.header i h e).0, (ad.header i h e).0))
      (outside_group (header_group l (new_func l q s)) (to + j) (functions_in s) o i h)

  small_s : small ≤ length s
  small_s = let o = ordered l s in omega (arith, o.over, o.storage, o.tail, ad.room)

  small_t : small ≤ length t
  small_t = let o = ordered l t in omega (arith, sa, o.over, o.storage, o.tail, bd.room)

  length_x : length x ≡ length t - tail_at l t + to
  length_x = length-splice small (tail_at l t) new t small_t (omega (arith, bd.room))

  length_y : length y ≡ length s - tail_at l s + to
  length_y = length-splice small (tail_at l s) new s small_s (omega (arith, ad.room))

  -- where nothing is written, what is written over is the same
  under : (p : ℕ) → Settled l s (length y) p → Outside p (writes_of l q s) → get_or x p 0 ≡ get_or y p 0
  under p se o =
      let o₁ = outside_parts (rebuilding l q s).words (record_writes l q s ++ header_writes l q s) p o in
      let o₂ = outside_parts (record_writes l q s) (header_writes l q s) p o₁.1 in
      elim (below_or p small) [
        | inl h ↦ splice-low small (tail_at l t) new t small_t p h
            ∙ elim (below_or p 128) [
              | inl u ↦ r.front p u se.not_length (not_word l q s p o₁.0)
              | inr u ↦ elim (below_or p (kinds_at l s)) [
                | inl v ↦ absurd (record_hit l true s (new_func l q s) p u v
                    (outside_group (record_group l true s (new_func l q s)) p (functions_in s) o₂.0))
                | inr v ↦ elim (below_or p (hashes_at l s)) [ inl w ↦ r.kinds p v w | inr w ↦ absurd (omega (arith, se.not_hash w)) ]
              ]
            ]
            ∙ sym (splice-low small (tail_at l s) new s small_s p h)
        | inr h ↦ elim (below_or p to) [
          | inl u ↦ let e : small + (p - small) ≡ p = omega arith in
              rw (← e)
              (splice_new small (tail_at l t) new t small_t (p - small) (omega arith)
              ∙ sym (splice_new small (tail_at l s) new s small_s (p - small) (omega arith)))
          | inr u ↦ let j : ℕ = p - to in
              let e : to + j ≡ p = omega arith in
              let et : moved (tail_at l t) to (tail_at l t + j) ≡ p
              = moved-high (tail_at l t) to (tail_at l t + j) (omega arith) ∙ omega arith in
              let es : moved (tail_at l s) to (tail_at l s + j) ≡ p
              = moved-high (tail_at l s) to (tail_at l s + j) (omega arith) ∙ omega arith in
              ap (λ (z : ℕ). get_or x z 0) (sym et)
              ∙ splice-high small (tail_at l t) new t small_t (tail_at l t + j) (omega arith)
              ∙ r.tail j (omega (arith, se.before, length_y, ad.room)) (headers_clear j (rw e o₂.1))
              ∙ sym (splice-high small (tail_at l s) new s small_s (tail_at l s + j) (omega arith))
              ∙ ap (λ (z : ℕ). get_or y z 0) es
        ]
      ]

  -- but for hash slots, file length and footer
  pub rebuilt_like : (p : ℕ) → Settled l s (length (rebuild l q s)) p → get_or (rebuild l q t) p 0 ≡ get_or (rebuild l q s) p 0
  rebuilt_like p se =
      let n : length (rebuild l q s) ≡ length y = length_rebuilt l q s ad ∙ sym length_y in
      let m : length x ≡ length y = omega (arith, length_x, length_y, r.long, ad.room, bd.room) in
      ap (λ (z : List ℕ). get_or z p 0) rebuilt_over
      ∙ elim (hit_or (writes_of l q s) x y p m (omega (arith, m, n, se.before))) [
        | inr e ↦ e
        | inl o ↦ writes_off (writes_of l q s) x p o ∙ under p (rw (← n) se) o ∙ sym (writes_off (writes_of l q s) y p o)
      ]
      ∙ ap (λ (z : List ℕ). get_or z p 0) (sym (rebuild-is l q s))

-- ---- what makes an image with other strings of one

-- other bytes of the strings, hash slots, file length and footer
pub record SameBeside (l : Layout) (s t : List ℕ) : Type 0 where
  pub source : Admitted l s
  pub same : Same l s t
  pub front : (p : ℕ) → p < table.header_length → NotLength p → get_or t p 0 ≡ get_or s p 0
  pub tail : Agree s t (tail_at l s) (length s - footer_length)

pub restrung_same : (l : Layout) (s t : List ℕ) → SameBeside l s t → Restrung l s t
restrung_same l s t b =
    let ad = b.source in
    let sm = b.same in
    let tl : tail_at l t ≡ tail_at l s = tail_at-same l s t sm.tabled.words in
    let still : (p : ℕ) → p ≡ moved (tail_at l s) (tail_at l t) p
    = λ p. sym (elim (below_or p (tail_at l s)) [
      | inl h ↦ moved-low (tail_at l s) (tail_at l t) p h
      | inr h ↦ moved-high (tail_at l s) (tail_at l t) p h ∙ omega arith
    ]) in
    let counts = counts_of l s t sm.tabled.words in
    record {
      source = ad;
      admitted = same_admitted l s t ad sm;
      counts = counts;
      front = λ p h f g. b.front p h f;
      kinds = sm.tabled.kinds;
      records = λ i h f e. ap (put_record l true f) (record_same l s t (record { counts = counts; records = sm.records }) i h);
      func = λ i h.
          funcs_same l s t ad sm i h
          ∙ func_eq _ _
          (record {
            large = refl;
            ptr = still (func_of l s i).ptr;
            begin = still (func_of l s i).begin;
            size = refl;
            info = still (func_of l s i).info;
          });
      debug = sm.debug ∙ still (debug_in l s);
      long = omega (arith, sm.long);
      tail = λ j h o. rw tl (b.tail (tail_at l s + j) (omega arith) (omega arith));
    }

-- a rebuild
module _ (l : Layout) (q : Packed) (s : List ℕ) (ad : Admitted l s) where
  rebuilt_plain : (p : ℕ) → p < table.header_length → NotWord l p → get_or (rebuild l q s) p 0 ≡ get_or s p 0
  unfolding rebuild
  rebuilt_plain p h g =
      front_agree l s (rebuilding l q s) (parted l q s ad) p (p + 1) (omega arith)
      (λ z a b. let e : p ≡ z = omega arith in rw (← e) (words_off l q s ad p g.0 g.1)) p (omega arith) (omega arith)

  rebuilt_records : (i : ℕ) → i < functions_in s → record_in l (rebuild l q s) i ≡ put_record l true (new_func l q s i) (record_in l s i)
  unfolding rebuild
  rebuilt_records = record_back l (rebuilding l q s) s (sound l s (rebuilding l q s) (parted l q s ad)) ad.bytes

  rebuilt_past : (j : ℕ) → ((i : ℕ) → i < functions_in s → Outside (tail_at l s + j) (header_group l (func_of l s) i))
      → get_or (rebuild l q s) (new_tail l q s + j) 0 ≡ get_or s (tail_at l s + j) 0
  rebuilt_past j u =
      let o = ordered l s in
      let to : ℕ = new_tail l q s in
      let fit : small_at l s ≤ length s = omega (arith, o.over, o.storage, o.tail, ad.room) in
      let y : List ℕ = splice (small_at l s) (tail_at l s) (new_region l q s) s in
      let m : moved (tail_at l s) to (tail_at l s + j) ≡ to + j
      = moved-high (tail_at l s) to (tail_at l s + j) (omega arith) ∙ omega arith in
      ap (λ (z : List ℕ). get_or z (to + j) 0) (rebuild-is l q s)
      ∙ writes_off (writes_of l q s) y (to + j)
      (outside_both (rebuilding l q s).words (record_writes l q s ++ header_writes l q s) (to + j)
      (words_off l q s ad (to + j) (λ z. omega (arith, o.kinds, o.hashes, o.small))
      (λ z. omega (arith, o.kinds, o.hashes, o.small, debug-at l)))
      (outside_both (record_writes l q s) (header_writes l q s) (to + j)
      (outside_groups (record_group l true s (new_func l q s)) (to + j) (functions_in s)
      (λ i k. record_off l true s (new_func l q s) i (to + j) (λ z. omega (arith, record_in_lem l s i k, o.hashes, o.small))))
      (outside_groups (header_group l (new_func l q s)) (to + j) (functions_in s)
      (λ i k. group_shift l (func_of l s) (new_func l q s) i (tail_at l s + j) (to + j) refl
      (λ e. omega (arith, moved-high (tail_at l s) to (func_of l s i).ptr (ad.header i k e).0, (ad.header i k e).0)) (u i k)))))
      ∙ ap (λ (z : ℕ). get_or y z 0) (sym m)
      ∙ splice-high (small_at l s) (tail_at l s) (new_region l q s) s fit (tail_at l s + j) (omega arith)

  pub restrung_rebuilt : (f : ℕ → Str) → Rebuilds l f q s → Restrung l s (rebuild l q s)
  restrung_rebuilt f ok =
      let tl : tail_at l (rebuild l q s) ≡ new_tail l q s = tail_is l q s ad f ok in
      record {
        source = ad;
        admitted = rebuilt_admitted l q s ad f ok;
        counts = counts_kept l q s ad;
        front = λ p h u g. rebuilt_plain p h g;
        kinds = kinds_kept l q s ad;
        records = λ i h g e. ap (put_record l true g) (rebuilt_records i h) ∙ put_over l g (new_func l q s i) (record_in l s i) e;
        func = λ i h. rebuilt_func l q s ad f ok i h ∙ ap (λ (x : ℕ). move_func (moved (tail_at l s) x) (func_of l s i)) (sym tl);
        debug = rebuilt_debug l q s ad f ok ∙ ap (λ (x : ℕ). moved (tail_at l s) x (debug_in l s)) (sym tl);
        long = omega (arith, length_rebuilt l q s ad, tl, ad.room);
        tail = λ j h u. rw tl (rebuilt_past j u);
      }

-- one after the other
pub restrung_then : (l : Layout) (s t u : List ℕ) → Restrung l s t → Restrung l t u → Restrung l s u
restrung_then l s t u a b =
    let ad = a.source in
    let fc : functions_in t ≡ functions_in s = functions_same l s t a.counts in
    let ka : kinds_at l t ≡ kinds_at l s = kinds_at-same l s t a.counts in
    let ha : hashes_at l t ≡ hashes_at l s = hashes_at-same l s t a.counts in
    record {
      source = ad;
      admitted = b.admitted;
      counts = λ p h k. b.counts p h k ∙ a.counts p h k;
      front = λ p h f g. b.front p h f g ∙ a.front p h f g;
      kinds = λ p h k. b.kinds p (rw ka h) (rw ha k) ∙ a.kinds p h k;
      records = λ i h f e.
          b.records i (rw fc h) f (e ∙ sym (ap (λ (x : Func). x.large) (a.func i h))) ∙ a.records i h f e;
      func = λ i h.
          b.func i (rw fc h) ∙ func_further l s t a (tail_at l u) i h;
      debug =
          b.debug ∙ ap (moved (tail_at l t) (tail_at l u)) a.debug
          ∙ debug-twice l s ad (tail_at l t) (tail_at l u) (tail_some l t);
      long = omega (arith, a.long, b.long);
      tail = λ j h o.
          b.tail j (omega (arith, a.long, ad.room, a.admitted.room))
          (λ i k.
          let n : i < functions_in s = rw fc at k in
          group_shift l (func_of l s) (func_of l t) i (tail_at l s + j) (tail_at l t + j) (ap (λ (x : Func). x.large) (a.func i n))
          (λ e. omega (
            arith,
            ap (λ (x : Func). x.ptr) (a.func i n),
            moved-high (tail_at l s) (tail_at l t) (func_of l s i).ptr (ad.header i n e).0,
            (ad.header i n e).0,
          ))
          (o i n))
          ∙ a.tail j h o;
    }

-- A step is refused with n exactly where fault n is there and none before it.
use mathlib.Core.Path.{◌≡◌, refl, sym}
use mathlib.Core.Bool.{Bool, true, false, not}
use mathlib.Core.Logic.{◌⊎◌, inl, inr, ◌≢◌}
use mathlib.Core.List.{List}
use Prim.Native.Nat.{ℕ, ◌+◌, ◌^◌, ◌≤◌, ◌<◌}
use native.Mathlib.Omega.{arith}
use borrow.Author.Tests.{ne_eqb, eqb-false, leb-true, le-leb, ltb-true, ltb-false, lt-ltb, le-ltb, not-true, not-false}
use lib.Dec.{ltb, eqb}
use lib.ListN.{length}
use Rattle.bits.specs.Choice.{pick, both, either, implies}
use Rattle.bits.proofs.TestLaws.{below_or, both_0, both_1, either_0, either_1, either_or, either_true, imp_false, all_not, all_fails}
use Rattle.bits.proofs.DecideLaws.{Decides, leb_decides, eqb_decides, itself_decides, not_decides, both_decides, implies_decides}
use Rattle.bits.proofs.DecideLaws.{all_decides}
use Rattle.format.specs.declared.Layout.{Layout}
use Rattle.format.specs.declared.Mode.{Mode}
use Rattle.format.specs.declared.Layout.TheVariants.{Modern, Legacy}
use Rattle.format.specs.Table as table
use Rattle.image.specs.Sections.{functions_in, debug_in, tail_at}
use Rattle.image.specs.Functions.{Func, func_of}
use Rattle.edits.specs.Fit.{beyond, offset_row, size_row, is_beyond, fields_fit}
use Rattle.image.specs.Faults.{ShareByte}
use Rattle.image.proofs.FaultLaws.{share}
use Rattle.edits.proofs.SlotLaws.{small-fits, modern_info}
use Rattle.functions.specs.Patch.{threshold, shares_with, body_alone, infos_outside, debug_past, size_fits}
use Rattle.utf.specs.Utf8.{is_utf8}
use Rattle.string_edits.specs.Values.{Values, Edit}
use Rattle.string_edits.specs.Lists.{all_known, all_differ, all_utf8}
use Rattle.string_packing.specs.Strings.{strings_with}
use Rattle.edits.specs.Rebuild.{new_tail}
use Rattle.string_in_place.specs.Patch.{fits_all, new_length, patch_fits}
use Rattle.format.specs.Move.{moved}
use Rattle.patches.specs.Faults.{size_most}
use Rattle.patches.specs.Patches.{to_values}
use Rattle.patches.specs.Promise.{place_after}
use Rattle.patches.proofs.InPlaceLaws.{moved_still}

ltb_decides : (m n : ℕ) → Decides (ltb m n) (m < n) (n ≤ m)
ltb_decides m n = record { holds = ltb-true m n; passed = lt-ltb m n; wrong = ltb-false m n; failed = le-ltb m n }

-- ---- 12

offset_bits : (l : Layout) → 2 ^ (offset_row l).width ≡ 33_554_432
offset_bits Modern = refl
offset_bits (Legacy big sources) = refl

size_bits : (l : Layout) → 2 ^ (size_row l).width ≡ size_most l + 1
size_bits Modern = refl
size_bits (Legacy big sources) = refl

-- a small record holds its own places
pub small_most : (l : Layout) (s : List ℕ) (j : ℕ) → (func_of l s j).large ≡ false → ((func_of l s j).begin ≤ 33_554_431)
    × ((func_of l s j).info ≤ 33_554_431)
small_most Modern s j t = (omega (arith, (small-fits Modern s j t).fields.begin), omega (arith, modern_info s j))
small_most (Legacy big sources) s j t =
    let f = (small-fits (Legacy big sources) s j t).fields in
    (omega (arith, f.begin), omega (arith, f.info))

-- a small record that cannot hold a moved place
abbrev pub Beyond : Layout → List ℕ → (ℕ → ℕ) → Type 0
Beyond l s mv =
    (j : ℕ) × (j < functions_in s) × ((func_of l s j).large ≡ false)
    × ((33_554_431 < mv (func_of l s j).begin) ⊎ (33_554_431 < mv (func_of l s j).info))

module _ (l : Layout) (s : List ℕ) (mv : ℕ → ℕ) where
  abbrev far : Func → Bool
  far f = either (beyond (offset_row l) (mv f.begin)) (beyond table.legacy_info (mv f.info))

  pub fields_wrong : fields_fit l s mv ≡ false → Beyond l s mv
  unfolding fields_fit
  fields_wrong e =
      let (j, h, q) = all_not (λ i. not (is_beyond l mv (func_of l s i))) (functions_in s) e in
      let f : Func = func_of l s j in
      let b : both (not f.large) (far f) ≡ true = not-false (is_beyond l mv f) q in
      let past : far f ≡ true = both_1 (not f.large) (far f) b in (
        j,
        h,
        not-true f.large (both_0 (not f.large) (far f) b),
        elim (either_or (beyond (offset_row l) (mv f.begin)) (beyond table.legacy_info (mv f.info)) past) [
          | inl t ↦ inl (omega (arith, leb-true (2 ^ (offset_row l).width) (mv f.begin) t, offset_bits l))
          | inr t ↦ inr (omega (arith, leb-true (2 ^ 25) (mv f.info) t))
        ],
      )

  pub fields_failed : Beyond l s mv → fields_fit l s mv ≡ false
  unfolding fields_fit
  fields_failed (j, h, t, w) =
      let f : Func = func_of l s j in
      let b : far f ≡ true = elim w [
        | inl g ↦ rw (le-leb (2 ^ (offset_row l).width) (mv f.begin) (omega (arith, offset_bits l)))
        | inr g ↦ simp (le-leb (2 ^ 25) (mv f.info) (omega arith), either_true)
      ] in
      all_fails (λ i. not (is_beyond l mv (func_of l s i))) (functions_in s) j h (rw (t, b))

-- ---- 9

module _ (l : Layout) (s : List ℕ) (id : ℕ) where
  abbrev f₀ : Func
  f₀ = func_of l s id

  -- another body shares a byte with it, or is empty and starts strictly within it
  abbrev pub Shared : Type 0
  Shared =
      (j : ℕ) × (j < functions_in s) × (j ≢ id)
      × (ShareByte f₀.begin f₀.size (func_of l s j).begin (func_of l s j).size
      ⊎ (((func_of l s j).size ≡ 0) × (f₀.begin < (func_of l s j).begin) × ((func_of l s j).begin < threshold f₀)))

  pub alone_wrong : body_alone l s id ≡ false → Shared
  unfolding body_alone
  alone_wrong e =
      let (j, h, q) = all_not (λ k. implies (not (eqb k id)) (not (shares_with f₀ (func_of l s k)))) (functions_in s) e in
      let (d, n) = imp_false (not (eqb j id)) (not (shares_with f₀ (func_of l s j))) q in
      let g : Func = func_of l s j in
      let t : both (ltb 0 f₀.size) (both (ltb g.begin (threshold f₀)) (ltb f₀.begin (threshold g))) ≡ true
      = not-false (shares_with f₀ g) n in
      let u : both (ltb g.begin (threshold f₀)) (ltb f₀.begin (threshold g)) ≡ true
      = both_1 (ltb 0 f₀.size) (both (ltb g.begin (threshold f₀)) (ltb f₀.begin (threshold g))) t in
      let z : 0 < f₀.size
      =
      ltb-true 0 f₀.size
      (both_0 (ltb 0 f₀.size) (both (ltb g.begin (threshold f₀)) (ltb f₀.begin (threshold g))) t) in
      let x : g.begin < threshold f₀
      = ltb-true g.begin (threshold f₀) (both_0 (ltb g.begin (threshold f₀)) (ltb f₀.begin (threshold g)) u) in
      let y : f₀.begin < threshold g
      = ltb-true f₀.begin (threshold g) (both_1 (ltb g.begin (threshold f₀)) (ltb f₀.begin (threshold g)) u) in (
        j,
        h,
        eqb-false j id (not-true (eqb j id) d),
        elim (below_or 0 g.size) [
          | inl m ↦ inl (share f₀.begin f₀.size g.begin g.size z m (y, x))
          | inr m ↦ inr (omega arith, omega arith, x)
        ],
      )

  pub alone_failed : Shared → body_alone l s id ≡ false
  unfolding body_alone
  alone_failed (j, h, d, w) =
      let g : Func = func_of l s j in
      let facts : (0 < f₀.size) × (g.begin < threshold f₀) × (f₀.begin < threshold g) = elim w [
        | inl (x, (a, b), (c, e)) ↦ (omega arith, omega arith, omega arith)
        | inr (z, x, y) ↦ (omega arith, y, omega arith)
      ] in
      all_fails (λ k. implies (not (eqb k id)) (not (shares_with f₀ (func_of l s k)))) (functions_in s) j h
      (rw (
        ne_eqb j id d,
        lt-ltb 0 f₀.size facts.0,
        lt-ltb g.begin (threshold f₀) facts.1,
        lt-ltb f₀.begin
            (threshold g) facts.2,
      ))

  pub infos_decide : Decides (infos_outside l s id)
      ((j : ℕ) → j < functions_in s → ((func_of l s j).info < f₀.begin) ⊎ (threshold f₀ ≤ (func_of l s j).info))
      ((j : ℕ) × (j < functions_in s) × ((f₀.begin ≤ (func_of l s j).info) × ((func_of l s j).info < threshold f₀)))
  unfolding infos_outside
  infos_decide =
      all_decides (λ j. not_decides
      (both_decides (leb_decides f₀.begin (func_of l s j).info) (ltb_decides (func_of l s j).info (threshold f₀))))
      (functions_in s)

  pub debug_decide : Decides (debug_past l s id) (debug_in l s ≢ 0 → threshold f₀ ≤ debug_in l s)
      ((debug_in l s ≢ 0) × (debug_in l s < threshold f₀))
  unfolding debug_past
  debug_decide = implies_decides (not_decides (eqb_decides (debug_in l s) 0)) (leb_decides (threshold f₀) (debug_in l s))

-- ---- a list of edits: 7, 17 and 8

module _ (e : ℕ → Edit) (k : ℕ) where
  pub known_decide : (n : ℕ) → Decides (all_known (λ j. (e j).id) k n) ((j : ℕ) → j < k → (e j).id < n)
      ((j : ℕ) × (j < k) × (n ≤ (e j).id))
  known_decide n = all_decides (λ j. ltb_decides (e j).id n) k

  pub differ_decide : Decides (all_differ (λ j. (e j).id) k) ((j : ℕ) → j < k → (i : ℕ) → i < j → (e i).id ≢ (e j).id)
      ((j : ℕ) × (j < k) × ((i : ℕ) × (i < j) × ((e i).id ≡ (e j).id)))
  differ_decide = all_decides (λ j. all_decides (λ i. not_decides (eqb_decides (e i).id (e j).id)) j) k

  pub utf8_decide : Decides (all_utf8 (λ j. (e j).value) k) ((j : ℕ) → j < k → is_utf8 (e j).value ≡ true)
      ((j : ℕ) × (j < k) × (is_utf8 (e j).value ≡ false))
  utf8_decide = all_decides (λ j. itself_decides (is_utf8 (e j).value)) k

-- ---- strings: 11 and 12

module _ (m : Mode) (l : Layout) (s : List ℕ) (v : Values) where
  abbrev goes : ℕ → ℕ
  goes = place_after l s (to_values m v)

  pub new_length_lem : new_length m l s v ≡ goes (length s)
  unfolding new_length
  new_length_lem = go (fits_all l s v)
    where
      go : (b : Bool) → pick b (length s) (moved (tail_at l s) (new_tail l (strings_with m l s v) s) (length s))
          ≡ moved (tail_at l s) (pick b (tail_at l s) (new_tail l (strings_with m l s v) s)) (length s)
      go true = sym (moved_still (tail_at l s) (length s))
      go false = refl

  pub patch_wrong : patch_fits m l s v ≡ false → Beyond l s goes
  unfolding patch_fits
  patch_wrong e =
      let mv : ℕ → ℕ = moved (tail_at l s) (new_tail l (strings_with m l s v) s) in
      let no : fits_all l s v ≡ false = either_0 (fits_all l s v) (fields_fit l s mv) e in
      rw no (fields_wrong l s mv (either_1 (fits_all l s v) (fields_fit l s mv) e))

  -- what does not move fits already
  pub patch_failed : Beyond l s goes → patch_fits m l s v ≡ false
  unfolding patch_fits
  patch_failed x = go (fits_all l s v) x
    where
      go : (b : Bool) → Beyond l s (moved (tail_at l s) (pick b (tail_at l s) (new_tail l (strings_with m l s v) s)))
          → either b (fields_fit l s (moved (tail_at l s) (new_tail l (strings_with m l s v) s))) ≡ false
      go true (j, h, t, w) =
          let f : Func = func_of l s j in
          let (a, b) = small_most l s j t in
          absurd (elim w [
            | inl g ↦ omega (arith, moved_still (tail_at l s) f.begin)
            | inr g ↦ omega
                (arith, moved_still (tail_at l s) f.info)
          ])
      go false x = fields_failed l s (moved (tail_at l s) (new_tail l (strings_with m l s v) s)) x

-- ---- bodies: the new size

module _ (l : Layout) (s : List ℕ) (id : ℕ) (body : List ℕ) where
  pub size-wrong : size_fits l s id body ≡ false → ((func_of l s id).large ≡ false) × (size_most l < length body)
  unfolding size_fits
  size-wrong e =
      let b : Bool = beyond (size_row l) (length body) in (
        either_0 (func_of l s id).large (not b) e,
        omega (
          arith,
          leb-true (2 ^ (size_row l).width) (length body) (not-false b (either_1 (func_of l s id).large (not b) e)),
          size_bits l,
        ),
      )

  pub size_failed : (func_of l s id).large ≡ false → size_most l < length body → size_fits l s id body ≡ false
  unfolding size_fits
  size_failed t h = rw (t, le-leb (2 ^ (size_row l).width) (length body) (omega (arith, size_bits l)))

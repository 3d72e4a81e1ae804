-- A file is refused with n exactly where number n is due and none before it, and accepted exactly where none is: the image is then what
-- demand 3's list of its patches ends in.
use mathlib.Core.Path.{◌≡◌, refl, ap, sym, ◌∙◌, subst}
use mathlib.Core.Bool.{Bool, true, false, not, true≢false}
use mathlib.Core.Logic.{inl, inr, ◌↔◌, ◌≢◌}
use mathlib.Core.List.{List, [], ◌∷◌, ◌++◌, map}
use Prim.Native.Nat.{ℕ, zero, suc, ◌<◌}
use native.Mathlib.Omega.{arith}
use borrow.Author.Tests.{ltb-true, lt-ltb, le-ltb, eqb-true, eqb-false, ne_eqb, not-true, not-false}
use lib.Dec.{ltb, eqb}
use lib.ListN.{length, get_or, length-map}
use Rattle.refusals.specs.Numbers as refusals
use Rattle.bits.specs.Choice.{pick, both, implies, all_below}
use Rattle.bits.specs.Outcome.{Outcome, refused, made, roomed}
use Rattle.bits.proofs.TestLaws.{which, below_or, both_0, both_1, both-none, both_false, imp_false, all_at, all_not, all_of, all_fails}
use Rattle.format.specs.declared.Layout.{Layout}
use Rattle.format.specs.declared.Mode.{Mode}
use Rattle.footer.specs.Footer.{same}
use Rattle.footer.proofs.SameLaws.{same-is, same_self}
use Rattle.footer.specs.Finalize.{lengthed, sealed}
use Rattle.footer.proofs.FinalizeLaws.{length_finalized}
use Rattle.image.specs.Sections.{strings_in}
use Rattle.image.specs.Strings.{string_of, units_of}
use Rattle.image.specs.Kinds.{is_identifier}
use Rattle.image.specs.Admission.{refusal}
use Rattle.image.specs.Admitted.{Admitted}
use Rattle.image.specs.Faults.{Fault}
use Rattle.image.proofs.AdmitLaws.{admitted, not_refused}
use Rattle.image.proofs.FaultLaws as image_faults
use Rattle.utf.specs.Utf8.{is_utf8, utf16}
use Rattle.string_edits.specs.Values.{Values}
use Rattle.string_edits.proofs.TurnLaws.{some_or_none, turn_start, turn_skip, turn_none, turn_some}
use Rattle.patches.specs.Patches.{Step}
use Rattle.patches.specs.Lists.{AllInBytes}
use Rattle.patches.specs.Orders.{id_step}
use Rattle.string_steps.proofs.StepLaws.{is-none}
use Rattle.po_targets.specs.Targets.{applied as is_applied, is_plain, has_plain, all_found}
use Rattle.po_lines.specs.Lines.{is_ended}
use Rattle.po_lines.specs.Kinds.{read_lines}
use Rattle.po_pairs.specs.declared.Stand.TheVariants.{Between}
use Rattle.po_pairs.specs.Order.{stand_after, ends_well}
use Rattle.po_pairs.specs.Pairs.{Pair, msgid_of, msgstr_of, is_new, different, id_of, in_subset, Read, outside, pairs, read_file}
use Rattle.string_steps.specs.Steps.{is_none, none_gets, steps_of, until_refused, stepwise, StopsWith}
use Rattle.string_steps.proofs.UntilLaws.{not_made, made_same, refused_same, made_exactly, refused_until}
use Rattle.translate.specs.Translate.{file_values, applied, translated}
use Rattle.translate.proofs.ByteLaws.{patches_bytes}
use Rattle.translate.specs.Faults.{not_utf8, not_ended, bad_line, given_twice}
use Rattle.translate.specs.Faults.{bad_image, bad_file, missing, stopped, no_room, patched, finalized}
use Rattle.translate.specs.Faults.{pairs_in, patches_of, BadFile, Missing, Ready, RefusedWith, AcceptedAs}

-- ---- 16: what a file is refused for

-- the msgids of a list of pairs
ids_at : (ps : List Pair) (j : ℕ) → get_or (map id_of ps) j [] ≡ msgid_of ps j
ids_at [] j = refl
ids_at (p ∷ ps) zero = refl
ids_at (p ∷ ps) (suc j) = ids_at ps j

module _ (file : List ℕ) where
  abbrev ps : List Pair
  ps = pairs_in file

  abbrev ids : List (List ℕ)
  ids = map id_of ps

  many : length ids ≡ length ps
  many = length-map ps id_of

  same_ids : (i j : ℕ) → same (get_or ids i []) (get_or ids j []) ≡ true → msgid_of ps i ≡ msgid_of ps j
  same_ids i j e = sym (ids_at ps i) ∙ same-is (get_or ids i []) (get_or ids j []) e ∙ ids_at ps j

  twice : different ids ≡ false → BadFile file
  unfolding different
  twice e =
      let (j, h, q) = all_not (is_new (λ k. get_or ids k [])) (length ids) e in
      let (i, g, r) = all_not (λ k. not (same (get_or ids k []) (get_or ids j []))) j q in
      given_twice i j g (omega (arith, many)) (same_ids i j (not-false (same (get_or ids i []) (get_or ids j [])) r))

  never_twice : different ids ≡ true → (i j : ℕ) → i < j → j < length ps → msgid_of ps i ≡ msgid_of ps j → ⊥
  unfolding different
  never_twice e i j g h q =
      let n = all_at (is_new (λ k. get_or ids k [])) (length ids) j e (omega (arith, many)) in
      let o = all_at (λ k. not (same (get_or ids k []) (get_or ids j []))) j i n g in
      let t : same (get_or ids i []) (get_or ids j []) ≡ true
      = rw (ids_at ps i ∙ q ∙ sym (ids_at ps j)) (same_self (get_or ids j [])) in
      true≢false (sym t ∙ not-true (same (get_or ids i []) (get_or ids j [])) o)

  abbrev ended : Bool
  ended = is_ended file

  abbrev well : Bool
  well = ends_well (stand_after Between (read_lines file))

  -- a file that is not read has one of the faults
  pub outside_bad : read_file file ≡ outside → BadFile file
  unfolding read_file in_subset
  outside_bad e = elim (which (both (in_subset file) (different ids))) [
    | inl t ↦ absurd (let r : pairs ps ≡ outside = sym (rw t) ∙ e in let z : ◌≡◌ {A = ℕ} 0 1 = cc in omega arith)
    | inr t ↦ elim (both_false (in_subset file) (different ids) t) [
      | inr d ↦ twice d
      | inl n ↦ elim (both_false (is_utf8 file) (both ended well) n) [
        | inl u ↦ not_utf8 u
        | inr m ↦ elim (both_false ended well m) [ inl a ↦ not_ended a | inr b ↦ bad_line b ]
      ]
    ]
  ]

  -- and one that has none is read as its pairs
  pub read_sound : (BadFile file → ⊥) → read_file file ≡ pairs ps
  unfolding read_file
  read_sound n = elim (which (both (in_subset file) (different ids))) [
    | inl t ↦ rw t
    | inr t ↦ absurd (n (outside_bad (rw t)))
  ]

  pub read_bad : BadFile file → read_file file ≡ outside
  unfolding read_file in_subset
  read_bad b = ap (λ (c : Bool). pick c (pairs ps) outside) (go b)
    where
      go : BadFile file → both (both (is_utf8 file) (both ended well)) (different ids) ≡ false
      go (not_utf8 e) = rw e
      go (not_ended e) = rw (e, both-none (is_utf8 file))
      go (bad_line e) = rw (e, both-none ended, both-none (is_utf8 file))
      go (given_twice i j g h q) = elim (which (different ids)) [
        | inl t ↦ absurd (never_twice t i j g h q)
        | inr t ↦ rw (t, both-none (both (is_utf8 file) (both ended well)))
      ]

-- ---- 14: a msgid that no plain string has

module _ (l : Layout) (s : List ℕ) where
  abbrev lacks : List ℕ → ℕ → Bool
  lacks units i = not (is_plain l s units i)

  no_plain : (units : List ℕ) → has_plain l s units ≡ false → (i : ℕ) → i < strings_in s → is_identifier l s i ≡ false
      → units_of (string_of l s i) ≢ units
  unfolding has_plain
  no_plain units e i h f q =
      let all : all_below (strings_in s) (lacks units) ≡ true = not-false (all_below (strings_in s) (lacks units)) e in
      let n : is_plain l s units i ≡ false = not-true (is_plain l s units i) (all_at (lacks units) (strings_in s) i all h) in
      let y : is_plain l s units i ≡ true = rw (f, q) (same_self units) in
      true≢false (sym y ∙ n)

  plain_none : (units : List ℕ)
      → ((i : ℕ) → i < strings_in s → is_identifier l s i ≡ false → units_of (string_of l s i) ≢ units)
      → has_plain l s units ≡ false
  unfolding has_plain
  plain_none units n = rw (all_of (lacks units) (strings_in s) (λ i h. go i h (is_identifier l s i) refl))
    where
      differ : (i : ℕ) → i < strings_in s → is_identifier l s i ≡ false → same (units_of (string_of l s i)) units ≡ false
      differ i h f = elim (which (same (units_of (string_of l s i)) units)) [
        | inl t ↦ absurd (n i h f (same-is (units_of (string_of l s i)) units t))
        | inr t ↦ t
      ]

      go : (i : ℕ) → i < strings_in s → (b : Bool) → is_identifier l s i ≡ b → lacks units i ≡ true
      go i h true f = rw f
      go i h false f = rw (f, differ i h f)

module _ (l : Layout) (s file : List ℕ) where
  abbrev of_pairs : Bool
  of_pairs = all_found l s (msgid_of (pairs_in file)) (msgstr_of (pairs_in file)) (length (pairs_in file))

  found_missing : of_pairs ≡ false → Missing l s file
  unfolding all_found is_applied
  found_missing e =
      let qs = pairs_in file in
      let (q, h, r) = all_not (λ k. implies (is_applied (msgid_of qs k) (msgstr_of qs k)) (has_plain l s (utf16 (msgid_of qs k))))
      (length qs) e in
      let (a, n) = imp_false (is_applied (msgid_of qs q) (msgstr_of qs q)) (has_plain l s (utf16 (msgid_of qs q))) r in
      let x : Bool = ltb 0 (length (msgid_of qs q)) in
      let y : Bool = ltb 0 (length (msgstr_of qs q)) in
      record {
        pair = q;
        known = h;
        no_header = ltb-true 0 (length (msgid_of qs q)) (both_0 x y a);
        is_translated = ltb-true 0 (length (msgstr_of qs q)) (both_1 x y a);
        nowhere = no_plain l s (utf16 (msgid_of qs q)) n;
      }

  missing_found : Missing l s file → of_pairs ≡ false
  unfolding all_found is_applied
  missing_found m =
      let qs = pairs_in file in
      all_fails (λ k. implies (is_applied (msgid_of qs k) (msgstr_of qs k)) (has_plain l s (utf16 (msgid_of qs k)))) (length qs) m.pair
      m.known
      (rw (
        lt-ltb 0 (length (msgid_of qs m.pair)) m.no_header,
        lt-ltb 0 (length (msgstr_of qs m.pair)) m.is_translated,
        plain_none l s (utf16 (msgid_of qs m.pair)) m.nowhere,
      ))

  all_found_lem : (Missing l s file → ⊥) → of_pairs ≡ true
  all_found_lem n = elim (which of_pairs) [ inl t ↦ t | inr t ↦ absurd (n (found_missing t)) ]

-- ---- the single patches, or none

-- no patch exactly where no string gets a value
module _ (m : Mode) (room : ℕ) (v : Values) where
  steps-none : (n : ℕ) → none_gets v n ≡ true → steps_of m room v n ≡ []
  unfolding steps_of
  steps-none n e =
      turn_skip {A = List Step} v _ [] 0 n (omega arith) (λ j h k. is-none (v j) (all_at (λ i. is_none (v i)) n j e k))
      ∙ turn_start {A = List Step} v _ []

  steps-some : (n : ℕ) → none_gets v n ≡ false → steps_of m room v n ≢ []
  unfolding steps_of all_below
  steps-some zero e q = true≢false e
  steps-some (suc n) e q = elim (some_or_none (v n)) [
    | inl h ↦ steps-some n (sym (rw h) ∙ e) (sym (turn_none {A = List Step} v _ [] n h) ∙ q)
    | inr (value, h) ↦ append_some (steps_of m room v n) (id_step m room (record { id = n; value = value }))
        (sym (turn_some {A = List Step} v _ [] n value h) ∙ q)
  ]
    where
      append_some : (xs : List Step) (p : Step) → xs ++ (p ∷ []) ≡ [] → ⊥
      append_some [] p e = let z : ◌≡◌ {A = ℕ} 0 1 = cc in omega arith
      append_some (x ∷ xs) p e = let z : ◌≡◌ {A = ℕ} 0 1 = cc in omega arith

-- ---- the numbers in their order

module _ (m : Mode) (l : Layout) (s : List ℕ) (room : ℕ) (file : List ℕ) (bytes : (p : ℕ) → get_or s p 0 < 256) where
  abbrev v : Values
  v = file_values l s (pairs_in file)

  abbrev patches : List Step
  patches = patches_of m l s room file

  abbrev whole : Outcome
  whole = translated m l s room file

  -- not admitted
  not_admitted : refusal l s ≢ 0 → whole ≡ refused (refusal l s)
  unfolding translated
  not_admitted z = rw (ne_eqb (refusal l s) 0 z)

  is_admitted : Admitted l s → whole ≡ applied m l s room (read_file file)
  unfolding translated
  is_admitted ad = rw (not_refused l s ad)

  -- 16, 14
  is_bad : Admitted l s → BadFile file → whole ≡ refused refusals.file
  unfolding applied
  is_bad ad b = is_admitted ad ∙ ap (applied m l s room) (read_bad file b)

  is_missing : Admitted l s → (BadFile file → ⊥) → Missing l s file → whole ≡ refused refusals.absent
  unfolding applied
  is_missing ad n x = is_admitted ad ∙ ap (applied m l s room) (read_sound file n) ∙ rw (missing_found l s file x)

  -- the single patches decide
  is_ready : Ready l s file → whole ≡ stepwise m l s room v
  unfolding applied
  is_ready r =
      is_admitted r.admitted ∙ ap (applied m l s room) (read_sound file r.sound) ∙ rw (all_found_lem l s file r.found)

  -- there are some, or none
  has_patches : none_gets v (strings_in s) ≡ false → stepwise m l s room v ≡ until_refused l patches s
  unfolding stepwise
  has_patches e = rw e

  has_none : none_gets v (strings_in s) ≡ true → stepwise m l s room v ≡ roomed room (made (sealed (lengthed s)))
  unfolding stepwise
  has_none e = rw e

  some_patches : patches ≢ [] → none_gets v (strings_in s) ≡ false
  some_patches n = elim (which (none_gets v (strings_in s))) [ inl t ↦ absurd (n (steps-none m room v (strings_in s) t)) | inr t ↦ t ]

  no_patches : patches ≡ [] → none_gets v (strings_in s) ≡ true
  no_patches e = elim (which (none_gets v (strings_in s))) [ inl t ↦ t | inr t ↦ absurd (steps-some m room v (strings_in s) t e) ]

  length_final : Admitted l s → length (sealed (lengthed s)) ≡ length s
  length_final ad = length_finalized s (omega (arith, ad.least))

  -- the first fault of an image has its number
  refused_some : (n : ℕ) → Fault l s n → refusal l s ≢ 0
  refused_some n f z = (image_faults.faultless_exactly l s).0 z n f

  first_fault : (n : ℕ) → Fault l s n → ((k : ℕ) → k < n → Fault l s k → ⊥) → refusal l s ≡ n
  first_fault n f first =
      let z = refused_some n f in
      let (g, before) = (image_faults.refused_exactly l s (refusal l s) (omega arith)).0 refl in
      elim (below_or n (refusal l s)) [
        | inl h ↦ absurd (before n h f)
        | inr h ↦ elim (below_or (refusal l s) n) [ inl k ↦ absurd (first (refusal l s) k g) | inr k ↦ omega arith ]
      ]

  -- the values of the patches are bytes
  pub in_bytes : Ready l s file → AllInBytes patches
  in_bytes r = patches_bytes m l s room file (pairs_in file) (read_sound file r.sound)

  -- ---- what is due is given

  stops_some : (ps : List Step) (n : ℕ) → StopsWith l ps s n → ps ≢ []
  stops_some [] n x e = x
  stops_some (p ∷ ps) n x e = let z : ◌≡◌ {A = ℕ} 0 1 = cc in omega arith

  given-number : (n : ℕ) → RefusedWith m l s room file n → whole ≡ refused n
  unfolding roomed
  given-number _ (bad_image n f k) = not_admitted (refused_some n f) ∙ ap refused (first_fault n f k)
  given-number _ (bad_file ad b) = is_bad ad b
  given-number _ (missing ad n x) = is_missing ad n x
  given-number _ (stopped n r x) =
      is_ready r ∙ has_patches (some_patches (stops_some patches n x)) ∙ (refused_until l patches s r.admitted (in_bytes r) n).1 x
  given-number _ (no_room r e h) =
      is_ready r ∙ has_none (no_patches e) ∙ rw (lt-ltb room (length (sealed (lengthed s))) (omega (arith, length_final r.admitted)))

  given_image : (t : List ℕ) → AcceptedAs m l s room file t → whole ≡ made t
  unfolding roomed
  given_image t (patched r n a e) =
      is_ready r ∙ has_patches (some_patches n) ∙ (made_exactly l patches s t).1 (a, e)
  given_image t (finalized r n h e) =
      is_ready r ∙ has_none (no_patches n)
      ∙ rw (le-ltb room (length (sealed (lengthed s))) (omega (arith, length_final r.admitted))) (ap made e)

  -- ---- one of them is due

  pub data Due : Type 0 where
    number : (n : ℕ) → RefusedWith m l s room file n → Due
    image : (t : List ℕ) → AcceptedAs m l s room file t → Due

  due_ready : Ready l s file → Due
  due_ready r = elim (which (none_gets v (strings_in s))) [
    | inl t ↦ elim (below_or room (length s)) [
      | inl h ↦ number refusals.room (no_room r (steps-none m room v (strings_in s) t) h)
      | inr h ↦ image (sealed (lengthed s)) (finalized r (steps-none m room v (strings_in s) t) h refl)
    ]
    | inr t ↦ go (until_refused l patches s) refl (steps-some m room v (strings_in s) t)
  ]
    where
      go : (o : Outcome) → until_refused l patches s ≡ o → patches ≢ [] → Due
      go (refused n) e there = number n (stopped n r ((refused_until l patches s r.admitted (in_bytes r) n).0 e))
      go (made t) e there = let (a, q) = (made_exactly l patches s t).0 e in image t (patched r there a q)

  due_admitted : Admitted l s → Due
  due_admitted ad = go (read_file file) refl
    where
      found : (BadFile file → ⊥) → Due
      found n = elim (which (of_pairs l s file)) [
        | inl t ↦ due_ready (record {
          admitted = ad;
          sound = n;
          found = λ x. true≢false (sym t ∙ missing_found l s file x);
        })
        | inr t ↦ number refusals.absent (missing ad n (found_missing l s file t))
      ]

      go : (r : Read) → read_file file ≡ r → Due
      go outside e = number refusals.file (bad_file ad (outside_bad file e))
      go (pairs ps) e =
          found (λ b. let z : outside ≡ pairs ps = sym (read_bad file b) ∙ e in let y : ◌≡◌ {A = ℕ} 0 1 = cc in omega arith)

  due : Due
  due = elim (which (eqb (refusal l s) 0)) [
    | inl t ↦ due_admitted (admitted l s bytes (eqb-true (refusal l s) 0 t))
    | inr t ↦
        let z : refusal l s ≢ 0 = eqb-false (refusal l s) 0 t in
        let (f, k) = (image_faults.refused_exactly l s (refusal l s) (omega arith)).0 refl in
        number (refusal l s) (bad_image (refusal l s) f k)
  ]

  -- A FILE IS REFUSED WITH N EXACTLY WHERE N IS DUE
  pub refused_exactly : (n : ℕ) → translated m l s room file ≡ refused n ↔ RefusedWith m l s room file n
  refused_exactly n = (λ e. go due e, given-number n)
    where
      go : Due → whole ≡ refused n → RefusedWith m l s room file n
      go (number k x) e = let z : k ≡ n = refused_same (sym (given-number k x) ∙ e) in subst (RefusedWith m l s room file) z x
      go (image t x) e = absurd (not_made (sym e ∙ given_image t x))

  -- IT IS ACCEPTED EXACTLY WHERE NO NUMBER IS DUE, AND AS THE LIST OF ITS PATCHES
  pub accepted_exactly : (t : List ℕ) → translated m l s room file ≡ made t ↔ AcceptedAs m l s room file t
  accepted_exactly t = (λ e. go due e, given_image t)
    where
      go : Due → whole ≡ made t → AcceptedAs m l s room file t
      go (number k x) e = absurd (not_made (sym (given-number k x) ∙ e))
      go (image u x) e = let z : u ≡ t = made_same (sym (given_image u x) ∙ e) in subst (AcceptedAs m l s room file) z x

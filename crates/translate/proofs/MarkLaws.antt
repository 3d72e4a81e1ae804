-- Pairs in lent room and marks of strings: what they tell is what the pairs of the file give to strings.
use mathlib.Core.Path.{◌≡◌, refl, ap, sym, ◌∙◌, fun_ext}
use mathlib.Core.Bool.{Bool, true, false}
use mathlib.Core.Logic.{inl, inr}
use mathlib.Core.Option.{some}
use mathlib.Core.List.{List}
use Prim.Native.Nat.{ℕ, zero, suc, ◌+◌, ◌≤◌, ◌<◌}
use native.Mathlib.Omega.{arith}
use borrow.Author.Tests.{lt-ltb, le-ltb}
use lib.ListN.{length, get_or, get_or-eq_default}
use Rattle.bits.specs.Choice.{pick, implies}
use Rattle.bits.proofs.TestLaws.{below_or}
use Rattle.bits.proofs.PassLaws.{all_same}
use Rattle.format.specs.declared.Layout.{Layout}
use Rattle.image.specs.Sections.{strings_in}
use Rattle.image.specs.Strings.{string_of, units_of}
use Rattle.image.specs.Kinds.{is_identifier}
use Rattle.utf.specs.Utf8.{utf16}
use Rattle.string_edits.specs.declared.Form.TheVariants.{Marks}
use Rattle.string_edits.specs.Told.{told, Tells, marked, values_in, Listed}
use Rattle.po_pairs.specs.Pairs.{Pair, msgid_of, msgstr_of}
use Rattle.po_pairs.specs.Held.{HeldPairs}
use Rattle.po_targets.specs.Targets.{applied, fits, pair_for, target_of, has_plain, all_found}
use Rattle.po_targets.specs.Marks.{id_in, str_in, mark_of}
use Rattle.translate.specs.Translate.{given_by, file_values}

-- ---- pairs that are the same, by their number

module _ (ids strs other others : ℕ → List ℕ) where
  pair_ext : (units : List ℕ) (k : ℕ) → ((q : ℕ) → q < k → ids q ≡ other q) → ((q : ℕ) → q < k → strs q ≡ others q)
      → pair_for ids strs units k ≡ pair_for other others units k
  unfolding pair_for
  pair_ext units zero e f = refl
  pair_ext units (suc k) e f =
      rw (e k (omega arith), f k (omega arith), pair_ext units k (λ q h. e q (omega arith)) (λ q h. f q (omega arith)))

  target_ext : (l : Layout) (s : List ℕ) (k : ℕ) → ((q : ℕ) → q < k → ids q ≡ other q)
      → ((q : ℕ) → q < k → strs q ≡ others q)
      → (i : ℕ) → target_of l s ids strs k i ≡ target_of l s other others k i
  unfolding target_of
  target_ext l s k e f i = ap (pick (is_identifier l s i) 0) (pair_ext (units_of (string_of l s i)) k e f)

  found_ext : (l : Layout) (s : List ℕ) (k : ℕ) → ((q : ℕ) → q < k → ids q ≡ other q)
      → ((q : ℕ) → q < k → strs q ≡ others q)
      → all_found l s ids strs k ≡ all_found l s other others k
  unfolding all_found
  found_ext l s k e f =
      all_same (λ q. implies (applied (ids q) (strs q)) (has_plain l s (utf16 (ids q))))
      (λ q. implies (applied (other q) (others q)) (has_plain l s (utf16 (other q)))) k
      (λ q h. rw (e q h, f q h))

-- the pair that is found is one of them
pair_most : (ids strs : ℕ → List ℕ) (units : List ℕ) (k : ℕ) → pair_for ids strs units k ≤ k
unfolding pair_for
pair_most ids strs units zero = omega arith
pair_most ids strs units (suc k) = go (fits ids strs units k) (pair_most ids strs units k)
  where
    go : (b : Bool) → pair_for ids strs units k ≤ k → pick b (suc k) (pair_for ids strs units k) ≤ suc k
    go true h = omega arith
    go false h = omega arith

pub target_most : (l : Layout) (s : List ℕ) (ids strs : ℕ → List ℕ) (k i : ℕ) → target_of l s ids strs k i ≤ k
unfolding target_of
target_most l s ids strs k i = go (is_identifier l s i) (pair_most ids strs (units_of (string_of l s i)) k)
  where
    go : (b : Bool) → pair_for ids strs (units_of (string_of l s i)) k ≤ k
        → pick b 0 (pair_for ids strs (units_of (string_of l s i)) k) ≤ k
    go true h = omega arith
    go false h = h

-- ---- the pairs of a file, in lent room

-- pairs stand in the text, and each string of an image has its mark
pub record MarkedBy (l : Layout) (s text ends : List ℕ) (ps : List Pair) (marks : List ℕ) : Type 0 where
  pub held : HeldPairs text ends ps
  pub long : length marks ≡ strings_in s
  pub mark : (i : ℕ) → i < strings_in s
      → get_or marks i 0 ≡ mark_of (target_of l s (id_in text ends) (str_in text ends) (length ps) i)

module _ (l : Layout) (s text ends : List ℕ) (ps : List Pair) (held : HeldPairs text ends ps) where
  -- the pairs in the text are those of the file
  target_is : (i : ℕ) → target_of l s (id_in text ends) (str_in text ends) (length ps) i
      ≡ target_of l s (msgid_of ps) (msgstr_of ps) (length ps) i
  target_is = target_ext (id_in text ends) (str_in text ends) (msgid_of ps) (msgstr_of ps) l s (length ps) held.msgids held.msgstrs

  pub found_is : all_found l s (id_in text ends) (str_in text ends) (length ps)
      ≡ all_found l s (msgid_of ps) (msgstr_of ps) (length ps)
  found_is = found_ext (id_in text ends) (str_in text ends) (msgid_of ps) (msgstr_of ps) l s (length ps) held.msgids held.msgstrs

  -- a mark gives the msgstr of its pair
  mark_gives : (t : ℕ) → t ≤ length ps → marked text ends (mark_of t) ≡ given_by ps t
  mark_gives zero h = refl
  mark_gives (suc q) h =
      let e : suc q + suc q ≡ suc (suc (q + q)) = omega arith in
      ap (marked text ends) e ∙ ap some (held.msgstrs q (omega arith))

module _ (l : Layout) (s text ends : List ℕ) (ps : List Pair) (marks : List ℕ) (mk : MarkedBy l s text ends ps marks) where
  abbrev target : ℕ → ℕ
  target i = target_of l s (msgid_of ps) (msgstr_of ps) (length ps) i

  mark_is : (i : ℕ) → i < strings_in s → get_or marks i 0 ≡ mark_of (target i)
  mark_is i h = mk.mark i h ∙ ap mark_of (target_is l s text ends ps mk.held i)

  mark_past : (i : ℕ) → strings_in s ≤ i → get_or marks i 0 ≡ 0
  mark_past i h = get_or-eq_default marks 0 (omega (arith, mk.long))

  -- WHAT THE MARKS TELL IS WHAT THE FILE GIVES
  pub values_are : values_in (told Marks marks) text ends ≡ file_values l s ps
  unfolding file_values
  values_are = fun_ext (λ i. elim (below_or i (strings_in s)) [
    | inl h ↦
        rw (lt-ltb i (strings_in s) h)
        (ap (marked text ends) (mark_is i h)
        ∙ mark_gives l s text ends ps mk.held (target i) (target_most l s (msgid_of ps) (msgstr_of ps) (length ps) i))
    | inr h ↦ rw (le-ltb i (strings_in s) h) (ap (marked text ends) (mark_past i h))
  ])

  -- a string that is told has a pair, and its value is the msgstr of it
  pub told_pair : (id j : ℕ) → Tells (told Marks marks) id j → (q : ℕ) × (q < length ps) × (j ≡ suc (q + q))
  told_pair id j (h, e) =
      go (target id) (target_most l s (msgid_of ps) (msgstr_of ps) (length ps) id) (sym (mark_is id (omega (arith, mk.long))) ∙ e)
    where
      go : (t : ℕ) → t ≤ length ps → t + t ≡ suc j → (q : ℕ) × (q < length ps) × (j ≡ suc (q + q))
      go zero h e = absurd (omega arith)
      go (suc q) h e = (q, omega arith, omega arith)

  pub told-listed : Listed (told Marks marks) text ends
  told-listed = record {
    within = λ id j t. let (q, h, e) = told_pair id j t in mk.held.within j (omega arith);
    one = λ id i j a b. omega (arith, a.1, b.1);
  }

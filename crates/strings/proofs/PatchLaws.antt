-- The order of refusals, by id and by value: where none is given before a string is known, the patch of a known string decides.
use Rattle.std.specs.Prelude.{Err, Ok, Result}
use mathlib.Core.Path.{◌≡◌, refl, ap, ◌∙◌}
use mathlib.Core.Bool.{Bool, true, false, not}
use mathlib.Core.List.{List, ◌∷◌, ◌++◌}
use Prim.Native.Nat.{ℕ, ◌≤◌, ◌<◌}
use native.Mathlib.Omega.{arith}
use borrow.Author.Tests.{le-leb, lt-leb, ne_eqb, not-true, not-false}
use lib.Dec.{leb, eqb}
use lib.ListN.{length}
use Rattle.refusals.specs.Numbers as refusals
use Rattle.bits.specs.Choice.{Check, check, judge}
use Rattle.bits.specs.Outcome.{Answers, roomed, outcome_for}
use Rattle.format.specs.declared.Layout.{Layout}
use Rattle.format.specs.declared.Mode.{Mode}
use Rattle.utf.specs.Utf8.{is_utf8, utf16}
use Rattle.image.specs.Sections.{strings_in}
use Rattle.image.specs.Admission.{checks}
use Rattle.sections.specs.declared.Places.{Places}
use Rattle.string_walk.specs.declared.StringRecord.{StringRecord}
use Rattle.string_walk.specs.declared.Counts.{Counts}
use Rattle.string_walk.specs.declared.Location.{Location}
use Rattle.string_walk.specs.Places.{Locates}
use Rattle.string_walk.proofs.WalkLaws.{located_at, located_self, located_none}
use Rattle.sections.specs.Places.{places_of}
use Rattle.admission.specs.Admission.{admission}
use Rattle.admission.proofs.AnswerLaws.{refused_is, refused_then, laid-is, laid_then, laid_layout}
use Rattle.string_find.specs.Find.{find_id}
use Rattle.string_edits.specs.Values.{only}
use Rattle.string_in_place.specs.Patch.{result_checks, patched_strings, patch_known}
use Rattle.strings.specs.Patch.{by_id_refusal, patch_by_id, by_value_refusal, patch_by_value}

module _ (l : Layout) (s : List ℕ) (r : Result Places ℕ) (e : r ≡ admission l s) where
  -- not admitted: what comes behind does not count
  pub refused_all : (ds : List Check) (new out : List ℕ) (k : ℕ) → r ≡ Err k
      → Answers (roomed (length out) (outcome_for (judge (checks l s ++ ds)) new)) (Err k) out out
  unfolding roomed
  refused_all ds new out k f =
      let z : eqb k 0 ≡ false = ne_eqb k 0 (λ y. omega (arith, (refused_is l s r e k f).1)) in
      rw (refused_then l s r e k f ds, z) (refl, refl)

  pub id_refused : (m : Mode) (id : ℕ) (value out : List ℕ) (k : ℕ) → r ≡ Err k
      → Answers (roomed (length out) (patch_by_id m l s id value)) (Err k) out out
  unfolding patch_by_id by_id_refusal
  id_refused m id value out k f = refused_all _ (patched_strings m l s (only id value)) out k f

  pub value_refused : (m : Mode) (old new out : List ℕ) (k : ℕ) → r ≡ Err k
      → Answers (roomed (length out) (patch_by_value m l s old new)) (Err k) out out
  unfolding patch_by_value by_value_refusal
  value_refused m old new out k f = refused_all _ (patched_strings m l s (only (find_id l s (utf16 old)) new)) out k f

-- ---- admitted: what comes behind decides

-- the image is admitted, and has its places
pub record Admits (l : Layout) (s : List ℕ) (r : Result Places ℕ) (p : Places) : Type 0 where
  pub is : r ≡ admission l s
  pub laid : r ≡ Ok p

module _ (l : Layout) (s : List ℕ) (r : Result Places ℕ) (p : Places) (h : Admits l s r p) where
  pub strings_is : p.strings ≡ strings_in s
  unfolding places_of
  strings_is = ap (λ (q : Places). q.strings) (laid-is l s r h.is p h.laid).1

  pub layout_is : p.layout ≡ l
  layout_is = laid_layout l s r h.is p h.laid

-- ---- by id

-- string id is there, and its new value was tested
pub record ValueTested (l : Layout) (s : List ℕ) (r : Result Places ℕ) (p : Places) (id : ℕ) (value : List ℕ) (b : Bool) : Type 0 where
  pub admits : Admits l s r p
  pub known : id < p.strings
  pub tested : b ≡ is_utf8 value

module _ (m : Mode) (l : Layout) (s : List ℕ) (r : Result Places ℕ) (p : Places) (id : ℕ) (value out : List ℕ) where
  behind : Admits l s r p
      → patch_by_id m l s id value ≡ outcome_for
      (judge (check 7 (leb (strings_in s) id) ∷ check 8 (not (is_utf8 value)) ∷ result_checks m l s (only id value)))
      (patched_strings m l s (only id value))
  unfolding patch_by_id by_id_refusal
  behind h = ap (λ (n : ℕ). outcome_for n (patched_strings m l s (only id value))) (laid_then l s r h.is p h.laid _)

  pub id-absent : Admits l s r p → p.strings ≤ id → Answers (roomed (length out) (patch_by_id m l s id value)) (Err 7) out out
  unfolding judge roomed
  id-absent h k = rw (behind h, ← strings_is l s r p h, le-leb p.strings id k) (refl, refl)

  module _ (b : Bool) (h : ValueTested l s r p id value b) where
    pub id-value : not b ≡ true → Answers (roomed (length out) (patch_by_id m l s id value)) (Err 8) out out
    unfolding judge roomed
    id-value t =
        rw (behind h.admits, ← strings_is l s r p h.admits, lt-leb p.strings id h.known, ← h.tested, not-true b t)
        (refl, refl)

    known_is : not b ≡ false → patch_by_id m l s id value ≡ patch_known m l s (only id value)
    unfolding patch_known judge
    known_is t =
        behind h.admits
        ∙ rw (← strings_is l s r p h.admits, lt-leb p.strings id h.known, ← h.tested, not-false b t)

    pub id_known : not b ≡ false → (a : Result ℕ ℕ) (o : List ℕ)
        → Answers (roomed (length out) (patch_known m p.layout s (only id value))) a out o
        → Answers (roomed (length out) (patch_by_id m l s id value)) a out o
    id_known t a o k = rw (known_is t) (rw (layout_is l s r p h.admits) at k)

-- ---- by value

-- the old value was tested
pub record OldTested (l : Layout) (s : List ℕ) (r : Result Places ℕ) (p : Places) (old : List ℕ) (b : Bool) : Type 0 where
  pub admits : Admits l s r p
  pub tested : b ≡ is_utf8 old

-- it is UTF-8, and the new value was tested
pub record NewTested (l : Layout) (s : List ℕ) (r : Result Places ℕ) (p : Places) (old new : List ℕ) (b c : Bool) : Type 0 where
  pub before : OldTested l s r p old b
  pub valid : not b ≡ false
  pub tested : c ≡ is_utf8 new

-- that is UTF-8 too, and the old value was sought
pub record ValueSought (l : Layout) (s : List ℕ) (r : Result Places ℕ) (p : Places) (old new : List ℕ) (b c : Bool)
    (loc : Result Location ℕ) : Type 0 where
  pub before : NewTested l s r p old new b c
  pub valid : not c ≡ false
  pub location : Locates p s (find_id p.layout s (utf16 old)) refusals.absent loc

module _ (m : Mode) (l : Layout) (s : List ℕ) (r : Result Places ℕ) (p : Places) (old new out : List ℕ) where
  abbrev at : ℕ
  at = find_id l s (utf16 old)

  after : Admits l s r p
      → patch_by_value m l s old new
      ≡ outcome_for (judge (check 8 (not (is_utf8 old)) ∷ check 8 (not (is_utf8 new)) ∷ check 14 (leb (strings_in s) at)
      ∷ result_checks m l s (only at new))) (patched_strings m l s (only at new))
  unfolding patch_by_value by_value_refusal
  after h = ap (λ (n : ℕ). outcome_for n (patched_strings m l s (only at new))) (laid_then l s r h.is p h.laid _)

  pub old_value : (b : Bool) → OldTested l s r p old b → not b ≡ true
      → Answers (roomed (length out) (patch_by_value m l s old new)) (Err 8) out out
  unfolding judge roomed
  old_value b h t = rw (after h.admits, ← h.tested, not-true b t) (refl, refl)

  pub new_value : (b c : Bool) → NewTested l s r p old new b c → not c ≡ true
      → Answers (roomed (length out) (patch_by_value m l s old new)) (Err 8) out out
  unfolding judge roomed
  new_value b c h u =
      rw (after h.before.admits, ← h.before.tested, not-false b h.valid, ← h.tested, not-true c u) (refl, refl)

  module _ (b c : Bool) (loc : Result Location ℕ) (h : ValueSought l s r p old new b c loc) where
    admits : Admits l s r p
    admits = h.before.before.admits

    -- both values are UTF-8: whether there is such a string decides
    sought : patch_by_value m l s old new
        ≡ outcome_for (judge (check 14 (leb (strings_in s) at) ∷ result_checks m l s (only at new))) (patched_strings m l s (only at new))
    unfolding judge
    sought =
        after admits ∙ rw (← h.before.before.tested, not-false b h.before.valid, ← h.before.tested, not-false c h.valid)

    found_here : find_id p.layout s (utf16 old) ≡ at
    found_here = rw (layout_is l s r p admits)

    pub value-absent : (k : ℕ) → loc ≡ Err k → Answers (roomed (length out) (patch_by_value m l s old new)) (Err k) out out
    unfolding judge roomed
    value-absent k v =
        let (x, b) = located_none p s _ refusals.absent loc h.location k v in
        rw (sought, ← strings_is l s r p admits, le-leb p.strings at (rw found_here at b), x) (refl, refl)

    module _ (q : Location) (v : loc ≡ Ok q) where
      id-is : q.id ≡ at
      id-is = (located_at p s _ refusals.absent loc h.location q v).0 ∙ found_here

      id_in_lem : q.id < p.strings
      id_in_lem = (located_self p s _ refusals.absent loc h.location q v).0

      found_is : patch_by_value m l s old new ≡ patch_known m l s (only q.id new)
      unfolding patch_known judge
      found_is = sought ∙ rw (← id-is, ← strings_is l s r p admits, lt-leb p.strings q.id id_in_lem)

      pub value_known : (a : Result ℕ ℕ) (o : List ℕ) → Answers (roomed (length out) (patch_known m p.layout s (only q.id new))) a out o
          → Answers (roomed (length out) (patch_by_value m l s old new)) a out o
      value_known a o k = rw found_is (rw (layout_is l s r p admits) at k)

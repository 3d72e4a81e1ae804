-- The single patches in id order: each is judged, and makes, what the one patch of all strings up to its own does on the image as given.
use mathlib.Core.Path.{◌≡◌, refl, ap, sym, ◌∙◌, subst, fun_ext}
use mathlib.Core.Bool.{Bool, true, false, true≢false}
use mathlib.Core.Logic.{inl, inr, ◌≢◌}
use mathlib.Core.Option.{Option, none, some}
use mathlib.Core.List.{List, [], ◌∷◌, ◌++◌}
use Prim.Native.Nat.{ℕ, zero, suc, ◌≤◌, ◌<◌}
use native.Mathlib.Omega.{arith}
use borrow.Author.Tests.{le-ltb, lt-ltb, lt-leb, eq-eqb, ne_eqb, eqb-true, eqb-false}
use lib.Dec.{ltb, eqb}
use lib.ListN.{length}
use Rattle.refusals.specs.Numbers as refusals
use Rattle.bits.specs.Choice.{pick, judge}
use Rattle.bits.specs.Outcome.{Outcome, refused, made, outcome_for, roomed}
use Rattle.bits.proofs.TestLaws.{which, below, below_or, all_at, all_not}
use Rattle.bits.proofs.ListLaws.{AllBelow}
use Rattle.format.specs.declared.Layout.{Layout}
use Rattle.format.specs.declared.Mode.{Mode}
use Rattle.footer.specs.Finalize.{size_limit, lengthed, sealed}
use Rattle.image.specs.Sections.{strings_in}
use Rattle.image.specs.Admitted.{Admitted}
use Rattle.image.proofs.AdmitLaws.{not_refused}
use Rattle.admission.proofs.AnswerLaws.{judged_then}
use Rattle.utf.specs.Utf8.{is_utf8}
use Rattle.edits.proofs.FrameLaws.{Restrung}
use Rattle.edits.proofs.ReadLaws.{string_count-same}
use Rattle.string_edits.specs.Values.{Values, only, joined, Apart, in_turn}
use Rattle.string_edits.proofs.TurnLaws.{some_or_none, none-some, turn_none, turn_some, turn_start, turn_skip, only-id, only_own}
use Rattle.string_in_place.specs.Patch.{fits_all, over_old, in_place, hashed, rehashed, changed, finished, patched_strings}
use Rattle.string_in_place.specs.Patch.{new_length, patch_fits, result_checks, patch_known}
use Rattle.strings.specs.Patch.{by_id_refusal, patch_by_id}
use Rattle.string_rebuild.specs.Ready.{number_of}
use Rattle.strings.specs.Pass.{onward}
use Rattle.patches.specs.Patches.{Step, step_of, outcome_of}
use Rattle.patches.specs.Orders.{id_step}
use Rattle.patches.proofs.StringLaws.{StringsPassed}
use Rattle.patches.proofs.StepLaws.{passed}
use Rattle.patches.proofs.AfterLaws.{patched_restrung}
use Rattle.patches.proofs.ThenLaws.{next_below, joined_length, joined-fits, patch_then}
use Rattle.string_steps.specs.Steps.{steps_of, until_refused, is_none, none_gets, stepwise, up_to, stop_at, first_stop}
use Rattle.string_steps.specs.Steps.{Sound}

-- ---- the list, one patch more

until_more : (l : Layout) (ps : List Step) (p : Step) (s : List ℕ)
    → until_refused l (ps ++ (p ∷ [])) s ≡ onward (until_refused l ps s) (λ t. step_of l t p)
unfolding until_refused
until_more l [] p s = go (step_of l s p)
  where
    go : (o : Outcome) → onward o (λ t. made t) ≡ o
    go (refused n) = refl
    go (made t) = refl
until_more l (q ∷ ps) p s = go (step_of l s q) (until_more l ps p)
  where
    go : (o : Outcome) → ((t : List ℕ) → until_refused l (ps ++ (p ∷ [])) t ≡ onward (until_refused l ps t) (λ u. step_of l u p))
        → onward o (until_refused l (ps ++ (p ∷ []))) ≡ onward (onward o (until_refused l ps)) (λ t. step_of l t p)
    go (refused n) rest = refl
    go (made t) rest = rest t

-- ---- values below an id

module _ (v : Values) (n : ℕ) where
  up_none : v n ≡ none → up_to (suc n) v ≡ up_to n v
  up_none q = fun_ext (λ i. elim (which (eqb i n)) [
    | inl t ↦ let e : i ≡ n = eqb-true i n t in rw (e, lt-ltb n (suc n) (omega arith), le-ltb n n (omega arith), q)
    | inr t ↦ ap (λ (b : Bool). pick b (v i) none) (next_below i n (eqb-false i n t))
  ])

  up_some : (value : List ℕ) → v n ≡ some value → joined (up_to n v) (only n value) ≡ up_to (suc n) v
  up_some value q = fun_ext (λ i. elim (which (eqb i n)) [
    | inl t ↦ let e : i ≡ n = eqb-true i n t in rw (e, eq-eqb n n refl, lt-ltb n (suc n) (omega arith), q)
    | inr t ↦ rw t (ap (λ (b : Bool). pick b (v i) none) (sym (next_below i n (eqb-false i n t))))
  ])

  -- the only one below it
  up_only : (value : List ℕ) → v n ≡ some value → ((j : ℕ) → j < n → v j ≡ none) → up_to (suc n) v ≡ only n value
  up_only value q h = fun_ext (λ i. elim (which (eqb i n)) [
    | inl t ↦ let e : i ≡ n = eqb-true i n t in rw (e, lt-ltb n (suc n) (omega arith), eq-eqb n n refl) q
    | inr t ↦ rw (t, next_below i n (eqb-false i n t))
        (elim (below_or i n) [ inl g ↦ rw (lt-ltb i n g) (h i g) | inr g ↦ rw (le-ltb i n g) ])
  ])

  up_apart : (value : List ℕ) → Apart (up_to n v) (only n value)
  up_apart value i x y p q =
      let e : i ≡ n = only-id n value i y q in
      none-some x (rw (e, le-ltb n n (omega arith)) at p)

pub is-none : (o : Option (List ℕ)) → is_none o ≡ true → o ≡ none
is-none none e = refl
is-none (some value) e = absurd (true≢false (sym e))

-- ---- one patch, behind those before it

outcome_same : (j k : ℕ) (a b : List ℕ) → j ≡ k → (j ≡ 0 → a ≡ b) → outcome_for j a ≡ outcome_for k b
outcome_same j k a b e h = rw (← e) (go (eqb j 0) refl)
  where
    go : (c : Bool) → eqb j 0 ≡ c → pick c (made a) (refused j) ≡ pick c (made b) (refused j)
    go true q = ap made (h (eqb-true j 0 q))
    go false q = refl

-- a patch by id is that of a known string
module _ (m : Mode) (l : Layout) (t : List ℕ) (ad : Admitted l t) (id : ℕ) (known : id < strings_in t) (value : List ℕ)
    (valid : is_utf8 value ≡ true) where
  id-refusal : by_id_refusal m l t id value ≡ judge (result_checks m l t (only id value))
  unfolding by_id_refusal judge
  id-refusal = judged_then l t _ ∙ rw (not_refused l t ad, lt-leb (strings_in t) id known, valid)

  id_known : patch_by_id m l t id value ≡ patch_known m l t (only id value)
  unfolding patch_by_id patch_known
  id_known = ap (λ (n : ℕ). outcome_for n (patched_strings m l t (only id value))) id-refusal

-- behind an accepted patch of other strings it is that of both
module _ (m : Mode) (l : Layout) (s : List ℕ) (v d : Values) (first : StringsPassed m l s v) (parted : Apart v d) where
  abbrev t : List ℕ
  t = patched_strings m l s v

  frame : Restrung l s t
  frame = patched_restrung m l s v first

  known_then : ((i : ℕ) → i < strings_in s → (value : List ℕ) → d i ≡ some value → AllBelow 256 value)
      → patch_known m l t d ≡ patch_known m l s (joined v d)
  unfolding patch_known
  known_then bytes =
      outcome_same (judge (result_checks m l t d)) (judge (result_checks m l s (joined v d))) _ _
      (rw (joined_length m l s v d first parted, joined-fits m l s v d first parted))
      (λ z. patch_then m l s v d (record {
        first = first;
        next = passed l t frame.admitted m d
            (λ i h value q. bytes i (rw (string_count-same l s t frame.counts) at h) value q) z;
        apart = parted;
      }))

-- ---- what is refused has a number, and what is made was passed

roomed-some : (room k n : ℕ) (x : List ℕ) → roomed room (outcome_for k x) ≡ refused n → n ≢ 0
unfolding roomed
roomed-some room k n x e = go (eqb k 0) refl e
  where
    short : (b : Bool) → pick b (refused refusals.room) (made x) ≡ refused n → n ≢ 0
    short true q = λ z. let y : refusals.room ≡ n = cc in omega arith
    short false q = absurd (let y : ◌≡◌ {A = ℕ} 0 1 = cc in omega arith)

    go : (b : Bool) → eqb k 0 ≡ b → roomed room (pick b (made x) (refused k)) ≡ refused n → n ≢ 0
    go true h q = short (ltb room (length x)) q
    go false h q = λ z. let y : k ≡ n = cc in eqb-false k 0 h (y ∙ z)

roomed_passed : (room k : ℕ) (x u : List ℕ) → roomed room (outcome_for k x) ≡ made u → (k ≡ 0) × (x ≡ u)
unfolding roomed
roomed_passed room k x u e = go (eqb k 0) refl e
  where
    short : (b : Bool) → pick b (refused refusals.room) (made x) ≡ made u → x ≡ u
    short true q = absurd (let y : ◌≡◌ {A = ℕ} 0 1 = cc in omega arith)
    short false q = cc

    go : (b : Bool) → eqb k 0 ≡ b → roomed room (pick b (made x) (refused k)) ≡ made u → (k ≡ 0) × (x ≡ u)
    go true h q = (eqb-true k 0 h, short (ltb room (length x)) q)
    go false h q = absurd (let y : ◌≡◌ {A = ℕ} 0 1 = cc in omega arith)

-- ---- the first i strings have had their turns: what was made, and the number that was met

pub data Stand (m : Mode) (l : Layout) (s : List ℕ) (room : ℕ) (v : Values) (i : ℕ) : Outcome → ℕ → Type 0 where
  -- one of them was refused
  stopped : (r : ℕ) → r ≢ 0 → Stand m l s room v i (refused r) r
  -- all were accepted, and made what the one patch of all makes
  going : StringsPassed m l s (up_to i v) → roomed room (patch_known m l s (up_to i v)) ≡ made (patched_strings m l s (up_to i v))
      → Stand m l s room v i (made (patched_strings m l s (up_to i v))) 0
  -- there was none
  fresh : ((j : ℕ) → j < i → v j ≡ none) → Stand m l s room v i (made s) 0

module _ (m : Mode) (l : Layout) (s : List ℕ) (room : ℕ) (v : Values) (so : Sound l s v) where
  ad : Admitted l s
  ad = so.admitted

  pub up_bytes : (k i : ℕ) → i < strings_in s → (value : List ℕ) → up_to k v i ≡ some value → AllBelow 256 value
  up_bytes k i h value q = elim (below_or i k) [
    | inl g ↦ so.bytes i h value (rw (lt-ltb i k g) at q)
    | inr g ↦ absurd (none-some value (rw (le-ltb i k g) at q))
  ]

  -- a patch of the strings below an id in the room: refused, or made as all of them
  after : (i : ℕ) (o : Outcome) → roomed room (patch_known m l s (up_to i v)) ≡ o → Stand m l s room v i o (number_of o)
  unfolding patch_known
  after i (refused n) e =
      stopped n (roomed-some room (judge (result_checks m l s (up_to i v))) n (patched_strings m l s (up_to i v)) e)
  after i (made u) e =
      let (z, q) = roomed_passed room (judge (result_checks m l s (up_to i v))) (patched_strings m l s (up_to i v)) u e in
      subst (λ (x : List ℕ). Stand m l s room v i (made x) 0) q
      (going (passed l s ad m (up_to i v) (up_bytes i) z) (e ∙ ap made (sym q)))

  -- one string more
  module _ (n : ℕ) (known : n < strings_in s) where
    abbrev next : List ℕ → List ℕ → Outcome
    next value t = step_of l t (id_step m room (record { id = n; value = value }))

    stand_none : v n ≡ none → (o : Outcome) (r : ℕ) → Stand m l s room v n o r → Stand m l s room v (suc n) o r
    stand_none q _ _ (stopped r z) = stopped r z
    stand_none q _ _ (going ok e) =
        rw (← up_none v n q) (going (rw (up_none v n q) ok) (rw (up_none v n q) e))
    stand_none q _ _ (fresh f) = fresh (λ j h. elim (below j n h) [ inl e ↦ rw e q | inr g ↦ f j g ])

    -- a patch of its own
    module _ (value : List ℕ) (q : v n ≡ some value) where
      step_known : (t : List ℕ) → Admitted l t → strings_in t ≡ strings_in s
          → next value t ≡ roomed room (patch_known m l t (only n value))
      unfolding step_of outcome_of
      step_known t bd sc = ap (roomed room) (id_known m l t bd n (rw sc known) value (so.valid n known value q))

      own_bytes : (i : ℕ) → i < strings_in s → (x : List ℕ) → only n value i ≡ some x → AllBelow 256 x
      own_bytes i h x e =
          let z : i ≡ n = only-id n value i x e in
          so.bytes i h x (rw z q ∙ sym (only_own n value) ∙ ap (only n value) (sym z) ∙ e)

      -- behind those before it
      step_going : StringsPassed m l s (up_to n v)
          → next value (patched_strings m l s (up_to n v)) ≡ roomed room (patch_known m l s (up_to (suc n) v))
      step_going ok =
          let r : Restrung l s (patched_strings m l s (up_to n v)) = patched_restrung m l s (up_to n v) ok in
          step_known (patched_strings m l s (up_to n v)) r.admitted (string_count-same l s _ r.counts)
          ∙ ap (roomed room)
          (known_then m l s (up_to n v) (only n value) ok (up_apart v n value) own_bytes
          ∙ ap (patch_known m l s) (up_some v n value q))

      -- the first
      step_fresh : ((j : ℕ) → j < n → v j ≡ none) → next value s ≡ roomed room (patch_known m l s (up_to (suc n) v))
      step_fresh f = step_known s ad refl ∙ ap (λ (u : Values). roomed room (patch_known m l s u)) (sym (up_only v n value q f))

      stand_some : (o : Outcome) (r : ℕ) → Stand m l s room v n o r
          → Stand m l s room v (suc n) (onward o (next value)) (pick (eqb r 0) (stop_at m l s room v (suc n)) r)
      unfolding stop_at
      stand_some _ _ (stopped r z) = rw (ne_eqb r 0 z) (stopped r z)
      stand_some _ _ (going ok e) = rw (step_going ok) (after (suc n) _ refl)
      stand_some _ _ (fresh f) = rw (step_fresh f) (after (suc n) _ refl)

  -- ---- the list and the number, one string more

  abbrev steps : ℕ → List Step
  steps n = steps_of m room v n

  abbrev stop : ℕ → ℕ
  stop n = first_stop m l s room v n

  steps-none : (n : ℕ) → v n ≡ none → steps (suc n) ≡ steps n
  unfolding steps_of
  steps-none n q = turn_none {A = List Step} v _ [] n q

  steps-some : (n : ℕ) (value : List ℕ) → v n ≡ some value
      → steps (suc n) ≡ steps n ++ (id_step m room (record { id = n; value = value }) ∷ [])
  unfolding steps_of
  steps-some n value q = turn_some {A = List Step} v _ [] n value q

  stop_none : (n : ℕ) → v n ≡ none → stop (suc n) ≡ stop n
  unfolding first_stop
  stop_none n q = turn_none {A = ℕ} v _ 0 n q

  stop_some : (n : ℕ) (value : List ℕ) → v n ≡ some value
      → stop (suc n) ≡ pick (eqb (stop n) 0) (stop_at m l s room v (suc n)) (stop n)
  unfolding first_stop
  stop_some n value q = turn_some {A = ℕ} v _ 0 n value q

  -- all that have had their turn
  stands : (n : ℕ) → n ≤ strings_in s → Stand m l s room v n (until_refused l (steps n) s) (stop n)
  unfolding steps_of until_refused first_stop in_turn
  stands zero h = fresh (λ j g. absurd (omega arith))
  stands (suc n) h = elim (some_or_none (v n)) [
    | inl q ↦ rw (steps-none n q, stop_none n q) (stand_none n (omega arith) q _ _ (stands n (omega arith)))
    | inr (value, q) ↦ rw (steps-some n value q, stop_some n value q, until_more l (steps n) _ s)
        (stand_some n (omega arith) value q _ _ (stands n (omega arith)))
  ]

  -- ---- where none gets a value

  module _ (none-gets : (i : ℕ) → i < strings_in s → v i ≡ none) where
    skip : {A : Type 0} (turn : ℕ → List ℕ → A → A) (a : A) → in_turn v turn (strings_in s) a ≡ a
    skip turn a = turn_skip v turn a 0 (strings_in s) (omega arith) (λ j h k. none-gets j k) ∙ turn_start v turn a

    all_fit : fits_all l s v ≡ true
    unfolding fits_all
    all_fit = skip {A = Bool} _ true

    not_stopped : stop (strings_in s) ≡ 0
    unfolding first_stop
    not_stopped = skip {A = ℕ} _ 0

    only-sealed : patched_strings m l s v ≡ sealed (lengthed s)
    unfolding patched_strings finished changed in_place rehashed
    only-sealed = rw (all_fit, skip {A = List ℕ} (over_old l s) s, skip {A = List ℕ} (hashed l s) s)

    only_final : patch_known m l s v ≡ made (sealed (lengthed s))
    unfolding patch_known new_length patch_fits judge
    only_final = rw (all_fit, le-ltb size_limit (length s) ad.most) (ap made only-sealed)

  -- ---- all

  up_all : up_to (strings_in s) v ≡ v
  up_all = fun_ext (λ i. elim (below_or i (strings_in s)) [
    | inl g ↦ rw (lt-ltb i (strings_in s) g)
    | inr g ↦ rw (le-ltb i (strings_in s) g) (sym (so.past i g))
  ])

  some_gets : none_gets v (strings_in s) ≡ false → ((i : ℕ) → i < strings_in s → v i ≡ none) → ⊥
  some_gets e h =
      let (j, g, q) = all_not (λ i. is_none (v i)) (strings_in s) e in
      let z : is_none (v j) ≡ true = ap is_none (h j g) in
      true≢false (sym z ∙ q)

  -- THE SINGLE PATCHES ARE THE ONE PATCH OF ALL, BUT FOR WHERE ONE OF THEM STOPS
  pub steps_are : stepwise m l s room v
      ≡ pick (eqb (stop (strings_in s)) 0) (roomed room (patch_known m l s v)) (refused (stop (strings_in s)))
  unfolding stepwise
  steps_are = elim (which (none_gets v (strings_in s))) [
    | inl t ↦
        let h : (i : ℕ) → i < strings_in s → v i ≡ none = λ i g. is-none (v i) (all_at (λ j. is_none (v j)) (strings_in s) i t g) in
        rw (t, not_stopped h, only_final h)
    | inr f ↦ rw f (go (some_gets f) _ _ (stands (strings_in s) (omega arith)))
  ]
    where
      go : (((i : ℕ) → i < strings_in s → v i ≡ none) → ⊥) → (o : Outcome) (r : ℕ) → Stand m l s room v (strings_in s) o r
          → o ≡ pick (eqb r 0) (roomed room (patch_known m l s v)) (refused r)
      go gets _ _ (stopped r z) = rw (ne_eqb r 0 z)
      go gets _ _ (going ok e) = sym (ap (λ (u : Values). roomed room (patch_known m l s u)) (sym up_all) ∙ e)
      go gets _ _ (fresh f) = absurd (gets f)

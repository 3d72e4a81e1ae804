-- The first single patch that is refused, found by a pass over the strings that get a value.
use Rattle.std.specs.Prelude.{Err, Ok, Result}
use mathlib.Core.Path.{◌≡◌, refl, ap, sym, ◌∙◌}
use mathlib.Core.Bool.{Bool, true, false, not}
use mathlib.Core.Logic.{inl, inr, ◌≢◌}
use mathlib.Core.List.{List}
use Prim.Native.Nat.{ℕ, zero, suc, ◌≤◌, ◌<◌}
use native.Mathlib.Omega.{arith}
use borrow.Author.Tests.{le-ltb, lt-ltb, ne_eqb, not-true, not-false}
use lib.Dec.{eqb}
use lib.ListN.{length, take}
use Rattle.bits.specs.Choice.{pick, both, judge}
use Rattle.bits.specs.Outcome.{Answers, made, roomed, passed}
use Rattle.bits.proofs.TestLaws.{below_or, both-none, is_found, is-refused}
use Rattle.format.specs.declared.Layout.{Layout}
use Rattle.format.specs.declared.Mode.{Mode}
use Rattle.footer.specs.Finalize.{size_limit}
use Rattle.image.specs.Sections.{strings_in}
use Rattle.image.specs.Admitted.{Admitted}
use Rattle.sections.specs.declared.Places.{Places}
use Rattle.sections.proofs.SectionLaws.{sectioned}
use Rattle.string_walk.specs.declared.Cursor.{Cursor}
use Rattle.string_walk.specs.declared.Visited.{Visited}
use Rattle.string_edits.specs.declared.Next.{Next}
use Rattle.string_edits.specs.declared.Form.TheVariants.{Marks}
use Rattle.string_edits.specs.Values.{Values, all_edited}
use Rattle.string_edits.specs.Told.{Told, told, values_in, NextOf, coming_in}
use Rattle.string_edits.proofs.TurnLaws.{some_or_none, turn_none, turn_some, turn_skip, turn_ext}
use Rattle.string_in_place.specs.Known.{Given}
use Rattle.string_in_place.specs.Patch.{fits_in_place, fits_all, changed, patched_strings, new_length, patch_fits, patch_known}
use Rattle.string_in_place.proofs.FinishLaws.{length-finished}
use Rattle.string_in_place.proofs.EditedLaws.{Edge, Met, edge_first, turn_first, edge_known, turn_end, behind, edge_next, turn_met}
use Rattle.string_rebuild.specs.Ready.{number_of}
use Rattle.patches.proofs.AfterLaws.{changed-long}
use Rattle.string_steps.specs.Steps.{Sound, up_to, stop_at, first_stop, stepwise}
use Rattle.string_steps.specs.Room.{is_roomy}
use Rattle.string_steps.specs.Marked.{Marked}
use Rattle.string_steps.proofs.MarkLaws.{front_gets}
use Rattle.string_steps.proofs.StepLaws.{steps_are}
use Rattle.string_steps.proofs.RoomLaws.{not_stopped}

-- ---- a test by its number

module _ (n : ℕ) where
  passed_some : n ≢ 0 → Err n ≡ passed n
  passed_some z = rw (ne_eqb n 0 z)

  passed_none : (u : Unit {0}) → passed n ≡ Ok u → n ≡ 0
  passed_none u e = (is_found n (Ok tt) Err (Ok u) e (λ k f. let y : ◌≡◌ {A = ℕ} 0 1 = cc in omega arith)).0

  passed_refused : (k : ℕ) → passed n ≡ Err k → (n ≢ 0) × (n ≡ k)
  passed_refused k e =
      let (h, q) = is-refused n (Ok tt) Err (Err k) e (λ f. let y : ◌≡◌ {A = ℕ} 0 1 = cc in omega arith) in
      let same : n ≡ k = cc in
      (λ z. omega arith, same)

-- ---- all that come before fit in place

fits_up : (l : Layout) (s : List ℕ) (v : Values) (k : ℕ) → k ≤ strings_in s
    → fits_all l s (up_to k v) ≡ all_edited v (fits_in_place l s) k
unfolding fits_all
fits_up l s v k h =
    turn_skip (up_to k v) fitting true k (strings_in s) h (λ j g n. rw (le-ltb j k g))
    ∙ turn_ext (up_to k v) v fitting fitting true k (λ i g. rw (lt-ltb i k g)) (λ i g value b. refl)
  where
    fitting : ℕ → List ℕ → Bool → Bool
    fitting i value b = both (fits_in_place l s i value) b

-- one more, by what the code answers
module _ (fits before : Bool) where
  pub not_before : not before ≡ true → false ≡ both fits before
  not_before f = rw (not-true before f, both-none)

  pub all_before : not before ≡ false → fits ≡ both fits before
  all_before f = rw (not-false before f) (go fits)
    where
      go : (b : Bool) → b ≡ both b true
      go true = refl
      go false = refl

-- ---- a patch in place

-- what is made in place has the image's length, so that only the room may be short
module _ (m : Mode) (l : Layout) (s : List ℕ) (v : Values) (ad : Admitted l s) (fits : fits_all l s v ≡ true) where
  length_kept : new_length m l s v ≡ length s
  unfolding new_length
  length_kept = rw fits

  length-placed : length (patched_strings m l s v) ≡ length s
  unfolding patched_strings
  length-placed =
      let e : length (changed m l s v) ≡ length s = sym (changed-long m l s v ad) ∙ length_kept in
      length-finished l s v (changed m l s v) (omega (arith, e, ad.least)) ∙ e

  known_placed : patch_known m l s v ≡ made (patched_strings m l s v)
  unfolding patch_known judge patch_fits
  known_placed = rw (length_kept, fits, le-ltb size_limit (length s) ad.most)

  pub placed_short : (room : ℕ) → room < length s → 13 ≡ number_of (roomed room (patch_known m l s v))
  unfolding roomed
  placed_short room h = rw (known_placed, length-placed, lt-ltb room (length s) h)

  pub placed-fits : (room : ℕ) → length s ≤ room → 0 ≡ number_of (roomed room (patch_known m l s v))
  unfolding roomed
  placed-fits room h = rw (known_placed, length-placed, le-ltb room (length s) h)

-- ---- the first number

module _ (m : Mode) (l : Layout) (s : List ℕ) (room : ℕ) (v : Values) where
  abbrev stopping : ℕ → List ℕ → ℕ → ℕ
  stopping i value r = pick (eqb r 0) (stop_at m l s room v (suc i)) r

  abbrev stop : ℕ → ℕ
  stop n = first_stop m l s room v n

  -- it stays
  pub stop_stays : (k n : ℕ) → k ≤ n → stop k ≢ 0 → stop n ≡ stop k
  unfolding first_stop
  stop_stays k zero h z = let e : k ≡ 0 = omega arith in rw e
  stop_stays k (suc n) h z = elim (below_or n k) [
    | inl g ↦ let e : k ≡ suc n = omega arith in rw e
    | inr g ↦
        let rest : stop n ≡ stop k = stop_stays k n g z in
        elim (some_or_none (v n)) [
          | inl q ↦ turn_none v stopping 0 n q ∙ rest
          | inr (value, q) ↦ turn_some v stopping 0 n value q ∙ rw (ne_eqb (stop n) 0 (λ e. z (sym rest ∙ e))) rest
        ]
  ]

-- ---- a pass over the strings that get a value

-- the pass stands at a string: whether all before it fit in place is known, and none of them was refused
pub record Passing (m : Mode) (p : Places) (s marks text ends : List ℕ) (room : ℕ) (c : Cursor) (n : Next) (fits : Bool) : Type 0 where
  pub edge : Edge p s (told Marks marks) c n
  pub placed : fits ≡ all_edited (values_in (told Marks marks) text ends) (fits_in_place p.layout s) c.id
  pub none : first_stop m p.layout s room (values_in (told Marks marks) text ends) c.id ≡ 0

module _ (m : Mode) (p : Places) (s marks text ends : List ℕ) (room : ℕ) (mk : Marked p s marks text ends) (from : Cursor)
    (g : Given p s (told Marks marks) text ends from) where
  abbrev edits : Told
  edits = told Marks marks

  abbrev gets : Values
  gets = values_in (told Marks marks) text ends

  abbrev halt : ℕ → ℕ
  halt n = first_stop m p.layout s room gets n

  abbrev fitting : ℕ → List ℕ → Bool → Bool
  fitting i value b = both (fits_in_place p.layout s i value) b

  abbrev halting : ℕ → List ℕ → ℕ → ℕ
  halting = stopping m p.layout s room gets

  counts : p.strings ≡ strings_in s
  counts = (sectioned p s mk.laid.placed).strings

  pub pass_first : (n : Next) → NextOf edits from.id n → Passing m p s marks text ends room from n true
  unfolding first_stop
  pass_first n h = record {
    edge = edge_first p s edits text ends from g n h;
    placed = sym (turn_first p s edits text ends from g fitting true);
    none = turn_first p s edits text ends from g halting 0;
  }

  module _ (c : Cursor) (n : Next) (fits : Bool) (pass : Passing m p s marks text ends room c n fits) where
    pub pass_end : 4294967296 ≤ n.id → 0 ≡ halt (strings_in s)
    unfolding first_stop
    pass_end h = sym (turn_end p s edits text ends from g c n pass.edge halting 0 h ∙ pass.none)

    -- the next string, visited
    module _ (at : Cursor) (r : Visited) (met : Met p s n at r) where
      abbrev k : ℕ
      k = r.next.id

      k_is : k ≡ suc n.id
      k_is = behind p s edits text ends from g c n pass.edge at r met

      pub met_most : k ≤ length marks
      met_most = omega (arith, k_is, edge_known p s edits text ends from g c n pass.edge met.edit, mk.many)

      k_most : k ≤ strings_in s
      k_most = omega (arith, met_most, mk.many, counts)

      -- whether it fits too
      module _ (b : Bool) (t : b ≡ both (fits_in_place p.layout s n.id (coming_in text ends n)) fits) where
        fits_behind : b ≡ all_edited gets (fits_in_place p.layout s) k
        fits_behind =
            t ∙ ap (λ (x : Bool). both (fits_in_place p.layout s n.id (coming_in text ends n)) x) pass.placed
            ∙ sym (turn_met p s edits text ends from g c n pass.edge at r met fitting true)

        pub front_fits : b ≡ fits_all p.layout s (values_in (told Marks (take k marks)) text ends)
        front_fits =
            fits_behind ∙ sym (fits_up p.layout s gets k k_most)
            ∙ ap (fits_all p.layout s) (sym (front_gets marks text ends k))

        -- the number that its patch meets
        abbrev number : ℕ
        number = number_of (roomed room (patch_known m p.layout s (values_in (told Marks (take k marks)) text ends)))

        front_stop : number ≡ stop_at m p.layout s room gets (suc n.id)
        unfolding stop_at
        front_stop =
            ap (λ (v : Values). number_of (roomed room (patch_known m p.layout s v))) (front_gets marks text ends k)
            ∙ ap (λ (i : ℕ). number_of (roomed room (patch_known m p.layout s (up_to i gets)))) k_is

        number_is : number ≡ halt k
        unfolding first_stop
        number_is =
            front_stop
            ∙ sym (turn_met p s edits text ends from g c n pass.edge at r met halting 0
            ∙ ap (halting n.id (coming_in text ends n)) pass.none)

        -- the answer of its patch
        module _ (x : Result (Unit {0}) ℕ) (e : x ≡ passed number) where
          pub pass_stop : (j : ℕ) → x ≡ Err j → Err j ≡ passed (halt (strings_in s))
          pass_stop j f =
              let (z, q) = passed_refused number j (sym e ∙ f) in
              ap Err (sym q) ∙ passed_some number z
              ∙ ap passed (number_is ∙ sym (stop_stays m p.layout s room gets k (strings_in s) k_most (λ y. z (number_is ∙ y))))

          pub pass_next : (u : Unit {0}) → x ≡ Ok u → (i : Next) → NextOf edits k i → Passing m p s marks text ends room r.next i b
          pass_next u f i h = record {
            edge = edge_next p s edits text ends from g c n pass.edge at r met i h;
            placed = fits_behind;
            none = sym number_is ∙ passed_none number u (sym e ∙ f);
          }

-- ---- the whole

module _ (m : Mode) (l : Layout) (s : List ℕ) (room : ℕ) (v : Values) (so : Sound l s v) where
  pub roomy_stop : (r : Bool) → r ≡ is_roomy l s room v → r ≡ true → 0 ≡ first_stop m l s room v (strings_in s)
  roomy_stop r e t = sym (not_stopped m l s room v so (sym e ∙ t) (strings_in s))

  module _ (r : Result (Unit {0}) ℕ) (e : r ≡ passed (first_stop m l s room v (strings_in s))) where
    abbrev stop_number : ℕ
    stop_number = first_stop m l s room v (strings_in s)

    pub steps_refused : (k : ℕ) → r ≡ Err k → (out : List ℕ) → Answers (stepwise m l s room v) (Err k) out out
    steps_refused k f out =
        let (z, q) = passed_refused stop_number k (sym e ∙ f) in
        rw (steps_are m l s room v so, ne_eqb stop_number 0 z) (ap Err (sym q), refl)

    pub steps_made : (u : Unit {0}) → r ≡ Ok u → stepwise m l s room v ≡ roomed room (patch_known m l s v)
    steps_made u f = steps_are m l s room v so ∙ rw (passed_none stop_number u (sym e ∙ f))

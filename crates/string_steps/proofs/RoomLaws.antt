-- In room enough no single patch is refused: what each makes is no longer than what all old and all new strings would take together.
use mathlib.Core.Path.{◌≡◌, refl, sym, ◌∙◌}
use mathlib.Core.Bool.{Bool, true, false, true≢false}
use mathlib.Core.Logic.{inl, inr}
use mathlib.Core.Option.{Option, none, some}
use mathlib.Core.List.{List}
use Prim.Native.Nat.{ℕ, zero, suc, ◌+◌, ◌-◌, ◌*◌, ◌≤◌, ◌<◌}
use native.Mathlib.Omega.{arith}
use borrow.Author.Tests.{le-ltb, lt-ltb, leb-true}
use lib.Dec.{leb}
use lib.ListN.{length}
use lib.ListN.{length-append, length-replicate}
use Rattle.bits.specs.Choice.{both, judge, sum_below}
use Rattle.bits.specs.Bytes.{up4}
use Rattle.bits.specs.Outcome.{roomed}
use Rattle.bits.proofs.TestLaws.{which, below_or, both_0, both_1, either_true}
use Rattle.format.specs.declared.Layout.{Layout}
use Rattle.format.specs.declared.Mode.{Mode}
use Rattle.format.specs.Entry.{bit, is_over, Place}
use Rattle.format.specs.Move.{moved}
use Rattle.format.proofs.MoveLaws.{moved-low, moved-high}
use Rattle.footer.specs.Finalize.{size_limit}
use Rattle.image.specs.Sections.{strings_in, small_at, over_at, tail_at}
use Rattle.image.specs.Strings.{Str, string_of}
use Rattle.image.specs.Functions.{Func, func_of}
use Rattle.image.specs.Admitted.{Admitted}
use Rattle.edits.specs.Fit.{fields_fit}
use Rattle.edits.specs.Packing.{gap_of, store_of, placed, packed}
use Rattle.edits.specs.Rebuild.{overs, padded, new_tail}
use Rattle.edits.proofs.RegionLaws.{length-region}
use Rattle.edits.proofs.SpacedLaws.{gap_most}
use Rattle.string_edits.specs.Values.{Values}
use Rattle.string_edits.proofs.TurnLaws.{turn_along}
use Rattle.string_packing.specs.Strings.{new_string, string_with, strings_with}
use Rattle.string_in_place.specs.Patch.{fits_all, patched_strings, new_length, patch_fits, patch_known}
use Rattle.patches.proofs.StringLaws.{StringsPassed}
use Rattle.patches.proofs.AfterLaws.{changed-long, patched_near}
use Rattle.patches.proofs.RefusalLaws.{fields_wrong, fields_failed}
use Rattle.string_steps.specs.Steps.{Sound, up_to, stop_at, first_stop}
use Rattle.string_steps.proofs.StepLaws.{up_bytes}
use Rattle.string_steps.specs.Room.{new_size, store_most, tail_most, is_roomy}

-- ---- storage of strings that are no longer than something for each

store_most_lem : (m : Mode) (f : ℕ → Str) (a b : ℕ → ℕ) (n : ℕ) → ((i : ℕ) → i < n → length (f i).bytes ≤ a i + b i)
    → length (store_of m f n) ≤ sum_below n a + sum_below n b + n
unfolding store_of sum_below
store_most_lem m f a b zero h = omega arith
store_most_lem m f a b (suc n) h =
    let gap : ℕ = gap_of m (f n).wide (length (store_of m f n)) in
    rw (length-append, length-append, length-replicate)
    (omega (
      arith,
      store_most_lem m f a b n (λ i g. h i (omega arith)),
      h n (omega arith),
      gap_most m (f n).wide (length (store_of m f n)),
    ))

overs_most : (p : ℕ → Place) (n : ℕ) → overs p n ≤ n
unfolding overs sum_below
overs_most p zero = omega arith
overs_most p (suc n) = omega (arith, overs_most p n, bit_most (is_over (p n)))
  where
    bit_most : (b : Bool) → bit b ≤ 1
    bit_most true = omega arith
    bit_most false = omega arith

-- tables and storage, rounded up
tail_sum : (at n over store most long : ℕ) → long ≡ n * 4 + (over * 8 + store) → over ≤ n → store ≤ most
    → at + (long + (up4 (at + long) - (at + long))) ≤ up4 (at + n * 4 + n * 8 + most)
tail_sum at n over store most long e h k = omega arith

module _ (m : Mode) (l : Layout) (s : List ℕ) (v : Values) where
  -- a string with its old value or its new one
  string_most_lem : (k i : ℕ) → length (string_with l s (up_to k v) i).bytes ≤ length (string_of l s i).bytes + new_size (v i)
  unfolding string_with
  string_most_lem k i = elim (below_or i k) [
    | inl g ↦ rw (lt-ltb i k g) (go (v i))
    | inr g ↦ rw (le-ltb i k g) (omega arith)
  ]
    where
      go : (o : Option (List ℕ)) → length (new_string o (string_of l s i)).bytes ≤ length (string_of l s i).bytes + new_size o
      go none = omega arith
      go (some value) = omega arith

  -- the tail starts no later
  tail_most_lem : (k : ℕ) → new_tail l (strings_with m l s (up_to k v)) s ≤ tail_most l s v
  unfolding padded strings_with tail_most store_most over_at
  tail_most_lem k =
      let n : ℕ = strings_in s in
      let f : ℕ → Str = string_with l s (up_to k v) in
      rw (length-append, length-replicate)
      (tail_sum (small_at l s) n (overs (placed m f) n) (length (store_of m f n)) _ _ (length-region n (packed m f n))
      (overs_most (placed m f) n)
      (store_most_lem m f (λ i. length (string_of l s i).bytes) (λ i. new_size (v i)) n (λ i h. string_most_lem k i)))

-- ---- places move no further than the tail

moved_most : (from a b p : ℕ) → a ≤ b → moved from a p ≤ moved from b p
moved_most from a b p h = elim (below_or p from) [
  | inl g ↦ rw (moved-low from a p g, moved-low from b p g) (omega arith)
  | inr g ↦ rw (moved-high from a p g, moved-high from b p g) (omega arith)
]

fields_most : (l : Layout) (s : List ℕ) (from a b : ℕ) → a ≤ b → fields_fit l s (moved from b) ≡ true
    → fields_fit l s (moved from a) ≡ true
fields_most l s from a b h fit = elim (which (fields_fit l s (moved from a))) [
  | inl g ↦ g
  | inr g ↦
      let (j, k, u, far) = fields_wrong l s (moved from a) g in
      let f : Func = func_of l s j in
      let off : fields_fit l s (moved from b) ≡ false
      = fields_failed l s (moved from b) (
        j,
        k,
        u,
        elim far [
          | inl x ↦ inl (omega (arith, moved_most from a b f.begin h))
          | inr x ↦ inr (omega (arith, moved_most from a b f.info h))
        ],
      ) in
      absurd (true≢false (sym fit ∙ off))
]

-- ---- in room enough

module _ (m : Mode) (l : Layout) (s : List ℕ) (room : ℕ) (v : Values) (so : Sound l s v) (roomy : is_roomy l s room v ≡ true) where
  ad : Admitted l s
  ad = so.admitted

  abbrev most : ℕ
  most = length s - tail_at l s + tail_most l s v

  record Enough : Type 0 where
    own : length s ≤ room
    output : most ≤ room
    limit : most ≤ size_limit
    fields : fields_fit l s (moved (tail_at l s) (tail_most l s v)) ≡ true

  enough : Enough
  unfolding is_roomy
  enough =
      let f : Bool = fields_fit l s (moved (tail_at l s) (tail_most l s v)) in
      let c : Bool = both (leb most size_limit) f in
      let b : Bool = both (leb most room) c in
      let bs : b ≡ true = both_1 (leb (length s) room) b roomy in
      let cs : c ≡ true = both_1 (leb most room) c bs in
      record {
        own = leb-true (length s) room (both_0 (leb (length s) room) b roomy);
        output = leb-true most room (both_0 (leb most room) c bs);
        limit = leb-true most size_limit (both_0 (leb most size_limit) f cs);
        fields = both_1 (leb most size_limit) f cs;
      }

  module _ (k : ℕ) where
    abbrev u : Values
    u = up_to k v

    abbrev to : ℕ
    to = new_tail l (strings_with m l s u) s

    length_most : (new_length m l s u ≤ room) × (new_length m l s u ≤ size_limit)
    unfolding new_length
    length_most = elim (which (fits_all l s u)) [
      | inl t ↦ rw t (enough.own, ad.most)
      | inr t ↦
          let e : moved (tail_at l s) to (length s) ≡ length s - tail_at l s + to
          = moved-high (tail_at l s) to (length s) (omega (arith, ad.room)) in
          rw (t, e) (omega (arith, tail_most_lem m l s v k, enough.output), omega (arith, tail_most_lem m l s v k, enough.limit))
    ]

    fits : patch_fits m l s u ≡ true
    unfolding patch_fits
    fits =
        rw (fields_most l s (tail_at l s) to (tail_most l s v) (tail_most_lem m l s v k) enough.fields) (either_true (fits_all l s u))

    ok : StringsPassed m l s u
    ok = record { admitted = ad; bytes = up_bytes m l s room v so k; limit = length_most.1; field = fits }

    length_made : length (patched_strings m l s u) ≡ new_length m l s u
    length_made = (patched_near m l s u ok).long ∙ sym (changed-long m l s u ad)

    pub not_stopped_at : stop_at m l s room v k ≡ 0
    unfolding stop_at patch_known judge roomed
    not_stopped_at =
        rw (
          le-ltb size_limit (new_length m l s u) length_most.1,
          fits,
          le-ltb room (length (patched_strings m l s u)) (omega (arith, length_made, length_most.0)),
        )

  -- IN ROOM ENOUGH NONE IS REFUSED
  pub not_stopped : (n : ℕ) → first_stop m l s room v n ≡ 0
  unfolding first_stop
  not_stopped n =
      turn_along v _ 0 (λ (i r : ℕ). r ≡ 0) n refl (λ i r q e. e) (λ i value r g e. rw e (not_stopped_at (suc i)))

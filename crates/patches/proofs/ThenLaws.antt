-- A patch of strings and then one of other strings make what the one patch of both makes. 02, Nos. 4 and 12.
use mathlib.Core.Path.{◌≡◌, refl, ap, sym, ◌∙◌, fun_ext}
use mathlib.Core.Bool.{Bool, true, false, not}
use mathlib.Core.Logic.{inl, inr, ◌≢◌}
use mathlib.Core.Option.{none, some}
use mathlib.Core.List.{List}
use Prim.Native.Nat.{ℕ, suc, ◌+◌, ◌*◌, ◌≤◌, ◌<◌}
use native.Mathlib.Omega.{arith}
use borrow.Author.Tests.{eqb-true, eqb-false, lt-ltb, le-ltb}
use lib.Dec.{ltb, eqb}
use lib.ListN.{length, get_or}
use lib.Seq.{sets, length-sets}
use Rattle.bits.specs.Choice.{pick, both, implies, all_below}
use Rattle.bits.specs.Bytes.{ascii}
use Rattle.bits.proofs.TestLaws.{which, below_or, both-none}
use Rattle.bits.proofs.PassLaws.{all_same}
use Rattle.bits.proofs.ListLaws.{AllBelow}
use Rattle.bits.proofs.WriteLaws.{sets_byte}
use Rattle.format.specs.declared.Layout.{Layout}
use Rattle.format.specs.declared.Mode.{Mode}
use Rattle.format.specs.Table as table
use Rattle.format.specs.Entry.{Place}
use Rattle.format.specs.Move.{moved}
use Rattle.format.proofs.MoveLaws.{moved-high}
use Rattle.image.specs.Sections.{functions_in, strings_in, hashes_at, small_at, storage_at, tail_at}
use Rattle.image.specs.Strings.{place_at, size_of, Str}
use Rattle.image.specs.Functions.{Func, func_of}
use Rattle.image.specs.Admitted.{Admitted}
use Rattle.image.proofs.PlaceLaws.{ordered}
use Rattle.edits.specs.Edit.{move_func}
use Rattle.edits.specs.Packing.{Packed, store_of, start_of, placed, packed}
use Rattle.edits.specs.Rebuild.{overs, rebuild}
use Rattle.edits.proofs.ReadLaws.{functions_same}
use Rattle.edits.proofs.ReadLaws.{Agree, string_count-same, hashes_at-same, small_at-same, identifier_same, rank_same, storage_at-same}
use Rattle.edits.proofs.RegionLaws.{Bears, read_storage, read_wide, read_at, read_size}
use Rattle.edits.proofs.StringLaws.{bears}
use Rattle.edits.proofs.ModeLaws.{overs_ext, rebuild_ext}
use Rattle.edits.proofs.FrameLaws.{Settled, Restrung, func_further, rebuilt_length, rebuilt_like, restrung_then}
use Rattle.edits.proofs.PutLaws.{store_ext, placed_ext, Restated, place_like, rebuild-long, rebuild-put}
use Rattle.string_edits.specs.Values.{Values, joined, Apart, in_turn, all_edited}
use Rattle.string_edits.proofs.TurnLaws.{some_or_none, Gets, turn_along, turn_both, turn_ext}
use Rattle.string_overlap.specs.Overlap.{overlap, is_apart, is_alone}
use Rattle.string_packing.specs.Strings.{as_string, string_with, strings_with}
use Rattle.string_in_place.specs.Patch.{fits_in_place, fits_all, over_old, in_place, hashed, rehashed, changed, patched_strings}
use Rattle.string_in_place.specs.Patch.{new_length, patch_fits}
use Rattle.patches.specs.Patches.{to_values}
use Rattle.patches.specs.Promise.{moves_to, place_after, Unmoved}
use Rattle.patches.proofs.CalmLaws.{Nearly, calm}
use Rattle.patches.proofs.InPlaceLaws as in_places
use Rattle.patches.proofs.InPlaceLaws.{spot, narrow, plain, sized, AllFit, fits_each}
use Rattle.patches.proofs.StringLaws.{StringsPassed, rebuilds, all_fit, string_promise, string_places}
use Rattle.patches.proofs.RefusalLaws.{Beyond, new_length_lem, patch_wrong, patch_failed}
use Rattle.patches.proofs.JoinedLaws.{SameByte, rehashed_byte, fits-joined, in_place_joined, rehashed-joined}
use Rattle.patches.proofs.AfterLaws.{final_like, near_byte, changed-fits, changed_away, changed-long, patched_is, changed-hashes}
use Rattle.patches.proofs.AfterLaws.{changed_restrung, hashed_near, patched_near, patched_restrung, patched_hashes}

-- ---- whether a value fits in place hangs only on the places of the strings

module _ (l : Layout) (s t : List ℕ) (count : strings_in t ≡ strings_in s) (un : Unmoved l s t) (id : ℕ)
    (known : id < strings_in s) where
  alone_same : is_alone l t id ≡ is_alone l s id
  unfolding is_alone is_apart
  alone_same =
      ap (λ (n : ℕ). all_below n (is_apart l t id)) count
      ∙ all_same (is_apart l t id) (is_apart l s id) (strings_in s)
      (λ j h.
      ap (λ (p : Place). implies (not (eqb j id)) (not (overlap p (place_at l t j)))) (un id known)
      ∙ ap (λ (p : Place). implies (not (eqb j id)) (not (overlap (place_at l s id) p))) (un j h))

  fits-same : (value : List ℕ) → fits_in_place l t id value ≡ fits_in_place l s id value
  unfolding fits_in_place
  fits-same value =
      ap (λ (p : Place). both (not p.wide) (both (ascii value) (both (eqb (length value) (size_of p)) (is_alone l t id)))) (un id known)
      ∙ ap (λ (b : Bool). both (not (place_at l s id).wide) (both (ascii value) (both (eqb (length value) (size_of (place_at l s id))) b)))
      alone_same

fits_all_same : (l : Layout) (s t : List ℕ) → strings_in t ≡ strings_in s → Unmoved l s t → (d : Values)
    → fits_all l t d ≡ fits_all l s d
unfolding fits_all
fits_all_same l s t count un d =
    ap (λ (n : ℕ). all_edited d (fits_in_place l t) n) count
    ∙ turn_ext d d _ _ true (strings_in s) (λ i h. refl)
    (λ i h value b. ap (λ (c : Bool). both c b) (fits-same l s t count un i h value))

-- the hash slot of a string hangs only on the kinds
hashed-same : (l : Layout) (s t : List ℕ) → Restrung l s t → (id : ℕ) (value out : List ℕ)
    → hashed l t id value out ≡ hashed l s id value out
unfolding hashed
hashed-same l s t r id value out =
    rw (
      identifier_same l s t r.counts r.kinds id,
      rank_same l s t r.counts r.kinds id,
      hashes_at-same l s t r.counts,
    )

rehashed-same : (l : Layout) (s t : List ℕ) → Restrung l s t → (d : Values) (out : List ℕ)
    → rehashed l t d out ≡ rehashed l s d out
unfolding rehashed
rehashed-same l s t r d out =
    ap (λ (n : ℕ). in_turn d (hashed l t) n out) (string_count-same l s t r.counts)
    ∙ turn_ext d d (hashed l t) (hashed l s) out (strings_in s) (λ i h. refl) (λ i h value b. hashed-same l s t r i value b)

-- an image with other strings has its hash slots where they were
module _ (l : Layout) (s t : List ℕ) (r : Restrung l s t) where
  settled_in : (n p : ℕ) → Settled l s n p → Settled l t n p
  settled_in n p se = record {
    before = se.before;
    not_length = se.not_length;
    not_hash = λ h. omega (arith, small_at-same l s t r.counts, se.not_hash (omega (arith, hashes_at-same l s t r.counts)));
  }

  small-within : small_at l s ≤ length t
  small-within = let o = ordered l t in omega (arith, small_at-same l s t r.counts, o.over, o.storage, o.tail, r.admitted.room)

-- one more is below
pub next_below : (i n : ℕ) → i ≢ n → ltb i (suc n) ≡ ltb i n
next_below i n h = elim (below_or i n) [
  | inl g ↦ lt-ltb i (suc n) (omega arith) ∙ sym (lt-ltb i n g)
  | inr g ↦ le-ltb i (suc n) (omega arith) ∙ sym (le-ltb i n g)
]

-- ---- images that are the same but for hash slots, file length and footer

record Like (l : Layout) (s a b : List ℕ) : Type 0 where
  long : length a ≡ length b
  byte : (p : ℕ) → Settled l s (length b) p → get_or a p 0 ≡ get_or b p 0

like_put : (l : Layout) (s a b : List ℕ) (at : ℕ) (value : List ℕ) → Like l s a b → Like l s (sets a at value) (sets b at value)
like_put l s a b at value k = record {
  long = rw (length-sets, length-sets) k.long;
  byte = λ p se. sets_byte value a b at p k.long (k.byte p (rw (length-sets b at value) at se));
}

-- ---- a patch that sets v, then one that sets d, and the one that sets both

pub record PatchThen (m : Mode) (l : Layout) (s : List ℕ) (v d : Values) : Type 0 where
  pub first : StringsPassed m l s v
  pub next : StringsPassed m l (patched_strings m l s v) d
  pub apart : Apart v d

module _ (m : Mode) (l : Layout) (s : List ℕ) (v d : Values) (first : StringsPassed m l s v) (parted : Apart v d) where
  ad : Admitted l s
  ad = first.admitted

  abbrev w : Values
  w = joined v d

  abbrev x : List ℕ
  x = changed m l s v

  abbrev t : List ℕ
  t = patched_strings m l s v

  -- the second patch, and that of both, before hash slots, file length and footer
  abbrev y : List ℕ
  y = changed m l t d

  abbrev z : List ℕ
  z = changed m l s w

  x_frame : Restrung l s x
  x_frame = changed_restrung m l s v first

  frame : Restrung l s t
  frame = patched_restrung m l s v first

  bd : Admitted l t
  bd = frame.admitted

  near : Nearly l x t
  near = patched_near m l s v first

  like_t : Like l s t x
  like_t = record {
    long = near.long;
    byte = λ p se. near_byte l x t near p (settled_in l s x x_frame (length x) p se);
  }

  sc : strings_in t ≡ strings_in s
  sc = string_count-same l s t frame.counts

  -- where the first was in place the strings have not moved, and values fit as they did
  unmoved : fits_all l s v ≡ true → Unmoved l s t
  unmoved fits = (string_places m l s v first).1 fits

  fits_as : fits_all l s v ≡ true → fits_all l t d ≡ fits_all l s d
  fits_as fits = fits_all_same l s t sc (unmoved fits) d

  fits_w : fits_all l s w ≡ both (fits_all l s d) (fits_all l s v)
  fits_w = fits-joined l s v d parted

  away_w : fits_all l s v ≡ false → fits_all l s w ≡ false
  away_w away = fits_w ∙ rw away (both-none (fits_all l s d))

  -- ---- in place on t

  module _ (fit : fits_all l t d ≡ true) where
    -- the first was in place
    like_placed : fits_all l s v ≡ true → Like l s y z
    unfolding in_place over_old
    like_placed fits =
        let old : AllFit l s v = all_fit m l s v first fits in
        let fit-s : fits_all l s d ≡ true = sym (fits_as fits) ∙ fit in
        let x_is = changed-fits m l s v fits in
        let at : storage_at l t ≡ storage_at l s
        = (calm l x t near).storage.at
        ∙ rw x_is (storage_at-same l s (in_place l s v s) (in_places.same l s v old).tabled.words) in
        let spots : (i : ℕ) → i < strings_in s → spot l t i ≡ spot l s i
        = λ i h. rw at (ap (λ (q : Place). storage_at l s + q.at) (unmoved fits i h)) in
        let y-is : y ≡ in_turn d (over_old l s) (strings_in s) t
        = changed-fits m l t d fit ∙ ap (λ (n : ℕ). in_turn d (over_old l t) n t) sc
        ∙ turn_ext d d (over_old l t) (over_old l s) t (strings_in s) (λ i h. refl)
        (λ i h value b. ap (λ (p : ℕ). sets b p value) (spots i h)) in
        let z-is : z ≡ in_turn d (over_old l s) (strings_in s) x
        = changed-fits m l s w (fits_w ∙ rw (fit-s, fits))
        ∙ in_place_joined l s v d parted old (record { admitted = ad; fits = fit-s }) s
        ∙ ap (in_turn d (over_old l s) (strings_in s)) (sym x_is) in
        rw (y-is, z-is)
        (turn_both d (over_old l s) (Like l s) t x (strings_in s) like_t
        (λ i value a b h. like_put l s a b (spot l s i) value))

    -- it was a rebuild: each value goes over a string of its width and length
    module _ (away : fits_all l s v ≡ false) where
      abbrev f : ℕ → Str
      f = string_with l s v

      abbrev g : ℕ → Str
      g = string_with l s w

      abbrev old : Packed
      old = packed m f (strings_in s)

      x_is : x ≡ rebuild l old s
      unfolding strings_with
      x_is = changed_away m l s v away

      borne : Bears l f old x
      unfolding strings_with
      borne = rw x_is (bears l old s ad f (rebuilds m l s v first away))

      counts : Agree s x (table.function_count).at (table.overflow_count).at
      counts = x_frame.counts

      -- the strings when those below n have their values, and the image with them
      abbrev mixed : ℕ → ℕ → Str
      mixed n i = pick (ltb i n) (g i) (f i)

      abbrev image : ℕ → List ℕ
      image n = rebuild l (packed m (mixed n) (strings_in s)) s

      record Put (n : ℕ) (b : List ℕ) : Type 0 where
        like : Like l s b (image n)
        place : (i : ℕ) → placed m (mixed n) i ≡ placed m f i

      put-none : Put 0 t
      put-none =
          let e : mixed 0 ≡ f = fun_ext (λ i. rw (le-ltb i 0 (omega arith))) in
          record {
            like = rw (e, ← x_is) like_t;
            place = λ i. ap (λ (h : ℕ → Str). placed m h i) e;
          }

      put_skip : (n : ℕ) (b : List ℕ) → d n ≡ none → Put n b → Put (suc n) b
      unfolding string_with
      put_skip n b q k =
          let e : mixed (suc n) ≡ mixed n
          = fun_ext (λ i. elim (which (eqb i n)) [
            | inl p ↦ let j : i ≡ n = eqb-true i n p in rw (j, lt-ltb n (suc n) (omega arith), le-ltb n n (omega arith), q)
            | inr p ↦ ap (λ (c : Bool). pick c (g i) (f i)) (next_below i n (eqb-false i n p))
          ]) in
          record {
            like = rw e k.like;
            place = λ i. ap (λ (h : ℕ → Str). placed m h i) e ∙ k.place i;
          }

      put_next : (n : ℕ) (value b : List ℕ) → Gets d (strings_in t) n value → Put n b → Put (suc n) (over_old l t n value b)
      unfolding over_old string_with as_string
      put_next n value b gets k =
          let known : n < strings_in s = omega (arith, gets.known, sc) in
          let known-x : n < strings_in x = rw (string_count-same l s x counts) known in
          let fits = fits_each l t d (record { admitted = bd; fits = fit }) n value gets in
          let place-t : place_at l t n ≡ place_at l x n = (calm l x t near).storage.place n known-x in
          let own : mixed (suc n) n ≡ record { wide = false; bytes = value }
          = rw (lt-ltb n (suc n) (omega arith), gets.gets, plain l t n value fits) in
          let was : mixed n n ≡ f n = rw (le-ltb n n (omega arith)) in
          let re : Restated (mixed n) (mixed (suc n)) n
          = record {
            other = λ j h. ap (λ (c : Bool). pick c (g j) (f j)) (next_below j n h);
            wide =
                ap (λ (c : Str). c.wide) own ∙ sym (narrow l t n value fits) ∙ ap (λ (q : Place). q.wide) place-t
                ∙ read_wide l f old x borne n known-x ∙ ap (λ (c : Str). c.wide) (sym was);
            size =
                ap (λ (c : Str). length c.bytes) own ∙ sized l t n value fits ∙ ap (λ (q : Place). size_of q) place-t
                ∙ read_size l f old x borne n known-x ∙ ap (λ (c : Str). length c.bytes) (sym was);
          } in
          let here : ℕ = small_at l s + (strings_in s * 4 + (overs (placed m (mixed n)) (strings_in s) * 8 + start_of m (mixed n) n)) in
          let storage : storage_at l t ≡ small_at l s + strings_in s * 4 + overs (placed m f) (strings_in s) * 8
          = (calm l x t near).storage.at ∙ read_storage l f old x borne
          ∙ rw (string_count-same l s x counts, small_at-same l s x counts) in
          let start : (place_at l t n).at ≡ start_of m f n = ap (λ (q : Place). q.at) place-t ∙ read_at l f old x borne n known-x in
          let few : overs (placed m (mixed n)) (strings_in s) ≡ overs (placed m f) (strings_in s)
          = overs_ext (placed m (mixed n)) (placed m f) (strings_in s) (λ i h. k.place i) in
          let same : start_of m (mixed n) n ≡ start_of m f n = ap (λ (q : Place). q.at) (k.place n) in
          let at : spot l t n ≡ here = omega arith in
          let put : (p : ℕ) → get_or (sets (image n) here value) p 0 ≡ get_or (image (suc n)) p 0
          = λ p. sym (rebuild-put m (mixed n) (mixed (suc n)) n re l s ad known p
          ∙ ap (λ (c : Str). get_or (sets (image n) here c.bytes) p 0) own) in
          let long : length (sets (image n) here value) ≡ length (image (suc n))
          = length-sets (image n) here value ∙ sym (rebuild-long m (mixed n) (mixed (suc n)) n re l s ad known) in
          let like = like_put l s b (image n) here value k.like in
          record {
            like = rw at (record { long = like.long ∙ long; byte = λ p se. like.byte p (rw long se) ∙ put p });
            place = λ i. place_like m (mixed n) (mixed (suc n)) n re i ∙ k.place i;
          }

      put_all : Put (strings_in t) (in_place l t d t)
      unfolding in_place
      put_all = turn_along d (over_old l t) t Put (strings_in t) put-none put_skip put_next

      like_packed : Like l s y z
      unfolding strings_with
      like_packed =
          let same : (i : ℕ) → i < strings_in s → mixed (strings_in t) i ≡ g i
          = λ i h. rw (lt-ltb i (strings_in t) (omega (arith, sc))) in
          let e : image (strings_in t) ≡ z
          = rebuild_ext l (packed m (mixed (strings_in t)) (strings_in s)) (packed m g (strings_in s)) s
          (λ i h. placed_ext m (mixed (strings_in t)) g i (λ j k. same j (omega arith)))
          (store_ext m (mixed (strings_in t)) g (strings_in s) same)
          ∙ sym (changed_away m l s w (away_w away)) in
          rw (changed-fits m l t d fit, ← e) put_all.like

  -- ---- by a rebuild of t

  string_now : (i : ℕ) → i < strings_in s → string_with l t d i ≡ string_with l s w i
  unfolding string_with
  string_now i h = elim (some_or_none (d i)) [
    | inl q ↦ rw q ((string_promise m l s v first).kept.string i h)
    | inr (value, q) ↦ rw q
  ]

  like_rebuilt : fits_all l t d ≡ false → fits_all l s w ≡ false → Like l s y z
  unfolding strings_with
  like_rebuilt off away =
      let q : Packed = packed m (string_with l s w) (strings_in s) in
      let y-is : y ≡ rebuild l q t
      = changed_away m l t d off
      ∙ rebuild_ext l (packed m (string_with l t d) (strings_in t)) q t
      (λ i h. placed_ext m (string_with l t d) (string_with l s w) i (λ j k. string_now j (omega (arith, sc))))
      (ap (store_of m (string_with l t d)) sc ∙ store_ext m (string_with l t d) (string_with l s w) (strings_in s) string_now) in
      let z-is : z ≡ rebuild l q s = changed_away m l s w away in
      rw (y-is, z-is) (record { long = rebuilt_length l s t frame q; byte = rebuilt_like l s t frame q })

  -- ---- every way

  like : Like l s y z
  like = elim (which (fits_all l t d)) [
    | inl fit ↦ elim (which (fits_all l s v)) [ inl fits ↦ like_placed fit fits | inr away ↦ like_packed fit away ]
    | inr off ↦ like_rebuilt off
        (elim (which (fits_all l s v)) [ inl fits ↦ fits_w ∙ rw (sym (fits_as fits) ∙ off) | inr away ↦ away_w away ])
  ]

  -- ---- the second is judged as the patch of both

  pub joined_length : new_length m l t d ≡ new_length m l s w
  joined_length = changed-long m l t d bd ∙ like.long ∙ sym (changed-long m l s w ad)

  -- the tail goes where that patch puts it, and so does every place
  tail_same : moves_to l t (to_values m d) ≡ moves_to l s (to_values m w)
  tail_same = omega (
    arith,
    joined_length,
    new_length_lem m l t d,
    new_length_lem m l s w,
    moved-high (tail_at l t) (moves_to l t (to_values m d)) (length t) (omega (arith, bd.room)),
    moved-high (tail_at l s) (moves_to l s (to_values m w)) (length s) (omega (arith, ad.room)),
    frame.long,
    ad.room,
    bd.room,
  )

  func_goes : (j : ℕ) → j < functions_in s
      → move_func (place_after l t (to_values m d)) (func_of l t j) ≡ move_func (place_after l s (to_values m w)) (func_of l s j)
  func_goes j h =
      ap (λ (b : ℕ). move_func (moved (tail_at l t) b) (func_of l t j)) tail_same
      ∙ func_further l s t frame (moves_to l s (to_values m w)) j h

  large_same : (j : ℕ) → j < functions_in s → (func_of l t j).large ≡ (func_of l s j).large
  large_same j h = ap (λ (f : Func). f.large) (frame.func j h)

  fc : functions_in t ≡ functions_in s
  fc = functions_same l s t frame.counts

  -- a small record that cannot hold a place after the one cannot after the other
  beyond_to : Beyond l t (place_after l t (to_values m d)) → Beyond l s (place_after l s (to_values m w))
  beyond_to (j, h, u, far) =
      let k : j < functions_in s = rw fc at h in
      let e = func_goes j k in (
        j,
        k,
        sym (large_same j k) ∙ u,
        elim far [
          | inl g ↦ inl (omega (arith, ap (λ (f : Func). f.begin) e))
          | inr g ↦ inr (omega (arith, ap (λ (f : Func). f.info) e))
        ],
      )

  beyond_from : Beyond l s (place_after l s (to_values m w)) → Beyond l t (place_after l t (to_values m d))
  beyond_from (j, k, u, far) =
      let e = func_goes j k in (
        j,
        rw fc k,
        large_same j k ∙ u,
        elim far [
          | inl g ↦ inl (omega (arith, ap (λ (f : Func). f.begin) e))
          | inr g ↦ inr (omega (arith, ap (λ (f : Func). f.info) e))
        ],
      )

  pub joined-fits : patch_fits m l t d ≡ patch_fits m l s w
  joined-fits = elim (which (patch_fits m l t d)) [
    | inl a ↦ elim (which (patch_fits m l s w)) [
      | inl b ↦ a ∙ sym b
      | inr b ↦ patch_failed m l t d (beyond_from (patch_wrong m l s w b)) ∙ sym b
    ]
    | inr a ↦ a ∙ sym (patch_failed m l s w (beyond_to (patch_wrong m l t d a)))
  ]

  -- ---- the second is accepted

  module _ (next : StringsPassed m l t d) where
    y_frame : Restrung l s y
    y_frame = restrung_then l s t y frame (changed_restrung m l t d next)

    joined_bytes : (i : ℕ) → i < strings_in s → (u : List ℕ) → w i ≡ some u → AllBelow 256 u
    joined_bytes i h u e = elim (some_or_none (d i)) [
      | inl q ↦ first.bytes i h u (rw q at e)
      | inr (value, q) ↦ next.bytes i (rw sc h) u (q ∙ rw q at e)
    ]

    -- so is the patch of both
    both_passed : StringsPassed m l s w
    both_passed = record {
      admitted = ad;
      bytes = joined_bytes;
      limit = rw joined_length at next.limit;
      field = sym joined-fits ∙ next.field;
    }

    -- ---- and makes the same

    z_frame : Restrung l s z
    z_frame = changed_restrung m l s w both_passed

    -- with their hash slots
    abbrev a : List ℕ
    a = rehashed l t d y

    abbrev b : List ℕ
    b = rehashed l s w z

    near_a : Nearly l y a
    near_a = hashed_near m l t d next

    near_b : Nearly l z b
    near_b = hashed_near m l s w both_passed

    -- a byte of a hash slot
    slot_byte : (p : ℕ) → hashes_at l s ≤ p → p < small_at l s → get_or a p 0 ≡ get_or b p 0
    slot_byte p h k =
        ap (λ (q : List ℕ). get_or q p 0) (rehashed-same l s t frame d y)
        ∙ (rehashed_byte l s ad d p y (rehashed l s v z)
        (record {
          left = small-within l s y y_frame;
          right = before.right;
          byte =
              changed-hashes m l t d next p (rw (hashes_at-same l s t frame.counts) h)
              (rw (small_at-same l s t frame.counts) k)
              ∙ patched_hashes m l s v first p h k ∙ before.byte;
        })
        ).byte
        ∙ ap (λ (q : List ℕ). get_or q p 0) (sym (rehashed-joined l s v d parted z))
      where
        before : SameByte l s p (rehashed l s v x) (rehashed l s v z)
        before =
            rehashed_byte l s ad v p x z
            (record {
              left = small-within l s x x_frame;
              right = small-within l s z z_frame;
              byte = changed-hashes m l s v first p h k ∙ sym (changed-hashes m l s w both_passed p h k);
            })

    -- any other before the footer
    other_byte : (p : ℕ) → Settled l s (length z) p → get_or a p 0 ≡ get_or b p 0
    other_byte p se =
        near_byte l y a near_a p (settled_in l s y y_frame (length y) p (rw like.long se))
        ∙ like.byte p se
        ∙ sym (near_byte l z b near_b p (settled_in l s z z_frame (length z) p se))

    then_both : patched_strings m l t d ≡ patched_strings m l s w
    then_both =
        patched_is m l t d
        ∙ final_like a b (omega (arith, near_b.long, z_frame.admitted.least)) (near_a.long ∙ like.long ∙ sym near_b.long)
        (λ p h f.
        let settled : (hashes_at l s ≤ p → small_at l s ≤ p) → Settled l s (length z) p
        = λ g. record { before = rw near_b.long at h; not_length = f; not_hash = g } in
        elim (below_or p (hashes_at l s)) [
          | inl g ↦ other_byte p (settled (λ q. absurd (omega arith)))
          | inr g ↦ elim (below_or p (small_at l s)) [ inl q ↦ slot_byte p g q | inr q ↦ other_byte p (settled (λ i. q)) ]
        ])
        ∙ sym (patched_is m l s w)

module _ (m : Mode) (l : Layout) (s : List ℕ) (v d : Values) (pt : PatchThen m l s v d) where
  pub joined_passed : StringsPassed m l s (joined v d)
  joined_passed = both_passed m l s v d pt.first pt.apart pt.next

  -- A PATCH AND THEN ONE OF OTHER STRINGS ARE THE ONE PATCH OF BOTH
  pub patch_then : patched_strings m l (patched_strings m l s v) d ≡ patched_strings m l s (joined v d)
  patch_then = then_both m l s v d pt.first pt.apart pt.next

-- A body replaced by one of another length: it is the new bytes, every other body, every string, kind and hash slot and every other byte
-- of the tail but for large headers stays, and the result is admitted again.
use mathlib.Core.Path.{◌≡◌, refl, ◌∙◌}
use mathlib.Core.Bool.{Bool, true, false}
use mathlib.Core.Logic.{inl, inr, ◌≢◌}
use mathlib.Core.List.{List, [], ◌∷◌}
use Prim.Native.Nat.{ℕ, ◌+◌, ◌-◌, ◌^◌, ◌≤◌, ◌<◌}
use native.Mathlib.Omega.{arith}
use borrow.Author.Tests.{eq-eqb, ne_eqb, eqb-true, eqb-false}
use lib.Dec.{eqb}
use lib.ListN.{length, get_or}
use Rattle.bits.specs.Choice.{pick}
use Rattle.bits.proofs.TestLaws.{which}
use Rattle.bits.proofs.ListLaws.{AllBelow, below_bytes_of}
use Rattle.bits.proofs.ByteLaws.{length-bytes_of}
use Rattle.bits.proofs.WriteLaws.{number_at_back}
use Rattle.format.specs.declared.Layout.{Layout}
use Rattle.format.specs.Table as table
use Rattle.format.specs.Move.{moved}
use Rattle.format.proofs.MoveLaws.{moved-low, moved_from, Side, side}
use Rattle.footer.specs.Finalize.{size_limit}
use Rattle.image.specs.Sections.{functions_in, identifiers_in, strings_in, debug_in, kinds_at, hashes_at, small_at, storage_at, tail_at}
use Rattle.image.specs.Strings.{place_at, size_of, string_of}
use Rattle.image.specs.Kinds.{is_identifier, rank_of, hash_in}
use Rattle.image.specs.Functions.{func_of, body_of}
use Rattle.image.specs.Admitted.{Disjoint, Admitted}
use Rattle.edits.specs.Fit.{offset_row, size_row, FitsFields}
use Rattle.edits.specs.Edit.{splice, put_in, write_all, move_func}
use Rattle.edits.specs.Rebuild.{resized, resize}
use Rattle.edits.proofs.WriteLaws.{Outside}
use Rattle.edits.proofs.SlotLaws.{small-fits}
use Rattle.image.proofs.PlaceLaws.{records_at, debug-fits, debug-at, debug_past_lem, ordered}
use Rattle.edits.proofs.EditLaws.{edit_below, Change}
use Rattle.edits.proofs.ReadLaws.{Agree, number_agree, functions_same, hash_same, identifier_same, rank_same, counts_of}
use Rattle.edits.proofs.ReadLaws.{tail_at-same, SameEntries, place_same, string-same}
use Rattle.edits.proofs.BodyLaws.{Keeps, TakesBody, Parted, Holds, place_most, length_out, front_agree, floor_agree, front-number}
use Rattle.edits.proofs.BodyLaws.{front_long, func_out, tail_byte, body_kept, body_new}
use Rattle.edits.proofs.KeepLaws.{PlacedIn, edit-placed, Tabled, tabled_same, admitted_of}

-- ---- what a body patch of another length is asked for

-- where the old body ends, and where what lies there or past it goes
abbrev pub threshold : Layout → List ℕ → ℕ → ℕ
threshold l s i = (func_of l s i).begin + (func_of l s i).size

abbrev pub resized_place : Layout → ℕ → List ℕ → List ℕ → ℕ → ℕ
resized_place l i body s = moved (threshold l s i) ((func_of l s i).begin + length body)

pub record Alone (l : Layout) (i : ℕ) (body : List ℕ) (s : List ℕ) : Type 0 where
  pub admitted : Admitted l s
  pub known : i < functions_in s
  pub bytes : AllBelow 256 body
  -- 9: no other body shares a byte with it, and no empty one starts strictly within it
  pub bodies : (j : ℕ) → j < functions_in s → j ≢ i
      → Disjoint (func_of l s j).begin (func_of l s j).size (func_of l s i).begin (func_of l s i).size
  -- 9: no info place lies from its start to below the threshold; the debug offset is 0 or at or past the threshold
  pub infos : (j : ℕ) → j < functions_in s → (func_of l s j).info < threshold l s i → (func_of l s j).info < (func_of l s i).begin
  pub debug : debug_in l s ≢ 0 → threshold l s i ≤ debug_in l s
  -- 10: it is not empty
  pub some : 0 < (func_of l s i).size
  -- 11
  pub limit : length (resize l i body s) ≤ size_limit
  -- 12: what moves fits the small records, and so does the new size
  pub field : (j : ℕ) → j < functions_in s → (func_of l s j).large ≡ false
      → (resized_place l i body s (func_of l s j).begin < 2 ^ (offset_row l).width)
      × (resized_place l i body s (func_of l s j).info < 2 ^ (table.legacy_info).width)
  pub sized : (func_of l s i).large ≡ false → length body < 2 ^ (size_row l).width

-- a byte of the tail outside body i and in no large header
pub record OtherByte (l : Layout) (s : List ℕ) (i p : ℕ) : Type 0 where
  pub tail : tail_at l s ≤ p
  pub outside : p < threshold l s i → p < (func_of l s i).begin
  pub clear : (j : ℕ) → j < functions_in s → (func_of l s j).large ≡ true
      → Disjoint (func_of l s j).ptr (table.large_row l).width p 1

-- the patch as an edit
abbrev pub resizing : Layout → ℕ → List ℕ → List ℕ → Change
resizing l i body s = record {
  whole = false;
  a = (func_of l s i).begin;
  b = threshold l s i;
  new = body;
  func = λ j. pick (eqb j i) (resized (resized_place l i body s) (length body) (func_of l s j))
      (move_func (resized_place l i body s) (func_of l s j));
  words = put_in l (table.debug_row l) (resized_place l i body s (debug_in l s)) ∷ [];
  floor = tail_at l s;
  tail = tail_at l s;
}

module _ (l : Layout) (i : ℕ) (body : List ℕ) (s : List ℕ) (al : Alone l i body s) where
  ad : Admitted l s
  ad = al.admitted

  abbrev c : Change
  c = resizing l i body s

  abbrev out : List ℕ
  out = resize l i body s

  abbrev a : ℕ
  a = (func_of l s i).begin

  abbrev b : ℕ
  b = threshold l s i

  abbrev mv : ℕ → ℕ
  mv = resized_place l i body s

  own : c.func i ≡ resized mv (length body) (func_of l s i)
  own = rw (eq-eqb i i refl)

  other : (j : ℕ) → j ≢ i → c.func j ≡ move_func mv (func_of l s j)
  other j d = rw (ne_eqb j i d)

  words_off : (p : ℕ) → (table.place_in l (table.debug_row l) ≤ p
      → table.place_in l (table.debug_row l) + (table.debug_row l).width ≤ p)
      → Outside p c.words
  words_off p k = ((λ q. omega (arith, k q, length-bytes_of (table.debug_row l).width (mv (debug_in l s)))), tt)

  body_side : (j : ℕ) → j < functions_in s → j ≢ i → Side a b (func_of l s j).begin (func_of l s j).size
  body_side j h d = side a b (func_of l s j).begin (func_of l s j).size (al.bodies j h d)

  debug_side : Side a b (debug_in l s) 0
  debug_side =
      side a b (debug_in l s) 0
      (λ h.
      elim (which (eqb (debug_in l s) 0)) [
        | inl t ↦ omega (arith, eqb-true (debug_in l s) 0 t)
        | inr f ↦ absurd (omega (arith, al.debug (eqb-false (debug_in l s) 0 f)))
      ])

  keeps : (j : ℕ) → j < functions_in s → j ≢ i → Keeps l s c j
  keeps j h d = record { known = h; func = other j d; side = body_side j h d }

  takes : TakesBody l s c i
  takes = record { known = al.known; func = own; start = refl; tail = (ad.body i al.known).0 }

  parted : Parted l s c
  parted =
      let o = ordered l s in
      let (x, y) = ad.body i al.known in
      record {
        admitted = ad;
        records = omega (arith, o.hashes, o.small, o.over, o.storage, o.tail);
        under = x;
        low = omega arith;
        order = omega arith;
        room = y;
        front = λ p h. words_off p (λ q. omega (arith, records_at l, debug-at l));
        past = λ p w d h. moved_from a b (length body) p w (tail_at l s) d x h;
        header = λ j h t. side a b (func_of l s j).ptr (table.large_row l).width (ad.clear i j al.known h al.some t);
        info = λ j h. side a b (func_of l s j).info 0 (λ g. omega (arith, al.infos j h g));
        body = λ j h.
            elim (which (eqb j i)) [
              | inl t ↦ let e : j ≡ i = eqb-true j i t in inr (rw e takes)
              | inr f ↦ inl (keeps j h (eqb-false j i f))
            ];
      }

  pub length-resized : length out ≡ length s - b + (a + length body)
  unfolding resize
  length-resized = length_out l s c parted

  resized-limit : length s - b + (a + length body) ≤ size_limit
  resized-limit = rw length-resized at al.limit

  resized-field : (j : ℕ) → j < functions_in s → (c.func j).large ≡ false → FitsFields l (c.func j)
  resized-field j h = go (eqb j i) refl
    where
      go : (c : Bool) → eqb j i ≡ c → (pick c (resized mv (length body) (func_of l s j)) (move_func mv (func_of l s j))).large ≡ false
          → FitsFields l (pick c (resized mv (length body) (func_of l s j)) (move_func mv (func_of l s j)))
      go true q t =
          let e : j ≡ i = eqb-true j i q in
          let m : mv (func_of l s j).begin ≡ (func_of l s j).begin
          = moved-low b (a + length body) (func_of l s j).begin (rw e (omega (arith, al.some))) in
          record { begin = rw m at (al.field j h t).0; size = al.sized (rw e at t); info = (al.field j h t).1 }
      go false q t =
          record { begin = (al.field j h t).0; size = (small-fits l s j t).fields.size; info = (al.field j h t).1 }

  holds : Holds l s c
  holds = record { limit = resized-limit; field = resized-field }

  -- ---- functions and bodies

  -- each function is the old one at its moved places; the patched one has its new size
  pub resized_func : (j : ℕ) → j < functions_in s → func_of l out j ≡ c.func j
  unfolding resize
  resized_func = func_out l s c parted holds

  -- the patched body is the new one
  pub own_body : body_of l out i ≡ body
  unfolding resize
  own_body = body_new l s c parted holds i takes

  -- every other body has the same bytes
  pub other_body : (j : ℕ) → j < functions_in s → j ≢ i → body_of l out j ≡ body_of l s j
  unfolding resize
  other_body j h d = body_kept l s c parted holds j (keeps j h d)

  -- each other byte of the tail keeps its value at its moved place
  pub resized_tail : (p : ℕ) → OtherByte l s i p → get_or out (mv p) 0 ≡ get_or s p 0
  unfolding resize
  resized_tail p ot =
      tail_byte l s c parted p
      (record { past = ot.tail; side = side a b p 1 (λ g. omega (arith, ot.outside g)); clear = λ z. ot.clear })

  -- the debug offset moves with what it points to
  pub resized-debug : debug_in l out ≡ mv (debug_in l s)
  unfolding resize write_all
  resized-debug =
      let d = table.place_in l (table.debug_row l) in
      let w = (table.debug_row l).width in
      front-number l s c parted d w (debug-at l)
      ∙ number_at_back (splice a b body s) d w (mv (debug_in l s)) (omega (arith, debug-at l, front_long l s c parted))
      (debug-fits l _
      (omega (arith, resized-limit, place_most l s c parted (debug_in l s) (record { side = debug_side; tail = ad.debug }))))

  -- ---- strings, kinds and hash slots stay

  resized-front : (from to : ℕ) → to ≤ 64 → Agree s out from to
  unfolding resize
  resized-front from to h =
      front_agree l s c parted from to (omega arith) (λ p f k. words_off p (λ q. omega (arith, debug_past_lem l)))

  pub resized_middle : Agree s out (kinds_at l s) (tail_at l s)
  unfolding resize
  resized_middle = floor_agree l s c parted

  pub resized-words : Agree s out (table.function_count).at ((table.storage_size).at + (table.storage_size).width)
  resized-words = resized-front 40 64 (omega arith)

  resized-kinds : Agree s out (kinds_at l s) (hashes_at l s)
  resized-kinds p h k = let o = ordered l s in resized_middle p h (omega (arith, o.small, o.over, o.storage, o.tail))

  resized_tables : Agree s out (small_at l s) (storage_at l s)
  resized_tables p h k = let o = ordered l s in resized_middle p (omega (arith, o.hashes, o.small)) (omega (arith, o.tail))

  resized-stored : (j p : ℕ) → j < strings_in s → storage_at l s + (place_at l s j).at ≤ p
      → p < storage_at l s + (place_at l s j).at + size_of (place_at l s j) → get_or out p 0 ≡ get_or s p 0
  resized-stored j p h f k =
      let o = ordered l s in
      resized_middle p (omega (arith, o.hashes, o.small, o.over, o.storage)) (omega (arith, o.tail, ad.stored j h))

  same_entries : SameEntries l s out
  same_entries = record { words = resized-words; tables = resized_tables; counted = ad.overflows }

  pub resized_place_lem : (j : ℕ) → j < strings_in s → place_at l out j ≡ place_at l s j
  resized_place_lem = place_same l s out same_entries

  pub resized-string : (j : ℕ) → j < strings_in s → string_of l out j ≡ string_of l s j
  resized-string j h = string-same l s out same_entries j h (λ p f k. resized-stored j p h f k)

  pub resized_identifier : (j : ℕ) → is_identifier l out j ≡ is_identifier l s j
  resized_identifier j = identifier_same l s out (counts_of l s out resized-words) resized-kinds j

  pub resized_rank : (j : ℕ) → rank_of l out j ≡ rank_of l s j
  resized_rank j = rank_same l s out (counts_of l s out resized-words) resized-kinds j

  pub resized_hash : (r : ℕ) → r < identifiers_in s → hash_in l out r ≡ hash_in l s r
  resized_hash r h =
      let o = ordered l s in
      hash_same l s out (counts_of l s out resized-words)
      (λ p f k. resized_middle p (omega (arith, o.hashes)) (omega (arith, o.over, o.storage, o.tail))) r h

  -- ---- the result is admitted

  resized_below : AllBelow 256 out
  unfolding resize
  resized_below = edit_below l c s al.bytes (below_bytes_of (table.debug_row l).width (mv (debug_in l s)), tt) ad.bytes

  resized-placed : PlacedIn l out
  unfolding resize
  resized-placed =
      edit-placed l s c parted holds
      (record {
        functions = functions_same l s out (counts_of l s out resized-words);
        tail = tail_at-same l s out resized-words;
        debug = resized-debug;
        beside = debug_side;
      })

  resized_tabled : Tabled l out
  resized_tabled =
      tabled_same l s out ad
      (record {
        words = resized-words;
        kinds = resized-kinds;
        tables = resized_tables;
        ascii = λ j h w k q.
            let c : k < size_of (place_at l s j) = rw w (omega arith) in
            rw (resized-stored j (storage_at l s + (place_at l s j).at + k) h (omega arith) (omega arith)) (ad.narrow j h w k q);
      })

  pub resized_admitted : Admitted l out
  resized_admitted =
      let o = ordered l s in
      let (x, y) = ad.body i al.known in
      admitted_of l out
      (record {
        bytes = resized_below;
        least = omega (arith, length-resized, x, y, records_at l, o.kinds, o.hashes, o.small, o.over, o.storage, o.tail);
        most = al.limit;
        magic = number_agree s out 0 8 (resized-front 0 8 (omega arith)) 0 8 (omega arith) (omega arith) ∙ ad.magic;
        room = omega (arith, length-resized, tail_at-same l s out resized-words, x, y);
      }) resized_tabled resized-placed

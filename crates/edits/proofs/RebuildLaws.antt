-- The rebuild of an admitted image: functions move, bodies, kinds, hash slots and every byte of the tail but for large headers stay.
use mathlib.Core.Path.{◌≡◌, refl, ap, ◌∙◌}
use mathlib.Core.Bool.{Bool, true, false}
use mathlib.Core.Logic.{inl, inr, ◌≢◌}
use mathlib.Core.List.{List, [], ◌∷◌}
use Prim.Native.Nat.{ℕ, ◌+◌, ◌-◌, ◌*◌, ◌^◌, ◌≤◌, ◌<◌}
use native.Mathlib.Omega.{arith}
use borrow.Author.Tests.{eqb-true, eqb-false}
use lib.Dec.{eqb}
use lib.ListN.{length, get_or}
use Rattle.bits.specs.Choice.{pick}
use Rattle.bits.proofs.TestLaws.{which}
use Rattle.bits.proofs.ListLaws.{AllBelow}
use Rattle.bits.proofs.ByteLaws.{length-bytes_of}
use Rattle.format.specs.declared.Field.{Field}
use Rattle.format.specs.declared.Layout.{Layout}
use Rattle.format.specs.declared.Layout.TheVariants.{Modern}
use Rattle.format.specs.Table as table
use Rattle.format.specs.Record.{value_of, put_pointer}
use Rattle.format.specs.Move.{moved}
use Rattle.format.proofs.MoveLaws.{moved-high, Side}
use Rattle.format.proofs.RecordLaws.{Apart, low_row, high_row, pointer_keeps}
use Rattle.footer.specs.Finalize.{size_limit}
use Rattle.image.specs.Sections.{functions_in, identifiers_in, strings_in, debug_in, kinds_at, hashes_at, small_at, tail_at}
use Rattle.image.specs.Strings.{Str, unit_size}
use Rattle.image.specs.Kinds.{is_identifier, rank_of, hash_in}
use Rattle.image.specs.Functions.{record_in, func_of, body_of}
use Rattle.image.specs.Admitted.{Disjoint, Admitted}
use Rattle.edits.specs.Fit.{offset_row}
use Rattle.edits.specs.Edit.{put_from, put_in, put_small, pointed, move_func}
use Rattle.edits.specs.Packing.{count_of, Packed, Carries}
use Rattle.edits.specs.Rebuild.{overs, region, padded, new_tail, rebuild}
use Rattle.edits.proofs.WriteLaws.{Outside}
use Rattle.edits.proofs.SlotLaws.{small-fits}
use Rattle.image.proofs.PlaceLaws.{records_at, debug-at, debug_past_lem, ordered}
use Rattle.edits.proofs.EditLaws.{Change, record_back}
use Rattle.edits.proofs.ReadLaws.{Agree, identifier_same, rank_same, hash_same}
use Rattle.edits.proofs.BodyLaws.{Keeps, Parted, Holds, sound, length_out, front_agree, floor_agree, func_out, tail_byte}
use Rattle.edits.proofs.BodyLaws.{body_kept}

-- a place that is 0 or in the tail stands on one side of the strings
pub beside : (l : Layout) (s : List ℕ) (p : ℕ) → (p ≢ 0 → tail_at l s ≤ p) → Side (small_at l s) (tail_at l s) p 0
beside l s p h =
    let o = ordered l s in
    elim (which (eqb p 0)) [
      | inl t ↦ let e = eqb-true p 0 t in inl (omega (arith, o.kinds, o.hashes, o.small, o.over, o.storage, o.tail), omega arith)
      | inr f ↦ inr (h (eqb-false p 0 f))
    ]

-- function j has a large header
pub record Large (l : Layout) (s : List ℕ) (j : ℕ) : Type 0 where
  pub known : j < functions_in s
  pub large : (func_of l s j).large ≡ true

-- a field of a record that is no part of its pointer
pub record OffPointer (l : Layout) (g : Field) : Type 0 where
  pub low : Apart (low_row l) g
  pub high : Apart (high_row l) g

-- ---- what a rebuild is asked for

-- a string of whole units
abbrev pub Whole : Str → Type 0
Whole t = count_of t * unit_size t.wide ≡ length t.bytes

-- a string that may stand in an image: whole units, bytes, ASCII where it is narrow
pub record Valid (t : Str) : Type 0 where
  pub whole : Whole t
  pub bytes : AllBelow 256 t.bytes
  pub narrow : t.wide ≡ false → AllBelow 0x80 t.bytes

-- the new bytes of the string tables and storage, and where what lay in the tail goes
abbrev pub new_region : Layout → Packed → List ℕ → List ℕ
new_region l ps s = padded (small_at l s) (region (strings_in s) ps)

abbrev pub rebuilt_place : Layout → Packed → List ℕ → ℕ → ℕ
rebuilt_place l ps s = moved (tail_at l s) (new_tail l ps s)

-- each string stands at its place, and may stand in an image; not over the limit (11); what moves fits the small records (12)
pub record Rebuilds (l : Layout) (f : ℕ → Str) (ps : Packed) (s : List ℕ) : Type 0 where
  pub carries : Carries (strings_in s) f ps
  pub strings : (i : ℕ) → i < strings_in s → Valid (f i)
  pub limit : length (rebuild l ps s) ≤ size_limit
  pub field : (j : ℕ) → j < functions_in s → (func_of l s j).large ≡ false
      → (rebuilt_place l ps s (func_of l s j).begin < 2 ^ (offset_row l).width)
      × (rebuilt_place l ps s (func_of l s j).info < 2 ^ (table.legacy_info).width)

-- the rebuild as an edit
abbrev pub rebuilding : Layout → Packed → List ℕ → Change
rebuilding l ps s = record {
  whole = true;
  a = small_at l s;
  b = tail_at l s;
  new = new_region l ps s;
  func = λ j. move_func (rebuilt_place l ps s) (func_of l s j);
  words =
      put_from 0 table.overflow_count (overs ps.place (strings_in s))
      ∷ put_from 0 table.storage_size (length ps.store)
      ∷ put_in l (table.debug_row l) (rebuilt_place l ps s (debug_in l s))
      ∷ [];
  floor = small_at l s;
  tail = new_tail l ps s;
}

module _ (l : Layout) (ps : Packed) (s : List ℕ) (ad : Admitted l s) where
  pub words_off : (p : ℕ) → ((table.overflow_count).at ≤ p → (table.storage_size).at + (table.storage_size).width ≤ p)
      → (table.place_in l (table.debug_row l) ≤ p → table.place_in l (table.debug_row l) + (table.debug_row l).width ≤ p)
      → Outside p (rebuilding l ps s).words
  words_off p h k = (
    (λ q. omega (arith, h (omega arith), length-bytes_of 4 (overs ps.place (strings_in s)))),
    (
      (λ q. omega (arith, h (omega arith), length-bytes_of 4 (length ps.store))),
      ((λ q. omega (arith, k q, length-bytes_of (table.debug_row l).width (rebuilt_place l ps s (debug_in l s)))), tt),
    ),
  )

  keeps : (j : ℕ) → j < functions_in s → Keeps l s (rebuilding l ps s) j
  keeps j h = record { known = h; func = refl; side = inr (ad.body j h).0 }

  pub parted : Parted l s (rebuilding l ps s)
  parted =
      let o = ordered l s in
      record {
        admitted = ad;
        records = omega (arith, o.hashes, o.small);
        under = omega arith;
        low = omega (arith, o.over, o.storage, o.tail);
        order = omega (arith, o.over, o.storage, o.tail);
        room = ad.room;
        front = λ p h. words_off p (λ q. omega (arith, records_at l)) (λ q. omega (arith, records_at l, debug-at l));
        past = λ p w d h. rw (moved-high (tail_at l s) (new_tail l ps s) p h) (omega arith);
        header = λ j h t. inr (ad.header j h t).0;
        info = λ j h. beside l s (func_of l s j).info (λ z. (ad.info j h z).0);
        body = λ j h. inl (keeps j h);
      }

  pub length_rebuilt : length (rebuild l ps s) ≡ length s - tail_at l s + new_tail l ps s
  unfolding rebuild
  length_rebuilt = length_out l s (rebuilding l ps s) parted

  -- ---- header words before 56, kinds and hash slots stay

  pub rebuilt_front : (from to : ℕ) → to ≤ (table.overflow_count).at → Agree s (rebuild l ps s) from to
  unfolding rebuild
  rebuilt_front from to h =
      front_agree l s (rebuilding l ps s) parted from to (omega arith)
      (λ p f k. words_off p (λ q. omega arith) (λ q. omega (arith, debug_past_lem l)))

  pub rebuilt_middle : Agree s (rebuild l ps s) (kinds_at l s) (small_at l s)
  unfolding rebuild
  rebuilt_middle = floor_agree l s (rebuilding l ps s) parted

  pub counts_kept : Agree s (rebuild l ps s) (table.function_count).at (table.overflow_count).at
  counts_kept = rebuilt_front 40 56 (omega arith)

  pub kinds_kept : Agree s (rebuild l ps s) (kinds_at l s) (hashes_at l s)
  kinds_kept p h k = rebuilt_middle p h (omega (arith, (ordered l s).small))

  -- the identifier flag of every string, its rank, and every hash slot
  pub rebuilt_identifier : (i : ℕ) → is_identifier l (rebuild l ps s) i ≡ is_identifier l s i
  rebuilt_identifier i = identifier_same l s (rebuild l ps s) counts_kept kinds_kept i

  pub rebuilt_rank : (i : ℕ) → rank_of l (rebuild l ps s) i ≡ rank_of l s i
  rebuilt_rank i = rank_same l s (rebuild l ps s) counts_kept kinds_kept i

  pub rebuilt_hash : (r : ℕ) → r < identifiers_in s → hash_in l (rebuild l ps s) r ≡ hash_in l s r
  rebuilt_hash r h =
      hash_same l s (rebuild l ps s) counts_kept (λ p f k. rebuilt_middle p (omega (arith, (ordered l s).hashes)) k) r h

  -- ---- records

  -- of a record with a large header only the pointer's two fields are rewritten
  pub rebuilt_record : (j : ℕ) → Large l s j → (g : Field) → OffPointer l g
      → value_of g (record_in l (rebuild l ps s) j) ≡ value_of g (record_in l s j)
  unfolding rebuild pointed
  rebuilt_record j la g off =
      let n = record_in l s j in
      let f = move_func (rebuilt_place l ps s) (func_of l s j) in
      ap (value_of g)
      (record_back l (rebuilding l ps s) s
      (sound l s (rebuilding l ps s) parted) ad.bytes j la.known
      ∙ ap (λ (b : Bool). pick b (put_pointer l f.ptr n) (put_small l f n)) la.large)
      ∙ pointer_keeps l g f.ptr n off.low off.high

  -- ---- the tail

  -- each byte of the tail that is no word of a large header keeps its value at its moved place
  pub rebuilt_tail : (p : ℕ) → tail_at l s ≤ p
      → ((j : ℕ) → j < functions_in s → (func_of l s j).large ≡ true → Disjoint (func_of l s j).ptr (table.large_row l).width p 1)
      → get_or (rebuild l ps s) (rebuilt_place l ps s p) 0 ≡ get_or s p 0
  unfolding rebuild
  rebuilt_tail p h o =
      tail_byte l s (rebuilding l ps s) parted p
      (record { past = omega (arith, parted.low); side = inr h; clear = λ z. o })

  -- ---- functions and bodies

  module _ (f : ℕ → Str) (ok : Rebuilds l f ps s) where
    pub rebuilt_limit : length s - tail_at l s + new_tail l ps s ≤ size_limit
    rebuilt_limit = rw length_rebuilt at ok.limit

    pub holds : Holds l s (rebuilding l ps s)
    holds = record {
      limit = rebuilt_limit;
      field = λ j h t. record { begin = (ok.field j h t).0; size = (small-fits l s j t).fields.size; info = (ok.field j h t).1 };
    }

    -- each function is the old one at its moved places
    pub rebuilt_func : (j : ℕ) → j < functions_in s → func_of l (rebuild l ps s) j ≡ move_func (rebuilt_place l ps s) (func_of l s j)
    unfolding rebuild
    rebuilt_func = func_out l s (rebuilding l ps s) parted holds

    -- each body has the same bytes
    pub rebuilt_body : (j : ℕ) → j < functions_in s → body_of l (rebuild l ps s) j ≡ body_of l s j
    unfolding rebuild
    rebuilt_body j h = body_kept l s (rebuilding l ps s) parted holds j (keeps j h)

-- a modern record with a large header keeps its bits 24 to 45: "bit 24 stays"
pub bit24_kept : (ps : Packed) (s : List ℕ) → Admitted Modern s → (j : ℕ) → j < functions_in s
    → (func_of Modern s j).large ≡ true
    → value_of (table.fixed 24 22) (record_in Modern (rebuild Modern ps s) j) ≡ value_of (table.fixed 24 22) (record_in Modern s j)
bit24_kept ps s ad j h t =
    rebuilt_record Modern ps s ad j (record { known = h; large = t }) (table.fixed 24 22)
    (record { low = omega arith; high = omega arith })

-- The result of an edit that moves what lies behind it, and so of a rebuild, is admitted again.
use mathlib.Core.Path.{◌≡◌, ap, sym, ◌∙◌, subst}
use mathlib.Core.Bool.{true, false}
use mathlib.Core.Logic.{◌≢◌}
use mathlib.Core.List.{List, ◌++◌}
use Prim.Native.Nat.{ℕ, ◌+◌, ◌-◌, ◌≤◌, ◌<◌}
use native.Mathlib.Omega.{arith}
use lib.ListN.{length, get_or}
use Rattle.bits.specs.Bytes.{up4, zeros_to4}
use Rattle.bits.proofs.ListLaws.{AllBelow, below_append, below_zeros, below_bytes_of}
use Rattle.format.specs.declared.Layout.{Layout}
use Rattle.format.specs.Table as table
use Rattle.format.specs.Record.{value_of}
use Rattle.format.specs.Number.{number_held}
use Rattle.format.specs.Entry.{Place}
use Rattle.format.proofs.MoveLaws.{Side}
use Rattle.footer.specs.Footer.{footer_length}
use Rattle.footer.specs.Finalize.{size_limit}
use Rattle.image.specs.Sections.{functions_in, kinds_in, identifiers_in, strings_in, overflows_in, storage_in, debug_in}
use Rattle.image.specs.Sections.{kinds_at, hashes_at, small_at, storage_at, tail_at}
use Rattle.image.specs.Strings.{is_full, over_before, small_in, place_at, size_of, Str}
use Rattle.image.specs.Kinds.{kind_in, covered, identified}
use Rattle.image.specs.Functions.{Func, func_of}
use Rattle.image.specs.Admitted.{Disjoint, Admitted}
use Rattle.edits.specs.Packing.{Packed}
use Rattle.edits.specs.Rebuild.{smalls, pairs, region, padded, rebuild}
use Rattle.image.proofs.PlaceLaws.{records_at, ordered}
use Rattle.edits.proofs.EditLaws.{edit_below, Change, edited, HeadersApart}
use Rattle.edits.proofs.ReadLaws.{Agree, number_agree, functions_same, identifier_count-same, string_count-same}
use Rattle.edits.proofs.ReadLaws.{covered_all, identified_all, func_same, counts_of, overflow_count-same, storage_size-same}
use Rattle.edits.proofs.ReadLaws.{storage_at-same, tail_at-same, small_same, before_same, place_same}
use Rattle.edits.proofs.BodyLaws.{moved_by, Parted, Holds, HeadersClear, place_in, header_in_lem, body_in, info_in, headers_apart_lem}
use Rattle.edits.proofs.BodyLaws.{body_apart_lem, length_out, func_out}
use Rattle.edits.proofs.TableLaws.{smalls_below, pairs_below}
use Rattle.edits.proofs.RebuildLaws.{beside, new_region, Rebuilds, rebuilding, parted, holds, length_rebuilt, rebuilt_front}
use Rattle.edits.proofs.RebuildLaws.{counts_kept, kinds_kept}
use Rattle.edits.proofs.RegionLaws.{NarrowIn, Bears, read_within, read_narrow, read_overflows, read_index}
use Rattle.edits.proofs.StringLaws.{tail_is, rebuilt_debug, bears}

-- ---- functions

-- what admission says of n functions and the debug place, in an image of `long` bytes
pub record FunctionsPlaced (l : Layout) (n tail long debug_place : ℕ) (fs : ℕ → Func) : Type 0 where
  pub header : (i : ℕ) → i < n → (fs i).large ≡ true → (tail ≤ (fs i).ptr)
      × ((fs i).ptr + (table.large_row l).width + footer_length ≤ long)
  pub body : (i : ℕ) → i < n → (tail ≤ (fs i).begin) × ((fs i).begin + (fs i).size + footer_length ≤ long)
  pub info : (i : ℕ) → i < n → (fs i).info ≢ 0 → (tail ≤ (fs i).info) × ((fs i).info + 0 + footer_length ≤ long)
  pub debug : debug_place ≢ 0 → (tail ≤ debug_place) × (debug_place + 0 + footer_length ≤ long)
  pub apart : HeadersApart l n fs
  pub clear : HeadersClear l n fs

abbrev pub PlacedIn : Layout → List ℕ → Type 0
PlacedIn l s = FunctionsPlaced l (functions_in s) (tail_at l s) (length s) (debug_in l s) (func_of l s)

-- it holds of the same functions
pub placed_as : (l : Layout) (n tail long d : ℕ) (fs gs : ℕ → Func) → ((j : ℕ) → j < n → fs j ≡ gs j)
    → FunctionsPlaced l n tail long d fs → FunctionsPlaced l n tail long d gs
placed_as l n tail long d fs gs e pl = record {
  header = λ i h.
      subst (λ (f : Func). f.large ≡ true → (tail ≤ f.ptr) × (f.ptr + (table.large_row l).width + footer_length ≤ long)) (e i h)
      (pl.header i h);
  body = λ i h. subst (λ (f : Func). (tail ≤ f.begin) × (f.begin + f.size + footer_length ≤ long)) (e i h) (pl.body i h);
  info = λ i h. subst (λ (f : Func). f.info ≢ 0 → (tail ≤ f.info) × (f.info + 0 + footer_length ≤ long)) (e i h)
      (pl.info i h);
  debug = pl.debug;
  apart = λ i j h k d.
      let w : ℕ = (table.large_row l).width in
      subst (λ (f : Func). f.large ≡ true → (gs j).large ≡ true → Disjoint f.ptr w (gs j).ptr w) (e i h)
      (λ t. subst (λ (f : Func). f.large ≡ true → Disjoint (fs i).ptr w f.ptr w) (e j k) (pl.apart i j h k d t));
  clear = λ i j h k.
      subst (λ (f : Func). 0 < f.size → (gs j).large ≡ true → Disjoint (gs j).ptr (table.large_row l).width f.begin f.size)
      (e i h)
      (λ z.
      subst (λ (f : Func). f.large ≡ true → Disjoint f.ptr (table.large_row l).width (fs i).begin (fs i).size) (e j k)
      (pl.clear i j h k z));
}

-- the header of the result of an edit: as many functions, the tail and the debug offset where they go
pub record HeaderMoved (l : Layout) (s : List ℕ) (c : Change) : Type 0 where
  pub functions : functions_in (edited l c s) ≡ functions_in s
  pub tail : tail_at l (edited l c s) ≡ c.tail
  pub debug : debug_in l (edited l c s) ≡ moved_by c (debug_in l s)
  pub beside : Side c.a c.b (debug_in l s) 0

-- after an edit that moves what lies behind it
pub edit-placed : (l : Layout) (s : List ℕ) (c : Change) (pt : Parted l s c) (hd : Holds l s c) → HeaderMoved l s c
    → PlacedIn l (edited l c s)
edit-placed l s c pt hd he =
    rw (he.functions, he.tail, he.debug, length_out l s c pt)
    (placed_as l (functions_in s) c.tail (length s - c.b + (c.a + length c.new)) (moved_by c (debug_in l s)) c.func
    (func_of l (edited l c s))
    (λ j h. sym (func_out l s c pt hd j h))
    (record {
      header = header_in_lem l s c pt;
      body = body_in l s c pt;
      info = info_in l s c pt;
      debug = place_in l s c pt (debug_in l s) (record { side = he.beside; tail = pt.admitted.debug });
      apart = headers_apart_lem l s c pt;
      clear = body_apart_lem l s c pt;
    }))

-- ---- kinds and strings

-- what admission says of kinds and strings
pub record Tabled (l : Layout) (s : List ℕ) : Type 0 where
  pub covers : covered (kind_in l s) (kinds_in s) ≡ strings_in s
  pub identifiers : identified (kind_in l s) (kinds_in s) ≡ identifiers_in s
  pub overflows : over_before (small_in l s) (strings_in s) ≡ overflows_in s
  pub numbered : (i : ℕ) → i < strings_in s → is_full (small_in l s i) ≡ true
      → value_of table.entry_offset (small_in l s i) ≡ over_before (small_in l s) i
  pub stored : (i : ℕ) → i < strings_in s → (place_at l s i).at + size_of (place_at l s i) ≤ storage_in s
  pub narrow : NarrowIn l s s

-- it holds where tables and storage are those of packed strings
pub bears_tabled : (l : Layout) (f : ℕ → Str) (q : Packed) (s : List ℕ) → Bears l f q s
    → covered (kind_in l s) (kinds_in s) ≡ strings_in s
    → identified (kind_in l s) (kinds_in s) ≡ identifiers_in s → Tabled l s
bears_tabled l f q s b c i = record {
  covers = c;
  identifiers = i;
  overflows = read_overflows l f q s b;
  numbered = read_index l f q s b;
  stored = read_within l f q s b;
  narrow = read_narrow l f q s b;
}

-- the same words of the header, kinds and tables, and ASCII in narrow strings
pub record SameTables (l : Layout) (s t : List ℕ) : Type 0 where
  pub words : Agree s t (table.function_count).at ((table.storage_size).at + (table.storage_size).width)
  pub kinds : Agree s t (kinds_at l s) (hashes_at l s)
  pub tables : Agree s t (small_at l s) (storage_at l s)
  pub ascii : NarrowIn l s t

-- it hangs only on these
pub tabled_same : (l : Layout) (s t : List ℕ) → Admitted l s → SameTables l s t → Tabled l t
tabled_same l s t ad sm =
    let words = sm.words in
    let tables = sm.tables in
    let counts = counts_of l s t words in
    let sc = string_count-same l s t counts in
    let known : (i : ℕ) → i < strings_in t → i < strings_in s = λ i h. rw sc at h in
    let place = place_same l s t (record { words = words; tables = tables; counted = ad.overflows }) in
    record {
      covers = covered_all l s t counts sm.kinds ∙ ad.covers ∙ sym sc;
      identifiers = identified_all l s t counts sm.kinds ∙ ad.identifiers ∙ sym (identifier_count-same l s t counts);
      overflows = rw (sc, overflow_count-same l s t words) (before_same l s t words tables (strings_in s) (omega arith) ∙ ad.overflows);
      numbered = λ i h f.
          let e = small_same l s t words tables i (known i h) in
          ap (value_of table.entry_offset) e
          ∙ ad.numbered i (known i h) (ap is_full (sym e) ∙ f)
          ∙ sym (before_same l s t words tables i (omega (arith, known i h)));
      stored = λ i h. rw (place i (known i h), storage_size-same l s t words) (ad.stored i (known i h));
      narrow = λ i h.
          subst (λ (p : Place). p.wide ≡ false → (j : ℕ) → j < p.count → get_or t (storage_at l t + p.at + j) 0 < 0x80)
          (sym (place i (known i h)))
          (rw (storage_at-same l s t words) (sm.ascii i (known i h)));
    }

-- ---- both, with sizes and magic number, are all of admission

-- what admission says of the bytes, the length and the magic number
pub record WholeSized (l : Layout) (s : List ℕ) : Type 0 where
  pub bytes : AllBelow 256 s
  pub least : table.header_length + footer_length ≤ length s
  pub most : length s ≤ size_limit
  pub magic : number_held table.magic s ≡ table.magic_number
  pub room : tail_at l s + footer_length ≤ length s

pub admitted_of : (l : Layout) (s : List ℕ) → WholeSized l s → Tabled l s → PlacedIn l s → Admitted l s
admitted_of l s sz tb pl = record {
  bytes = sz.bytes;
  least = sz.least;
  most = sz.most;
  magic = sz.magic;
  room = sz.room;
  covers = tb.covers;
  identifiers = tb.identifiers;
  overflows = tb.overflows;
  numbered = tb.numbered;
  stored = tb.stored;
  narrow = tb.narrow;
  header = pl.header;
  body = pl.body;
  info = pl.info;
  debug = pl.debug;
  apart = pl.apart;
  clear = pl.clear;
}

-- ---- an image that differs only in what admission does not read

-- of the same length, with the same magic number, counts, debug offset, records, kinds, tables and large headers; ASCII in narrow strings
pub record Same (l : Layout) (s t : List ℕ) : Type 0 where
  pub long : length t ≡ length s
  pub bytes : AllBelow 256 t
  pub magic : Agree s t (table.magic).at (table.magic).width
  pub tabled : SameTables l s t
  pub debug : debug_in l t ≡ debug_in l s
  pub records : Agree s t (table.record_row l).at (kinds_at l s)
  pub headers : (i : ℕ) → i < functions_in s → (func_of l s i).large ≡ true
      → Agree s t (func_of l s i).ptr ((func_of l s i).ptr + (table.large_row l).width)

module _ (l : Layout) (s t : List ℕ) (ad : Admitted l s) (sm : Same l s t) where
  -- its functions are the same
  pub funcs_same : (i : ℕ) → i < functions_in s → func_of l t i ≡ func_of l s i
  funcs_same i h =
      func_same l s t (record { counts = counts_of l s t sm.tabled.words; records = sm.records }) i h (sm.headers i h)

  -- it is admitted
  pub same_admitted : Admitted l t
  same_admitted =
      let n = sm.long in
      let tl = tail_at-same l s t sm.tabled.words in
      admitted_of l t
      (record {
        bytes = sm.bytes;
        least = rw n ad.least;
        most = rw n ad.most;
        magic = number_agree s t 0 8 sm.magic 0 8 (omega arith) (omega arith) ∙ ad.magic;
        room = rw (n, tl) ad.room;
      })
      (tabled_same l s t ad sm.tabled)
      (rw (functions_same l s t (counts_of l s t sm.tabled.words), tl, n, sm.debug)
      (placed_as l (functions_in s) (tail_at l s) (length s) (debug_in l s) (func_of l s) (func_of l t) (λ j h. sym (funcs_same j h))
      (record { header = ad.header; body = ad.body; info = ad.info; debug = ad.debug; apart = ad.apart; clear = ad.clear })))

-- ---- the bytes of a rebuilt image are bytes

region_below : (l : Layout) (ps : Packed) (s : List ℕ) → AllBelow 256 ps.store → AllBelow 256 (new_region l ps s)
unfolding padded region
region_below l ps s h =
    let n : ℕ = strings_in s in
    below_append 256 (omega arith) (region n ps) (zeros_to4 (small_at l s + length (region n ps)))
    (below_append 256 (omega arith) (smalls ps.place n) (pairs ps.place n ++ ps.store) (smalls_below ps.place n)
    (below_append 256 (omega arith) (pairs ps.place n) ps.store (pairs_below ps.place n) h))
    (below_zeros 256 (omega arith) (up4 (small_at l s + length (region n ps)) - (small_at l s + length (region n ps))))

-- ---- the rebuild

module _ (l : Layout) (ps : Packed) (s : List ℕ) (ad : Admitted l s) (f : ℕ → Str) (ok : Rebuilds l f ps s) where
  rebuilt_below : AllBelow 256 (rebuild l ps s)
  unfolding rebuild
  rebuilt_below =
      edit_below l (rebuilding l ps s) s
      (region_below l ps s (ok.carries.bytes 256 (omega arith) (λ i h. (ok.strings i h).bytes)))
      (below_bytes_of 4 _, (below_bytes_of 4 _, (below_bytes_of (table.debug_row l).width _, tt))) ad.bytes

  rebuilt_placed : PlacedIn l (rebuild l ps s)
  unfolding rebuild
  rebuilt_placed =
      edit-placed l s (rebuilding l ps s) (parted l ps s ad) (holds l ps s ad f ok)
      (record {
        functions = functions_same l s (rebuild l ps s) (counts_kept l ps s ad);
        tail = tail_is l ps s ad f ok;
        debug = rebuilt_debug l ps s ad f ok;
        beside = beside l s (debug_in l s) (λ z. (ad.debug z).0);
      })

  rebuilt_tabled : Tabled l (rebuild l ps s)
  rebuilt_tabled =
      let t : List ℕ = rebuild l ps s in
      let counts = counts_kept l ps s ad in
      let kinds = kinds_kept l ps s ad in
      bears_tabled l f ps t (bears l ps s ad f ok) (covered_all l s t counts kinds ∙ ad.covers ∙ sym (string_count-same l s t counts))
      (identified_all l s t counts kinds ∙ ad.identifiers ∙ sym (identifier_count-same l s t counts))

  -- a rebuilt image is admitted
  pub rebuilt_admitted : Admitted l (rebuild l ps s)
  rebuilt_admitted =
      let t : List ℕ = rebuild l ps s in
      let o = ordered l s in
      let n = length_rebuilt l ps s ad in
      admitted_of l t
      (record {
        bytes = rebuilt_below;
        least = omega (arith, n, ad.room, records_at l, o.kinds, o.hashes, o.small);
        most = ok.limit;
        magic = number_agree s t 0 8 (rebuilt_front l ps s ad 0 8 (omega arith)) 0 8 (omega arith) (omega arith) ∙ ad.magic;
        room = omega (arith, n, tail_is l ps s ad f ok, ad.room);
      }) rebuilt_tabled rebuilt_placed

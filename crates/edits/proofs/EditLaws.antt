-- What an edit leaves: its functions are the new ones, every other byte is the splice's.
use mathlib.Core.Path.{◌≡◌, refl, ap, sym, ◌∙◌}
use mathlib.Core.Bool.{Bool, true, false}
use mathlib.Core.Logic.{◌≢◌}
use mathlib.Core.List.{List, []}
use Prim.Native.Nat.{ℕ, ◌+◌, ◌≤◌, ◌<◌}
use native.Mathlib.Nat.{add_assoc}
use native.Mathlib.Omega.{arith}
use lib.ListN.{length, get_or}
use lib.Seq.{sets, length-sets}
use Rattle.bits.specs.Choice.{pick}
use Rattle.bits.specs.Bytes.{bytes_of, number}
use Rattle.bits.proofs.ListLaws.{AllBelow, below_bytes_of}
use Rattle.bits.proofs.ByteLaws.{bytes_at-is, number_at_ext, number_at-lt, length-bytes_of, number_back}
use Rattle.bits.proofs.WriteLaws.{sets_in, number_at_back, number_at_off}
use Rattle.format.specs.declared.Layout.{Layout}
use Rattle.format.specs.declared.Layout.TheVariants.{Modern, Legacy}
use Rattle.format.specs.Table as table
use Rattle.format.specs.Record.{is_large, pointer}
use Rattle.image.specs.Sections.{functions_in, record_at, kinds_at}
use Rattle.image.specs.Functions.{Func, small, header, record_in, func_of}
use Rattle.image.specs.Admitted.{Disjoint}
use Rattle.edits.specs.Fit.{FitsWords}
use Rattle.edits.specs.Edit.{splice, Write, write_all, groups, put_record, put_header, record_group, header_group, edit}
use Rattle.edits.proofs.WriteLaws.{Outside, Bytes, length_writes, writes_off, writes_below, groups_off, groups-at}
use Rattle.edits.proofs.WriteLaws.{groups_below, splice-low, splice_below}
use Rattle.edits.proofs.SlotLaws.{SmallFits, func_eq, record_lt, record_flag, record_pointer, record_small}
use Rattle.image.proofs.PlaceLaws.{records_at, ordered, record_in_lem}

-- ---- records stand one behind the other

records_apart : (l : Layout) (i j k : ℕ) → j ≢ i → k < (table.record_row l).width → record_at l j ≤ record_at l i + k
    → record_at l j + (table.record_row l).width ≤ record_at l i + k
records_apart Modern i j k n h = omega arith
records_apart (Legacy big sources) i j k n h = omega arith

-- ---- which bytes a function's writes touch

own_off : (l : Layout) (f : Func) (p : ℕ) → (f.ptr ≤ p → f.ptr + (table.large_row l).width ≤ p) → Outside p (put_header l f)
unfolding put_header
own_off Modern f p k = (
  (λ q. omega (arith, k (omega arith), length-bytes_of 4 f.begin)),
  ((λ q. omega (arith, k (omega arith), length-bytes_of 4 f.size)), tt),
)
own_off (Legacy big sources) f p k = (
  (λ q. omega (arith, k (omega arith), length-bytes_of 4 f.begin)),
  (
    (λ q. omega (arith, k (omega arith), length-bytes_of 4 f.size)),
    ((λ q. omega (arith, k (omega arith), length-bytes_of 4 f.info)), tt),
  ),
)

pub header_off : (l : Layout) (fs : ℕ → Func) (j p : ℕ)
    → ((fs j).large ≡ true → (fs j).ptr ≤ p → (fs j).ptr + (table.large_row l).width ≤ p) → Outside p (header_group l fs j)
unfolding header_group
header_off l fs j p h = go (fs j).large h
  where
    go : (b : Bool) → (b ≡ true → (fs j).ptr ≤ p → (fs j).ptr + (table.large_row l).width ≤ p)
        → Outside p (pick b (put_header l (fs j)) [])
    go true k = own_off l (fs j) p (k refl)
    go false k = tt

pub record_off : (l : Layout) (whole : Bool) (s : List ℕ) (fs : ℕ → Func) (j p : ℕ)
    → (record_at l j ≤ p → record_at l j + (table.record_row l).width ≤ p)
    → Outside p (record_group l whole s fs j)
unfolding record_group
record_off l whole s fs j p h = ((λ q. rw length-bytes_of (h q)), tt)

-- ---- they are bytes

own_bytes : (l : Layout) (f : Func) → Bytes (put_header l f)
unfolding put_header
own_bytes Modern f = (below_bytes_of 4 f.begin, (below_bytes_of 4 f.size, tt))
own_bytes (Legacy big sources) f = (below_bytes_of 4 f.begin, (below_bytes_of 4 f.size, (below_bytes_of 4 f.info, tt)))

header_bytes : (l : Layout) (fs : ℕ → Func) (j : ℕ) → Bytes (header_group l fs j)
unfolding header_group
header_bytes l fs j = go (fs j).large
  where
    go : (b : Bool) → Bytes (pick b (put_header l (fs j)) [])
    go true = own_bytes l (fs j)
    go false = tt

record_bytes : (l : Layout) (whole : Bool) (s : List ℕ) (fs : ℕ → Func) (j : ℕ) → Bytes (record_group l whole s fs j)
unfolding record_group
record_bytes l whole s fs j = (below_bytes_of (table.record_row l).width (put_record l whole (fs j) (record_in l s j)), tt)

-- ---- a large header's own words

-- what they can hold: modern ones no info place
pub record HeaderFits (l : Layout) (f : Func) : Type 0 where
  pub words : FitsWords f
  pub modern : l ≡ Modern → f.info ≡ 0

own_back : (l : Layout) (f : Func) (s : List ℕ) → f.large ≡ true → f.ptr + (table.large_row l).width ≤ length s → HeaderFits l f
    → header l f.ptr (write_all (put_header l f) s) ≡ f
unfolding header put_header write_all
own_back Modern f s t h k =
    let p : ℕ = f.ptr in
    let s₁ : List ℕ = sets s (p + 0) (bytes_of 4 f.begin) in
    let n₁ : length s₁ ≡ length s = length-sets s (p + 0) (bytes_of 4 f.begin) in
    func_eq _ _
    (record {
      large = sym t;
      ptr = refl;
      begin = number_at_off s₁ (p + 12) 4 f.size (p + 0) 4 (omega arith)
          ∙ number_at_back s (p + 0) 4 f.begin (omega arith) k.words.begin;
      size = number_at_back s₁ (p + 12) 4 f.size (omega arith) k.words.size;
      info = sym (k.modern refl);
    })
own_back (Legacy big sources) f s t h k =
    let p : ℕ = f.ptr in
    let s₁ : List ℕ = sets s (p + 0) (bytes_of 4 f.begin) in
    let n₁ : length s₁ ≡ length s = length-sets s (p + 0) (bytes_of 4 f.begin) in
    let s₂ : List ℕ = sets s₁ (p + 8) (bytes_of 4 f.size) in
    let n₂ : length s₂ ≡ length s₁ = length-sets s₁ (p + 8) (bytes_of 4 f.size) in
    func_eq _ _
    (record {
      large = sym t;
      ptr = refl;
      begin = number_at_off s₂ (p + 16) 4 f.info (p + 0) 4 (omega arith)
          ∙ number_at_off s₁ (p + 8) 4 f.size (p + 0) 4 (omega arith)
          ∙ number_at_back s (p + 0) 4 f.begin (omega arith) k.words.begin;
      size = number_at_off s₂ (p + 16) 4 f.info (p + 8) 4 (omega arith)
          ∙ number_at_back s₁ (p + 8) 4 f.size (omega arith) k.words.size;
      info = number_at_back s₂ (p + 16) 4 f.info (omega arith) k.words.info;
    })

-- a header hangs only on its words
pub header_ext : (l : Layout) (p : ℕ) (s t : List ℕ)
    → ((k : ℕ) → k < (table.large_row l).width → get_or s (p + k) 0 ≡ get_or t (p + k) 0) → header l p s ≡ header l p t
unfolding header
header_ext Modern p s t h =
    rw (
      number_at_ext s t 4 (p + 0) (p + 0) (λ j k. simp add_assoc (h (0 + j) (omega arith))),
      number_at_ext s t 4 (p + 12) (p + 12) (λ j k. simp add_assoc (h (12 + j) (omega arith))),
    )
header_ext (Legacy big sources) p s t h =
    rw (
      number_at_ext s t 4 (p + 0) (p + 0) (λ j k. simp add_assoc (h (0 + j) (omega arith))),
      number_at_ext s t 4 (p + 8) (p + 8) (λ j k. simp add_assoc (h (8 + j) (omega arith))),
      number_at_ext s t 4 (p + 16) (p + 16) (λ j k. simp add_assoc (h (16 + j) (omega arith))),
    )

-- ---- the edit

-- what a function must be for its record to hold it
pub record RecordHolds (l : Layout) (f : Func) : Type 0 where
  pub as_large : f.large ≡ true → HeaderFits l f
  pub as_small : f.large ≡ false → SmallFits l f

-- an edit: whether every large pointer is written, the new bytes for those from a to b, the functions that are to be, words of the header.
-- It leaves what lies between the records and a floor, and the tail of its result starts at `tail`
pub record Change : Type 0 where
  pub whole : Bool
  pub a : ℕ
  pub b : ℕ
  pub new : List ℕ
  pub func : ℕ → Func
  pub words : List Write
  pub floor : ℕ
  pub tail : ℕ

abbrev pub spliced : Change → List ℕ → List ℕ
spliced c s = splice c.a c.b c.new s

abbrev pub edited : Layout → Change → List ℕ → List ℕ
edited l c s = edit l c.whole c.a c.b c.new c.func c.words s

-- it makes bytes of bytes
pub edit_below : (l : Layout) (c : Change) (s : List ℕ) → AllBelow 256 c.new → Bytes c.words → AllBelow 256 s
    → AllBelow 256 (edited l c s)
unfolding edit
edit_below l c s n w h =
    groups_below (header_group l c.func)
    (write_all (groups (functions_in s) (record_group l c.whole s c.func)) (write_all c.words (spliced c s))) (functions_in s)
    (header_bytes l c.func)
    (groups_below (record_group l c.whole s c.func) (write_all c.words (spliced c s)) (functions_in s)
    (record_bytes l c.whole s c.func)
    (writes_below c.words (spliced c s) w (splice_below c.a c.b c.new s n h)))

-- no two large headers of n functions share a byte
abbrev pub HeadersApart : Layout → ℕ → (ℕ → Func) → Type 0
HeadersApart l n fs =
    (i j : ℕ) → i < n → j < n → i ≢ j → (fs i).large ≡ true → (fs j).large ≡ true
    → Disjoint (fs i).ptr (table.large_row l).width (fs j).ptr (table.large_row l).width

-- what it needs: the records before the floor, the floor at or before the bytes that are replaced; header words past the floor, within the
-- result, apart
pub record Sound (l : Layout) (c : Change) (s : List ℕ) : Type 0 where
  pub records : kinds_at l s ≤ c.floor
  pub under : c.floor ≤ c.a
  pub start : c.a ≤ length s
  pub fits : c.a ≤ length (spliced c s)
  pub front : (p : ℕ) → (table.record_row l).at ≤ p → Outside p c.words
  pub past : (j : ℕ) → j < functions_in s → (c.func j).large ≡ true → c.floor ≤ (c.func j).ptr
  pub within : (j : ℕ) → j < functions_in s → (c.func j).large ≡ true
      → (c.func j).ptr + (table.large_row l).width ≤ length (spliced c s)
  pub apart : HeadersApart l (functions_in s) c.func

-- function i of the image has a place for the new one
pub record Replaced (l : Layout) (c : Change) (s : List ℕ) (i : ℕ) : Type 0 where
  pub known : i < functions_in s
  pub fits : RecordHolds l (c.func i)
  pub flag : is_large l (record_in l s i) ≡ (c.func i).large

module _ (l : Layout) (c : Change) (s : List ℕ) (ok : Sound l c s) where
  abbrev fs : ℕ → Func
  fs = c.func

  abbrev out : List ℕ
  out = edited l c s

  -- the edit before the large headers' words, and before the records
  abbrev recorded : List ℕ
  recorded = write_all (groups (functions_in s) (record_group l c.whole s fs)) (write_all c.words (spliced c s))

  abbrev worded : List ℕ
  worded = write_all c.words (spliced c s)

  pub length-edit : length out ≡ length (spliced c s)
  unfolding edit
  length-edit = simp length_writes

  -- a byte past the records that no header word takes is the splice's
  pub edit_frame : (p : ℕ) → kinds_at l s ≤ p
      → ((j : ℕ) → j < functions_in s → (fs j).large ≡ true → (fs j).ptr ≤ p → (fs j).ptr + (table.large_row l).width ≤ p)
      → get_or out p 0 ≡ get_or (spliced c s) p 0
  unfolding edit
  edit_frame p h o =
      groups_off (header_group l fs) recorded p (functions_in s) (λ j k. header_off l fs j p (o j k))
      ∙ groups_off (record_group l c.whole s fs) worded p (functions_in s)
      (λ j k. record_off l c.whole s fs j p (λ q. omega (arith, record_in_lem l s j k)))
      ∙ writes_off c.words (spliced c s) p (ok.front p (omega (arith, records_at l, (ordered l s).kinds)))

  -- a byte between the records and the floor stays
  pub edit_kept : (p : ℕ) → kinds_at l s ≤ p → p < c.floor → get_or out p 0 ≡ get_or s p 0
  edit_kept p h k =
      edit_frame p h (λ j q t u. omega (arith, ok.past j q t))
      ∙ splice-low c.a c.b c.new s ok.start p (omega (arith, ok.under))

  -- a byte before the records is what the header's writes leave
  pub edit-front : (p : ℕ) → p < (table.record_row l).at → get_or out p 0 ≡ get_or worded p 0
  unfolding edit
  edit-front p h =
      groups_off (header_group l fs) recorded p (functions_in s)
      (λ j q. header_off l fs j p (λ t u. omega (arith, ok.past j q t, ok.records, records_at l, (ordered l s).kinds)))
      ∙ groups_off (record_group l c.whole s fs) worded p (functions_in s) (λ j k. record_off l c.whole s fs j p (omega arith))

  -- byte k of record i, and so the record
  record_byte : (i k : ℕ) → i < functions_in s → k < (table.record_row l).width
      → get_or out (record_at l i + k) 0 ≡ get_or (bytes_of (table.record_row l).width (put_record l c.whole (fs i) (record_in l s i))) k 0
  unfolding edit record_group write_all
  record_byte i k h g =
      let e : record_at l i + (table.record_row l).width ≤ kinds_at l s = record_in_lem l s i h in
      groups_off (header_group l fs) recorded (record_at l i + k) (functions_in s)
      (λ j q. header_off l fs j (record_at l i + k) (λ t u. omega (arith, ok.past j q t, ok.records)))
      ∙ groups-at (record_group l c.whole s fs) worded (record_at l i + k) (functions_in s) i h
      (λ j q d. record_off l c.whole s fs j (record_at l i + k) (records_apart l i j k d g))
      ∙ rw (length-bytes_of, length_writes) at
      (sets_in (bytes_of (table.record_row l).width (put_record l c.whole (fs i) (record_in l s i))) worded (record_at l i) k)
      (omega (arith, ok.records, ok.under, ok.fits)) g

  pub record_back : AllBelow 256 s → (i : ℕ) → i < functions_in s
      → record_in l out i ≡ put_record l c.whole (fs i) (record_in l s i)
  unfolding record_in
  record_back bytes i h =
      let n : ℕ = put_record l c.whole (fs i) (record_in l s i) in
      ap number (bytes_at-is out (bytes_of (table.record_row l).width n) (record_at l i) (table.record_row l).width
      (length-bytes_of (table.record_row l).width n) (λ k g. record_byte i k h g))
      ∙ number_back (table.record_row l).width n
      (record_lt l c.whole (fs i) (record_in l s i) (number_at-lt s (record_at l i) (table.record_row l).width bytes))

  -- byte k of the header of function i, and so the header
  header_byte : (i k : ℕ) → i < functions_in s → (fs i).large ≡ true → k < (table.large_row l).width
      → get_or out ((fs i).ptr + k) 0 ≡ get_or (write_all (header_group l fs i) recorded) ((fs i).ptr + k) 0
  unfolding edit
  header_byte i k h t g =
      groups-at (header_group l fs) recorded ((fs i).ptr + k) (functions_in s) i h
      (λ j q d. header_off l fs j ((fs i).ptr + k) (λ u v. omega (arith, ok.apart j i q h d u t (omega arith))))

  header_back : (i : ℕ) → i < functions_in s → (fs i).large ≡ true → HeaderFits l (fs i) → header l (fs i).ptr out ≡ fs i
  unfolding header_group
  header_back i h t f =
      header_ext l (fs i).ptr out (write_all (header_group l fs i) recorded) (λ k g. header_byte i k h t g)
      ∙ ap (λ (x : Bool). header l (fs i).ptr (write_all (pick x (put_header l (fs i)) []) recorded)) t
      ∙ own_back l (fs i) recorded t (simp length_writes (ok.within i h t)) f

  -- function i of the result is the new function i
  pub edit_func : AllBelow 256 s → (i : ℕ) → Replaced l c s i → func_of l out i ≡ fs i
  unfolding func_of
  edit_func bytes i re =
      let n : ℕ = put_record l c.whole (fs i) (record_in l s i) in
      ap (λ (m : ℕ). pick (is_large l m) (header l (pointer l m) out) (small l m)) (record_back bytes i re.known)
      ∙ ap (λ (x : Bool). pick x (header l (pointer l n) out) (small l n))
      (record_flag l c.whole (fs i) (record_in l s i) ∙ re.flag)
      ∙ go (fs i).large refl
    where
      go : (x : Bool) → (fs i).large ≡ x
          → pick x (header l (pointer l (put_record l c.whole (fs i) (record_in l s i))) out)
          (small l (put_record l c.whole (fs i) (record_in l s i))) ≡ fs i
      go true t =
          ap (λ (p : ℕ). header l p out) (record_pointer l c.whole (fs i) (record_in l s i) t (re.fits.as_large t).words.ptr)
          ∙ header_back i re.known t (re.fits.as_large t)
      go false t = record_small l c.whole (fs i) (record_in l s i) t (re.fits.as_small t)

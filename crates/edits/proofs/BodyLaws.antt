-- An edit that moves what lies past the bytes that it replaces: each function is the old one at its moved places, each byte of the tail
-- and each body stays, the new bytes are the body of the function that is to have them.
use mathlib.Core.Path.{◌≡◌, refl, ap, sym, ◌∙◌, subst}
use mathlib.Core.Bool.{true, false}
use mathlib.Core.Logic.{◌⊎◌, inl, inr, ◌≢◌}
use mathlib.Core.List.{List}
use Prim.Native.Nat.{ℕ, ◌+◌, ◌-◌, ◌≤◌, ◌<◌}
use native.Mathlib.Omega.{arith}
use borrow.Author.Tests.{eqb-true, eqb-false}
use lib.Dec.{eqb}
use lib.ListN.{length, get_or}
use Rattle.bits.specs.Bytes.{bytes_at, number_at}
use Rattle.bits.proofs.TestLaws.{which}
use Rattle.bits.proofs.ByteLaws.{bytes_at_ext, bytes_at-is, number_at_ext}
use Rattle.format.specs.declared.Layout.{Layout}
use Rattle.format.specs.declared.Layout.TheVariants.{Modern}
use Rattle.format.specs.Table as table
use Rattle.format.specs.Move.{moved}
use Rattle.format.proofs.MoveLaws.{moved-low, Side, moved_side, moved_from, moved-within, moved_apart, moved-run}
use Rattle.footer.specs.Footer.{footer_length}
use Rattle.footer.specs.Finalize.{size_limit}
use Rattle.image.specs.Sections.{functions_in, kinds_at, tail_at}
use Rattle.image.specs.Functions.{Func, func_of, body_of}
use Rattle.image.specs.Admitted.{Disjoint, InTail, Admitted}
use Rattle.edits.specs.Fit.{FitsFields}
use Rattle.edits.specs.Edit.{write_all, move_func}
use Rattle.edits.specs.Rebuild.{resized}
use Rattle.edits.proofs.WriteLaws.{Outside, writes_off, splice-low, splice_new, splice-high, length-splice}
use Rattle.edits.proofs.SlotLaws.{func_flag, small-fits, modern_info}
use Rattle.image.proofs.PlaceLaws.{records_at, ordered}
use Rattle.edits.proofs.EditLaws.{RecordHolds, Change, spliced, edited, HeadersApart, Sound, length-edit, edit_frame, edit_kept}
use Rattle.edits.proofs.EditLaws.{edit-front, edit_func}
use Rattle.edits.proofs.ReadLaws.{Agree}

-- where what lies past the bytes that are replaced goes
abbrev pub moved_by : Change → ℕ → ℕ
moved_by c = moved c.b (c.a + length c.new)

-- function j keeps its body, on one side of the bytes that are replaced
pub record Keeps (l : Layout) (s : List ℕ) (c : Change) (j : ℕ) : Type 0 where
  pub known : j < functions_in s
  pub func : c.func j ≡ move_func (moved_by c) (func_of l s j)
  pub side : Side c.a c.b (func_of l s j).begin (func_of l s j).size

-- function j has the new bytes for its body
pub record TakesBody (l : Layout) (s : List ℕ) (c : Change) (j : ℕ) : Type 0 where
  pub known : j < functions_in s
  pub func : c.func j ≡ resized (moved_by c) (length c.new) (func_of l s j)
  pub start : (func_of l s j).begin ≡ c.a
  pub tail : c.tail ≤ c.a

-- what is asked of an edit of an admitted image: no large header, body or info place reaches into the bytes that are replaced, but for
-- the body that they are; nothing of the tail comes to stand before the new tail
pub record Parted (l : Layout) (s : List ℕ) (c : Change) : Type 0 where
  pub admitted : Admitted l s
  pub records : kinds_at l s ≤ c.floor
  pub under : c.floor ≤ c.a
  pub low : c.floor ≤ tail_at l s
  pub order : c.a ≤ c.b
  pub room : c.b + footer_length ≤ length s
  pub front : (p : ℕ) → (table.record_row l).at ≤ p → Outside p c.words
  pub past : (p w : ℕ) → Side c.a c.b p w → tail_at l s ≤ p → c.tail ≤ moved_by c p
  pub header : (j : ℕ) → j < functions_in s → (func_of l s j).large ≡ true
      → Side c.a c.b (func_of l s j).ptr (table.large_row l).width
  pub info : (j : ℕ) → j < functions_in s → Side c.a c.b (func_of l s j).info 0
  pub body : (j : ℕ) → j < functions_in s → Keeps l s c j ⊎ TakesBody l s c j

-- an edit that is not refused with 11 or 12: the result is not over the limit, and small records hold what they are to hold
pub record Holds (l : Layout) (s : List ℕ) (c : Change) : Type 0 where
  pub limit : length s - c.b + (c.a + length c.new) ≤ size_limit
  pub field : (j : ℕ) → j < functions_in s → (c.func j).large ≡ false → FitsFields l (c.func j)

-- a place that is 0 or in the tail, on one side of the bytes that are replaced
pub record Beside (l : Layout) (s : List ℕ) (c : Change) (p : ℕ) : Type 0 where
  pub side : Side c.a c.b p 0
  pub tail : p ≢ 0 → InTail l s p 0

-- w bytes from p that an edit only moves: past the floor, on one side of the bytes that are replaced, in no large header
pub record Untouched (l : Layout) (s : List ℕ) (c : Change) (p w : ℕ) : Type 0 where
  pub past : c.floor ≤ p
  pub side : Side c.a c.b p w
  pub clear : 0 < w → (j : ℕ) → j < functions_in s → (func_of l s j).large ≡ true
      → Disjoint (func_of l s j).ptr (table.large_row l).width p w

-- no large header of n functions shares a byte with a body
abbrev pub HeadersClear : Layout → ℕ → (ℕ → Func) → Type 0
HeadersClear l n fs =
    (i j : ℕ) → i < n → j < n → 0 < (fs i).size → (fs j).large ≡ true
    → Disjoint (fs j).ptr (table.large_row l).width (fs i).begin (fs i).size

module _ (l : Layout) (s : List ℕ) (c : Change) (pt : Parted l s c) where
  ad : Admitted l s
  ad = pt.admitted

  abbrev a : ℕ
  a = c.a

  abbrev b : ℕ
  b = c.b

  abbrev new : List ℕ
  new = c.new

  abbrev fs : ℕ → Func
  fs = c.func

  abbrev mv : ℕ → ℕ
  mv = moved_by c

  abbrev out : List ℕ
  out = edited l c s

  -- the length of the result
  abbrev long : ℕ
  long = length s - b + (a + length new)

  fit : a ≤ length s
  fit = omega (arith, pt.order, pt.room)

  len : length (spliced c s) ≡ long
  len = length-splice a b new s fit (omega (arith, pt.room))

  -- 0 stays
  some : 0 < b
  some = omega (arith, (ordered l s).kinds, pt.records, pt.under, pt.order)

  still : mv 0 ≡ 0
  still = moved-low b (a + length new) 0 some

  -- ---- the new functions

  like : (j : ℕ) → j < functions_in s → ((fs j).large ≡ (func_of l s j).large) × ((fs j).ptr ≡ mv (func_of l s j).ptr)
      × ((fs j).info ≡ mv (func_of l s j).info)
  like j h =
      elim (pt.body j h) [
        | inl r ↦ (ap (λ (f : Func). f.large) r.func, ap (λ (f : Func). f.ptr) r.func, ap (λ (f : Func). f.info) r.func)
        | inr r ↦ (ap (λ (f : Func). f.large) r.func, ap (λ (f : Func). f.ptr) r.func, ap (λ (f : Func). f.info) r.func)
      ]

  was : (j : ℕ) → j < functions_in s → (fs j).large ≡ true → (func_of l s j).large ≡ true
  was j h t = sym (like j h).0 ∙ t

  -- what lay in the tail before the footer lies there again
  pub inside : (p w : ℕ) → Side a b p w → InTail l s p w → (c.tail ≤ mv p) × (mv p + w + footer_length ≤ long)
  inside p w d h = (
    pt.past p w d h.0,
    omega (arith, moved-within a b (length new) p w (length s - footer_length) d (omega (arith, h.1)) (omega (arith, pt.room)), pt.room),
  )

  -- a place that is 0 or in the tail
  pub place_in : (p : ℕ) → Beside l s c p → mv p ≢ 0 → (c.tail ≤ mv p) × (mv p + 0 + footer_length ≤ long)
  place_in p at z = inside p 0 at.side (at.tail (λ e. z (ap mv e ∙ still)))

  pub place_most : (p : ℕ) → Beside l s c p → mv p ≤ long
  place_most p at =
      elim (which (eqb p 0)) [
        | inl t ↦ omega (arith, ap mv (eqb-true p 0 t), still)
        | inr f ↦ omega (arith, (inside p 0 at.side (at.tail (eqb-false p 0 f))).1)
      ]

  pub header_in_lem : (j : ℕ) → j < functions_in s → (fs j).large ≡ true → (c.tail ≤ (fs j).ptr)
      × ((fs j).ptr + (table.large_row l).width + footer_length ≤ long)
  header_in_lem j h t =
      rw (like j h).1 (inside (func_of l s j).ptr (table.large_row l).width (pt.header j h (was j h t)) (ad.header j h (was j h t)))

  pub body_in : (j : ℕ) → j < functions_in s → (c.tail ≤ (fs j).begin) × ((fs j).begin + (fs j).size + footer_length ≤ long)
  body_in j h =
      elim (pt.body j h) [
        | inl r ↦ subst (λ (f : Func). (c.tail ≤ f.begin) × (f.begin + f.size + footer_length ≤ long)) (sym r.func)
            (inside (func_of l s j).begin (func_of l s j).size r.side (ad.body j h))
        | inr r ↦ subst (λ (f : Func). (c.tail ≤ f.begin) × (f.begin + f.size + footer_length ≤ long)) (sym r.func)
            (omega (arith, r.start, r.tail), omega (arith, r.start, pt.room))
      ]

  beside_info : (j : ℕ) → j < functions_in s → Beside l s c (func_of l s j).info
  beside_info j h = record { side = pt.info j h; tail = ad.info j h }

  pub info_in : (j : ℕ) → j < functions_in s → (fs j).info ≢ 0 → (c.tail ≤ (fs j).info)
      × ((fs j).info + 0 + footer_length ≤ long)
  info_in j h =
      subst (λ (p : ℕ). p ≢ 0 → (c.tail ≤ p) × (p + 0 + footer_length ≤ long)) (sym (like j h).2)
      (place_in (func_of l s j).info (beside_info j h))

  pub headers_apart_lem : HeadersApart l (functions_in s) fs
  headers_apart_lem i j h k d t u g =
      let e = (like i h).1 in
      let f = (like j k).1 in
      rw (e, f)
      (moved_apart a b (length new) (func_of l s i).ptr (table.large_row l).width (func_of l s j).ptr (table.large_row l).width
      (pt.header i h (was i h t)) (pt.header j k (was j k u)) (ad.apart i j h k d (was i h t) (was j k u)) (rw (e, f) at g))

  pub body_apart_lem : HeadersClear l (functions_in s) fs
  body_apart_lem i j h k z t =
      let e = (like j k).1 in
      let d = pt.header j k (was j k t) in
      elim (pt.body i h) [
        | inl r ↦ subst (λ (f : Func). 0 < f.size → Disjoint (fs j).ptr (table.large_row l).width f.begin f.size)
            (sym r.func)
            (λ y g. rw e (moved_apart a b (length new) (func_of l s j).ptr (table.large_row l).width (func_of l s i).begin
            (func_of l s i).size
            d r.side (ad.clear i j h k y (was j k t)) (rw e at g)))
            z
        | inr r ↦ subst (λ (f : Func). Disjoint (fs j).ptr (table.large_row l).width f.begin f.size) (sym r.func)
            (λ g. elim (moved_side a b (length new) (func_of l s j).ptr (table.large_row l).width d) [
              | inl q ↦ omega (arith, e, r.start, q.0, q.1)
              | inr q ↦ absurd (omega (arith, e, r.start, q.0, q.1))
            ])
      ]

  pub sound : Sound l c s
  sound = record {
    records = pt.records;
    under = pt.under;
    start = fit;
    fits = rw len (omega arith);
    front = pt.front;
    past = λ j h t.
        rw (like j h).1
        (moved_from a b (length new) (func_of l s j).ptr (table.large_row l).width c.floor (pt.header j h (was j h t)) pt.under
        (omega (arith, pt.low, (ad.header j h (was j h t)).0)));
    within = λ j h t. rw len (omega (arith, (header_in_lem j h t).1));
    apart = headers_apart_lem;
  }

  pub length_out : length out ≡ long
  length_out = length-edit l c s sound ∙ len

  -- ---- what stays before the floor

  -- header bytes that the writes do not touch
  pub front_agree : (from to : ℕ) → to ≤ 128 → ((p : ℕ) → from ≤ p → p < to → Outside p c.words)
      → Agree s out from to
  front_agree from to h o p f k =
      edit-front l c s sound p (omega (arith, records_at l))
      ∙ writes_off c.words (spliced c s) p (o p f k)
      ∙ splice-low a b new s fit p (omega (arith, (ordered l s).kinds, pt.records, pt.under))

  -- all bytes between the records and the floor
  pub floor_agree : Agree s out (kinds_at l s) c.floor
  floor_agree = edit_kept l c s sound

  -- a number in the header is what the writes leave
  pub front-number : (q n : ℕ) → q + n ≤ 128 → number_at out q n ≡ number_at (write_all c.words (spliced c s)) q n
  front-number q n h =
      number_at_ext out (write_all c.words (spliced c s)) n q q
      (λ j k. edit-front l c s sound (q + j) (omega (arith, records_at l)))

  pub front_long : 128 ≤ length (spliced c s)
  front_long = rw len (omega (arith, (ordered l s).kinds, pt.records, pt.under))

  -- the new bytes
  pub new_byte : (k : ℕ) → k < length new → get_or out (a + k) 0 ≡ get_or new k 0
  new_byte k h =
      edit_frame l c s sound (a + k) (omega (arith, pt.records, pt.under))
      (λ j g t q.
      let e = (like j g).1 in
      elim (moved_side a b (length new) (func_of l s j).ptr (table.large_row l).width (pt.header j g (was j g t))) [
        | inl r ↦ omega (arith, e, r.0, r.1)
        | inr r ↦ absurd (omega (arith, e, r.0, r.1))
      ])
      ∙ splice_new a b new s fit k h

  -- a byte that no header word takes keeps its value at its moved place
  pub tail_byte : (p : ℕ) → Untouched l s c p 1 → get_or out (mv p) 0 ≡ get_or s p 0
  tail_byte p un =
      let d = un.side in
      edit_frame l c s sound (mv p) (omega (arith, pt.records, moved_from a b (length new) p 1 c.floor d pt.under un.past))
      (λ j h t q.
      let e = (like j h).1 in
      rw e (moved_apart a b (length new) (func_of l s j).ptr (table.large_row l).width p 1 (pt.header j h (was j h t)) d
      (un.clear (omega arith) j h (was j h t)) (omega (arith, e))))
      ∙ elim d [
        | inl r ↦ rw (moved-low b (a + length new) p r.0) (splice-low a b new s fit p (omega (arith, r.1)))
        | inr r ↦ splice-high a b new s fit p r
      ]

  bytes_out : (p w : ℕ) → Untouched l s c p w → bytes_at out (mv p) w ≡ bytes_at s p w
  bytes_out p w un =
      bytes_at_ext out s w (mv p) p
      (λ k h.
      let r = moved-run a b (length new) pt.order p w k un.side h in
      ap (λ (q : ℕ). get_or out q 0) (sym r.1)
      ∙ tail_byte (p + k)
      (record {
        past = omega (arith, un.past);
        side = r.0;
        clear = λ z j q t g. omega (arith, un.clear (omega arith) j q t (omega arith));
      }))

  -- ---- they fit their records: what is not refused with 11 or 12

  no_info : (j : ℕ) → j < functions_in s → l ≡ Modern → (fs j).info ≡ 0
  no_info j h e = (like j h).2 ∙ ap mv (subst (λ (k : Layout). (func_of k s j).info ≡ 0) (sym e) (modern_info s j)) ∙ still

  module _ (hd : Holds l s c) where
    pub fits : (j : ℕ) → j < functions_in s → RecordHolds l (fs j)
    fits j h = record {
      as_large = λ t.
          record {
            words = record {
              ptr = omega (arith, (header_in_lem j h t).1, hd.limit);
              begin = omega (arith, (body_in j h).1, hd.limit);
              size = omega (arith, (body_in j h).1, hd.limit);
              info = omega (arith, (like j h).2, place_most (func_of l s j).info (beside_info j h), hd.limit);
            };
            modern = no_info j h;
          };
      as_small = λ t.
          let u : (func_of l s j).large ≡ false = sym (like j h).0 ∙ t in
          record {
            large = t;
            ptr = (like j h).1 ∙ ap mv (small-fits l s j u).ptr ∙ still;
            fields = hd.field j h t;
            modern = no_info j h;
          };
    }

    -- function j of the result
    pub func_out : (j : ℕ) → j < functions_in s → func_of l out j ≡ fs j
    func_out j h =
        edit_func l c s sound ad.bytes j (record { known = h; fits = fits j h; flag = func_flag l s j ∙ sym (like j h).0 })

    -- a function that keeps its body has the same bytes
    pub body_kept : (j : ℕ) → Keeps l s c j → body_of l out j ≡ body_of l s j
    unfolding body_of
    body_kept j ke =
        ap (λ (f : Func). bytes_at out f.begin f.size) (func_out j ke.known ∙ ke.func)
        ∙ bytes_out (func_of l s j).begin (func_of l s j).size
        (record {
          past = omega (arith, pt.low, (ad.body j ke.known).0);
          side = ke.side;
          clear = λ z i q t. ad.clear j i ke.known q z t;
        })

    -- one that has the new bytes has these
    pub body_new : (j : ℕ) → TakesBody l s c j → body_of l out j ≡ new
    unfolding body_of
    body_new j ta =
        ap (λ (f : Func). bytes_at out f.begin f.size) (func_out j ta.known ∙ ta.func)
        ∙ rw ta.start (bytes_at-is out new a (length new) refl new_byte)

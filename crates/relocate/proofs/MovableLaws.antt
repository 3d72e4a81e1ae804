-- The image of a rebuild and that of a resize may be relocated in a buffer of their new length: what 01 tests before anything is written
-- says that every number fits where it goes.
use mathlib.Core.Path.{◌≡◌, refl}
use mathlib.Core.Bool.{Bool, true, false}
use mathlib.Core.Logic.{inl, inr}
use mathlib.Core.List.{List}
use Prim.Native.Nat.{ℕ, ◌+◌, ◌-◌, ◌^◌, ◌≤◌, ◌<◌}
use native.Mathlib.Omega.{arith}
use borrow.Author.Tests.{eqb-true, eqb-false}
use lib.Dec.{eqb}
use lib.ListN.{length}
use Rattle.bits.specs.Choice.{pick}
use Rattle.bits.proofs.TestLaws.{which, below_or}
use Rattle.format.specs.declared.Layout.{Layout}
use Rattle.format.proofs.MoveLaws.{moved-low, moved-high}
use Rattle.footer.specs.Finalize.{size_limit}
use Rattle.image.specs.Sections.{functions_in, debug_in, tail_at}
use Rattle.image.specs.Functions.{func_of}
use Rattle.image.specs.Admitted.{Admitted}
use Rattle.image.proofs.PlaceLaws.{ordered}
use Rattle.image.proofs.CheckLaws.{headers_in_lem}
use Rattle.edits.specs.Edit.{move_func}
use Rattle.edits.specs.Fit.{size_row, fields_fit, FitsPlaces}
use Rattle.edits.specs.Packing.{Packed}
use Rattle.edits.specs.Rebuild.{resized}
use Rattle.edits.proofs.FitLaws.{fields_use}
use Rattle.edits.proofs.SlotLaws.{small-fits}
use Rattle.relocate.specs.declared.Move.{Move}
use Rattle.relocate.specs.Relocate.{moved_place, Movable}
use Rattle.relocate.proofs.EditLaws.{rebuilding, resizing}

-- the moves of an admitted image whose result is not refused with 11 or, for a place that moves, with 12
pub record MoveTested (l : Layout) (s : List ℕ) (m : Move) (room : ℕ) : Type 0 where
  pub admitted : Admitted l s
  pub limit : room ≤ size_limit
  pub fields : fields_fit l s (moved_place m) ≡ true

-- a function whose body is not empty, and whose new size its record holds
pub record Resizable (l : Layout) (s : List ℕ) (id : ℕ) (body : List ℕ) : Type 0 where
  pub known : id < functions_in s
  pub some : 0 < (func_of l s id).size
  pub sized : (func_of l s id).large ≡ false → length body < 2 ^ (size_row l).width

module _ (l : Layout) (s : List ℕ) (m : Move) (room : ℕ) (ok : MoveTested l s m room) (most : m.to ≤ size_limit) where
  ad : Admitted l s
  ad = ok.admitted

  place_fits : (p : ℕ) → p ≤ size_limit → moved_place m p < 2 ^ 32
  place_fits p h =
      elim (below_or p m.from) [
        | inl k ↦ rw (moved-low m.from m.to p k) (omega arith)
        | inr k ↦ rw (moved-high m.from m.to p k) (omega arith)
      ]

  -- a place that is 0 or in the tail
  none_or_most : (p : ℕ) → ((p ≡ 0 → ⊥) → p ≤ size_limit) → p ≤ size_limit
  none_or_most p h =
      elim (which (eqb p 0)) [ inl t ↦ omega (arith, eqb-true p 0 t) | inr f ↦ h (eqb-false p 0 f) ]

  debug-fits : moved_place m (debug_in l s) < 2 ^ 32
  debug-fits =
      place_fits (debug_in l s) (none_or_most (debug_in l s) (λ z. omega (arith, (ad.debug z).1, ad.most)))

  info_fits : (i : ℕ) → i < functions_in s → moved_place m (func_of l s i).info < 2 ^ 32
  info_fits i h =
      place_fits (func_of l s i).info (none_or_most (func_of l s i).info (λ z. omega (arith, (ad.info i h z).1, ad.most)))

  pointer-fits : (i : ℕ) → i < functions_in s → (func_of l s i).large ≡ true → moved_place m (func_of l s i).ptr < 2 ^ 32
  pointer-fits i h t = place_fits (func_of l s i).ptr (omega (arith, (ad.header i h t).1, ad.most))

  -- a function that moves
  moved-fits : (i : ℕ) → i < functions_in s → FitsPlaces l (move_func (moved_place m) (func_of l s i))
  moved-fits i h = record {
    as_small = λ t.
        let q = fields_use l s (moved_place m) ok.fields i h t in
        record { begin = q.0; size = (small-fits l s i t).fields.size; info = q.1 };
    as_large = λ t.
        record {
          ptr = pointer-fits i h t;
          begin = place_fits (func_of l s i).begin (omega (arith, (ad.body i h).1, ad.most));
          size = omega (arith, (ad.body i h).1, ad.most);
          info = info_fits i h;
        };
  }

  -- one that stays where it starts and has a new size
  own_fits : (i size : ℕ) → i < functions_in s → size ≤ size_limit → ((func_of l s i).large ≡ false → size < 2 ^ (size_row l).width)
      → FitsPlaces l (resized (moved_place m) size (func_of l s i))
  own_fits i size h n z = record {
    as_small = λ t.
        record {
          begin = (small-fits l s i t).fields.begin;
          size = z t;
          info = (fields_use l s (moved_place m) ok.fields i h t).1;
        };
    as_large = λ t.
        record {
          ptr = pointer-fits i h t;
          begin = omega (arith, (ad.body i h).1, ad.most);
          size = omega arith;
          info = info_fits i h;
        };
  }

  -- any function, where function id has a new size
  resized-fits : (id size : ℕ) → size ≤ size_limit → ((func_of l s id).large ≡ false → size < 2 ^ (size_row l).width)
      → (i : ℕ) → i < functions_in s
      → FitsPlaces l (pick (eqb i id) (resized (moved_place m) size (func_of l s i)) (move_func (moved_place m) (func_of l s i)))
  resized-fits id size n z i h = go (eqb i id) refl
    where
      go : (b : Bool) → eqb i id ≡ b
          → FitsPlaces l (pick b (resized (moved_place m) size (func_of l s i)) (move_func (moved_place m) (func_of l s i)))
      go true t = let e : i ≡ id = eqb-true i id t in own_fits i size h n (λ q. z (rw e at q))
      go false t = moved-fits i h

module _ (l : Layout) (s : List ℕ) (room : ℕ) where
  pub rebuild_movable : (ps : Packed) → MoveTested l s (rebuilding l ps s) room
      → room ≡ length s - tail_at l s + (rebuilding l ps s).to → Movable l s (rebuilding l ps s) room
  rebuild_movable ps ok e =
      let o = ordered l s in
      let m : Move = rebuilding l ps s in
      let most : m.to ≤ size_limit = omega (arith, ok.limit) in
      record {
        fits = record { most = ok.admitted.most; room = ok.admitted.room };
        headers = (headers_in_lem l s).passed ok.admitted.header;
        past = omega (arith, o.hashes, o.small);
        most = most;
        records = omega (arith, o.hashes, o.small);
        limit = ok.limit;
        held = λ i h t.
            let q = ok.admitted.header i h t in
            rw (moved-high m.from m.to (func_of l s i).ptr q.0) (omega (arith, q.0, q.1));
        writable = moved-fits l s m room ok most;
        debug = debug-fits l s m room ok most;
      }

  pub resize_movable : (id : ℕ) (body : List ℕ) → Resizable l s id body → MoveTested l s (resizing l id body s) room
      → room ≡ length s - (resizing l id body s).from + (resizing l id body s).to
      → Movable l s (resizing l id body s) room
  resize_movable id body re ok e =
      let o = ordered l s in
      let m : Move = resizing l id body s in
      let b = ok.admitted.body id re.known in
      let most : m.to ≤ size_limit = omega (arith, ok.limit) in
      record {
        fits = record { most = ok.admitted.most; room = ok.admitted.room };
        headers = (headers_in_lem l s).passed ok.admitted.header;
        past = omega (arith, o.hashes, o.small, o.over, o.storage, o.tail, b.0);
        most = most;
        records = omega (arith, o.hashes, o.small, o.over, o.storage, o.tail, b.0);
        limit = ok.limit;
        held = λ i h t.
            let q = ok.admitted.header i h t in
            elim (below_or (func_of l s i).ptr m.from) [
              | inl k ↦ rw (moved-low m.from m.to (func_of l s i).ptr k)
                  (omega (arith, ok.admitted.clear id i re.known h re.some t k, b.1))
              | inr k ↦ rw (moved-high m.from m.to (func_of l s i).ptr k) (omega (arith, k, q.1, b.1))
            ];
        writable = resized-fits l s m room ok most id (length body) (omega (arith, most)) re.sized;
        debug = debug-fits l s m room ok most;
      }

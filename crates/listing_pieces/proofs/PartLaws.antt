-- A part of a listing, made batch by batch: so many bytes are left out, and so many there is room for.
use Rattle.std.specs.Prelude.{Err, Ok, Result}
use mathlib.Core.Path.{◌≡◌, refl, ap, sym, ◌∙◌, subst}
use mathlib.Core.Bool.{Bool, true, false, not}
use mathlib.Core.Logic.{◌⊎◌, inl, inr}
use mathlib.Core.List.{List, [], ◌++◌, append-nil}
use Prim.Native.Nat.{ℕ, ◌+◌, ◌-◌, ◌≤◌, ◌<◌}
use native.Mathlib.Nat.{zero-add}
use native.Mathlib.Omega.{arith}
use borrow.Author.Tests.{lt-ltb, le-ltb}
use lib.Dec.{ltb}
use lib.ListN.{length, take, drop, length-append, length-drop, drop_of_length-le}
use lib.Seq.{sets, sets-eq, take_all, take-append-le, take-append-add, take-append_seam, drop-append-le, drop-append-add, drop-nil}
use lib.Seq.{take-nil, length-take-le}
use Rattle.bits.specs.Choice.{pick}
use Rattle.bits.specs.Outcome.{Answers}
use Rattle.bits.proofs.OutcomeLaws.{refused_outcome}
use Rattle.bits.proofs.TestLaws.{below_or}
use Rattle.bits.proofs.WriteLaws.{sets_append}
use Rattle.format.specs.declared.Layout.{Layout}
use Rattle.footer.specs.Finalize.{size_limit}
use Rattle.sections.specs.declared.Places.{Places}
use Rattle.sections.specs.Places.{places_of}
use Rattle.string_index.specs.Index.{fill_refusal, admitted_as}
use Rattle.string_index.proofs.IndexLaws.{refused_as, laid_as}
use Rattle.text.specs.Text.{Wrote}
use Rattle.listing_pieces.specs.declared.Point.{Point}
use Rattle.listing_pieces.specs.declared.Point.TheVariants.{Counts}
use Rattle.listing_pieces.specs.declared.Piece.{Piece}
use Rattle.listing_pieces.specs.Listing.{listed, part_room, listing_part}
use Rattle.listing_pieces.specs.Pieces.{Spot, counts, strings, units, functions, end, left, pieces, is_end, batch, spot_of}
use Rattle.listing_pieces.specs.Pieces.{Good, GivesAll}
use Rattle.listing_pieces.proofs.PieceLaws.{pieces-left}

-- ---- a part of a text: behind k bytes, at most n

abbrev pub part : ℕ → ℕ → List ℕ → List ℕ
part k n text = take n (drop k text)

drop-both : (k : ℕ) (a b : List ℕ) → drop k (a ++ b) ≡ drop k a ++ drop (k - length a) b
drop-both k a b = go (below_or (length a) k)
  where
    go : (length a < k) ⊎ (k ≤ length a) → drop k (a ++ b) ≡ drop k a ++ drop (k - length a) b
    go (inl h) =
        let e : k ≡ length a + (k - length a) = omega arith in
        let none : drop k a ≡ [] = drop_of_length-le a {i = k} (omega arith) in
        ap (λ (j : ℕ). drop j (a ++ b)) e ∙ drop-append-add a b (k - length a)
        ∙ ap (λ (x : List ℕ). x ++ drop (k - length a) b) (sym none)
    go (inr h) = let e : k - length a ≡ 0 = omega arith in rw e (drop-append-le k a b h)

take-both : (n : ℕ) (a b : List ℕ) → take n (a ++ b) ≡ take n a ++ take (n - length (take n a)) b
take-both n a b = go (below_or n (length a))
  where
    go : (n < length a) ⊎ (length a ≤ n) → take n (a ++ b) ≡ take n a ++ take (n - length (take n a)) b
    go (inl h) =
        let e : n - length (take n a) ≡ 0 = omega (arith, length-take-le n a (omega arith)) in
        rw e (take-append-le n a b (omega arith) ∙ sym (append-nil (take n a)))
    go (inr h) =
        let e : n ≡ length a + (n - length a) = omega arith in
        rw (take_all n a h) (ap (λ (j : ℕ). take j (a ++ b)) e ∙ take-append-add a b (n - length a))

part_both : (k n : ℕ) (a b : List ℕ) → part k n (a ++ b) ≡ part k n a ++ part (k - length a) (n - length (part k n a)) b
part_both k n a b = ap (take n) (drop-both k a b) ∙ take-both n (drop k a) (drop (k - length a) b)

pub part_short : (k n : ℕ) (a : List ℕ) → length (part k n a) ≤ n
part_short k n a = go (below_or n (length (drop k a)))
  where
    go : (n < length (drop k a)) ⊎ (length (drop k a) ≤ n) → length (part k n a) ≤ n
    go (inl h) = omega (arith, length-take-le n (drop k a) (omega arith))
    go (inr h) = omega (arith, ap length (take_all n (drop k a) h))

-- ---- as the code copies it

-- nothing is left of the text
pub no_rest : (text old : List ℕ) (k at limit : ℕ) → length text ≤ k → Wrote old at (part k (limit - at) text) at old
no_rest text old k at limit h =
    let none : drop k text ≡ [] = drop_of_length-le text h in
    rw (none, take-nil (limit - at)) (omega arith, refl)

-- a part from a to a + n, as the code cuts it
cut : (a n : ℕ) (text : List ℕ) → take (a + n - a) (drop a text) ≡ take n (drop a text)
cut a n text = let e : a + n - a ≡ n = omega arith in rw e

pub cut_length : (a n : ℕ) (text : List ℕ) → length (take n (drop a text)) ≡ n → length (take (a + n - a) (drop a text)) ≡ n
cut_length a n text h = ap length (cut a n text) ∙ h

-- so much of it as there is and as there is room for
abbrev Copied : List ℕ → ℕ → ℕ → ℕ → ℕ → Type 0
Copied text k at limit n =
    (n ≤ length text - k) × (n ≤ limit - at) × (take n (drop k text) ≡ part k (limit - at) text)
    × (length (take n (drop k text)) ≡ n)

pub rest_copied : (text : List ℕ) (k at limit n : ℕ) → k < length text
    → n ≡ pick (ltb (length text - k) (limit - at)) (length text - k) (limit - at)
    → Copied text k at limit n
rest_copied text k at limit n h e = go (below_or (length text - k) (limit - at))
  where
    go : (length text - k < limit - at) ⊎ (limit - at ≤ length text - k) → Copied text k at limit n
    go (inl b) =
        let m : n ≡ length text - k = e ∙ rw (lt-ltb (length text - k) (limit - at) b) in
        let d : length (drop k text) ≡ length text - k = length-drop k text in (
          omega arith,
          omega arith,
          take_all n (drop k text) (omega arith)
              ∙ sym (take_all (limit - at) (drop k text) (omega arith)),
          length-take-le n (drop k text) (omega arith),
        )
    go (inr b) =
        let m : n ≡ limit - at = e ∙ rw (le-ltb (length text - k) (limit - at) b) in
        let d : length (drop k text) ≡ length text - k = length-drop k text in
        (omega arith, omega arith, ap (λ (j : ℕ). take j (drop k text)) m, length-take-le n (drop k text) (omega arith))

pub rest_written : (text old new : List ℕ) (k at limit n : ℕ) → k < length text
    → n ≡ pick (ltb (length text - k) (limit - at)) (length text - k) (limit - at)
    → new ≡ sets old at (take (k + n - k) (drop k text)) → Wrote old at (part k (limit - at) text) (at + n) new
rest_written text old new k at limit n h e w =
    let f = rest_copied text k at limit n h e in
    (ap (λ (j : ℕ). at + j) (sym f.3 ∙ ap length f.2), w ∙ ap (sets old at) (cut k n text ∙ f.2))

-- ---- the loop over batches

pub record Copying (p : Places) (s out₀ : List ℕ) (from limit : ℕ) (out : List ℕ) (x : Point) (skip at : ℕ) : Type 0 where
  pub same : length out ≡ length out₀
  pub room : at ≤ limit
  pub good : Good p s x
  pub text : sets out at (part skip (limit - at) (left p.layout s (spot_of x))) ≡ sets out₀ 0 (part from limit (listed p.layout s))
  pub size : at + length (part skip (limit - at) (left p.layout s (spot_of x))) ≡ length (part from limit (listed p.layout s))

-- a turn of it: a batch of pieces is made in the room, and of its text what is asked for is copied
pub record Copies (p : Places) (s out out' room room' : List ℕ) (x : Point) (r : Piece) (limit skip at at' : ℕ) : Type 0 where
  pub made : GivesAll p s room x r room'
  pub same : length out' ≡ length out
  pub wrote : Wrote out at (part skip (limit - at) (take r.end room')) at' out'

module _ (p : Places) (s out₀ : List ℕ) (from limit : ℕ) where
  pub copying_first : Copying p s out₀ from limit out₀ Counts from 0
  copying_first =
      let e : limit - 0 ≡ limit = omega arith in
      record { same = refl; room = omega arith; good = tt; text = rw e; size = rw e (omega arith) }

  -- a batch in its room, of which the code takes the front
  batch-front : (room room' : List ℕ) (x : Point) (r : Piece) → GivesAll p s room x r room'
      → take r.end room' ≡ pieces p.layout s batch (spot_of x)
  batch-front room room' x r g =
      let ps : List ℕ = pieces p.layout s batch (spot_of x) in
      let n : r.end ≡ length ps = g.wrote.0 ∙ zero-add (length ps) in
      let w : room' ≡ ps ++ drop (0 + length ps) room = g.wrote.1 ∙ sets-eq ps room 0 (omega (arith, g.most)) in
      rw (w, n) (take-append_seam ps (drop (0 + length ps) room))

  pub copying_next : (out : List ℕ) (x : Point) (skip at : ℕ) → Copying p s out₀ from limit out x skip at
      → (room room' out' : List ℕ) (r : Piece) (at' : ℕ) → Copies p s out out' room room' x r limit skip at at'
      → Copying p s out₀ from limit out' r.next (skip - r.end) at'
  copying_next out x skip at c room room' out' r at' t =
      let g : GivesAll p s room x r room' = t.made in
      let l : Layout = p.layout in
      let a : List ℕ = pieces l s batch (spot_of x) in
      let b : List ℕ = left l s (spot_of r.next) in
      let n : ℕ = limit - at in
      let ta : take r.end room' ≡ a = batch-front room room' x r g in
      let ea : r.end ≡ length a = g.wrote.0 ∙ zero-add (length a) in
      let ab : left l s (spot_of x) ≡ a ++ b = pieces-left l s batch (spot_of x) ∙ ap (λ (y : Spot). a ++ left l s y) (sym g.next) in
      let u : List ℕ = part skip n a in
      let v : List ℕ = part (skip - length a) (n - length u) b in
      let uv : part skip n (left l s (spot_of x)) ≡ u ++ v = ap (part skip n) ab ∙ part_both skip n a b in
      let w0 : at' ≡ at + length u = t.wrote.0 ∙ ap (λ (y : List ℕ). at + length (part skip n y)) ta in
      let w1 : out' ≡ sets out at u = t.wrote.1 ∙ ap (λ (y : List ℕ). sets out at (part skip n y)) ta in
      let room-left : limit - at' ≡ n - length u = omega (arith, w0) in
      let short : length u ≤ n = part_short skip n a in
      let sv : part (skip - r.end) (limit - at') b ≡ v = rw (ea, room-left) in
      record {
        same = t.same ∙ c.same;
        room = omega (arith, w0, short, c.room);
        good = g.good;
        text = rw (sv, w1, w0) (sym (sets_append u v out at) ∙ ap (sets out at) (sym uv) ∙ c.text);
        size = omega (arith, ap length sv, w0, length-append u v, ap length uv, c.size);
      }

  -- ---- the end of the loop

  none_left : (y : Spot) → is_end y ≡ true → left p.layout s y ≡ []
  none_left counts e = let z : ◌≡◌ {A = ℕ} 0 1 = cc in absurd (omega arith)
  none_left (strings i) e = let z : ◌≡◌ {A = ℕ} 0 1 = cc in absurd (omega arith)
  none_left (units i j) e = let z : ◌≡◌ {A = ℕ} 0 1 = cc in absurd (omega arith)
  none_left (functions i) e = let z : ◌≡◌ {A = ℕ} 0 1 = cc in absurd (omega arith)
  none_left end e = refl

  finished : (out : List ℕ) (x : Point) (skip at : ℕ) → Copying p s out₀ from limit out x skip at
      → part skip (limit - at) (left p.layout s (spot_of x)) ≡ []
      → Wrote out₀ 0 (part from limit (listed p.layout s)) at out
  finished out x skip at c e = (omega (arith, ap length e, c.size), sym (ap (sets out at) e) ∙ c.text)

  pub copying_full : (out : List ℕ) (x : Point) (skip at : ℕ) → Copying p s out₀ from limit out x skip at → limit ≤ at
      → Wrote out₀ 0 (part from limit (listed p.layout s)) at out
  copying_full out x skip at c h =
      let e : limit - at ≡ 0 = omega arith in
      finished out x skip at c (rw e)

  pub copying_last : (out : List ℕ) (x : Point) (skip at : ℕ) → Copying p s out₀ from limit out x skip at → (b : Bool)
      → b ≡ is_end (spot_of x) → not b ≡ false
      → Wrote out₀ 0 (part from limit (listed p.layout s)) at out
  copying_last out x skip at c true e h =
      finished out x skip at c (rw (none_left (spot_of x) (sym e), drop-nil {A = ℕ} skip) (take-nil (limit - at)))
  copying_last out x skip at c false e h = let z : ◌≡◌ {A = ℕ} 0 1 = cc in absurd (omega arith)

-- ---- a part of an image's listing

pub part_fits : (n : ℕ) → (part_room n ≤ n) × (part_room n ≤ size_limit)
unfolding part_room
part_fits n = go (below_or n size_limit)
  where
    go : (n < size_limit) ⊎ (size_limit ≤ n) → (pick (ltb n size_limit) n size_limit ≤ n)
        × (pick (ltb n size_limit) n size_limit ≤ size_limit)
    go (inl h) = rw (lt-ltb n size_limit h) (omega arith, omega arith)
    go (inr h) = rw (le-ltb n size_limit h) (h, omega arith)

-- as the code says it
module _ (n m : ℕ) (e : m ≡ pick (ltb n size_limit) n size_limit) where
  limit_is : m ≡ part_room n
  unfolding part_room
  limit_is = e

  pub limit-fits : m ≤ n
  limit-fits = omega (arith, limit_is, (part_fits n).0)

  pub limit-written : (old new text : List ℕ) (r : ℕ) → Wrote old 0 (take m text) r new → Wrote old 0 (take (part_room n) text) r new
  limit-written old new text r w = subst (λ (k : ℕ). Wrote old 0 (take k text) r new) limit_is w

module _ (l : Layout) (s x : List ℕ) (r : Result Places ℕ) (e : r ≡ admitted_as l s (length x)) (room from : ℕ) (old : List ℕ) where
  pub part_refused : (k : ℕ) → r ≡ Err k → Answers (listing_part room from l s (length x)) (Err k) old old
  unfolding listing_part
  part_refused k f =
      let (h, z) = refused_as l s x r e k f in
      refused_outcome (fill_refusal l s (length x)) k _ (omega arith, z) old

  pub part_listed : (p : Places) → r ≡ Ok p → (n : ℕ) (new : List ℕ) → room ≤ length old
      → Wrote old 0 (part from room (listed p.layout s)) n new
      → Answers (listing_part room from l s (length x)) (Ok n) old new
  unfolding listing_part places_of
  part_listed p f n new h w =
      let (z, q) = laid_as l s x r e p f in
      let own : p.layout ≡ l = ap (λ (y : Places). y.layout) q in
      let t : List ℕ = part from room (listed p.layout s) in
      let m : n ≡ length t = w.0 ∙ zero-add (length t) in
      let k : new ≡ t ++ drop (length t) old
      =
      w.1 ∙ sets-eq t old 0 (omega (arith, part_short from room (listed p.layout s)))
      ∙ ap (λ (j : ℕ). t ++ drop j old) (zero-add (length t)) in
      rw (z, ← own) (ap Ok m, k)

-- What is printed for an input goes by what it is opened as; and no more of an input is needed than a program reads.
use Rattle.std.specs.Prelude.{Err, Ok, Result}
use mathlib.Core.Path.{◌≡◌, refl, ap, sym, ◌∙◌}
use mathlib.Core.Bool.{Bool, true, false}
use mathlib.Core.Logic.{◌⊎◌, inl, inr}
use mathlib.Core.List.{List}
use Prim.Native.Nat.{ℕ, ◌+◌, ◌-◌, ◌≤◌, ◌<◌}
use native.Mathlib.Omega.{arith}
use borrow.Author.Tests.{leb-true, eqb-true, eq-eqb, ne_eqb}
use lib.Dec.{leb, eqb}
use lib.ListN.{length, get_or, take, drop, length-drop}
use lib.Seq.{take_all, length-take-le, get_or-drop}
use Rattle.bits.specs.Choice.{pick}
use Rattle.bits.specs.Bytes.{word_at}
use Rattle.bits.proofs.TestLaws.{both_1, below_or}
use Rattle.format.specs.declared.Layout.{Layout}
use Rattle.image.specs.Admission.{refusal}
use Rattle.sections.specs.declared.Places.{Places}
use Rattle.sections.specs.Places.{places_of, Laid}
use Rattle.sections.proofs.SectionLaws.{sectioned}
use Rattle.admission.specs.Admission.{admission}
use Rattle.admission.proofs.AnswerLaws.{is-laid}
use Rattle.string_index.specs.Index.{words_for}
use Rattle.listing_lines.specs.Lines.{refused_line}
use Rattle.input_records.specs.Heads.{marked, layout_of, image_head_good, image_head}
use Rattle.listing_pieces.specs.Listing.{listed, image_listing, record_listing, listing}
use Rattle.listing_pieces.specs.Pieces.{opened_image, opened_record, opened, printed, counts, pieces}
use Rattle.listing_pieces.proofs.PieceLaws.{in_pieces}

-- ---- what is printed

image_printed : (l : Layout) (s : List ℕ) → image_listing l s ≡ printed s (opened_image (admission l s))
unfolding image_listing admission places_of
image_printed l s = go (eqb (refusal l s) 0) (refusal l s)
  where
    go : (b : Bool) (n : ℕ)
        → pick b (listed l s) (refused_line n) ≡ printed s
        (opened_image (pick b (Ok (places_of l s)) (Err n)))
    go true n = refl
    go false n = refl

record_printed : (h : Result (Layout × ℕ) ℕ) (input : List ℕ) → record_listing h input ≡ printed (drop 7 input) (opened_record h input)
record_printed (Err n) input = refl
record_printed (Ok (l, n)) input = rw (image_printed l (drop 7 input)) (go (eqb (length input) (7 + n)))
  where
    go : (b : Bool) → pick b (printed (drop 7 input) (opened_image (admission l (drop 7 input)))) (refused_line 15)
        ≡ printed (drop 7 input) (pick b (opened_image (admission l (drop 7 input))) (Err 15))
    go true = refl
    go false = refl

-- the lines of the image that was opened, or the refusal
pub listing-printed : (input : List ℕ) → listing input ≡ printed (drop 7 input) (opened input)
unfolding listing opened
listing-printed input = record_printed (image_head input) input

-- THE LISTING OF AN INPUT IS ITS REFUSAL, OR THE PIECES OF ITS IMAGE IN ORDER
pub refused_listing : (input : List ℕ) (n : ℕ) → opened input ≡ Err n → listing input ≡ refused_line n
refused_listing input n e = listing-printed input ∙ ap (printed (drop 7 input)) e

pub listing_in_pieces : (input : List ℕ) (p : Places) (n : ℕ) → opened input ≡ Ok p
    → length (listing input) + 3 ≤ n
    → pieces p.layout (drop 7 input) n counts ≡ listing input
listing_in_pieces input p n e h =
    let k : listing input ≡ listed p.layout (drop 7 input) = listing-printed input ∙ ap (printed (drop 7 input)) e in
    in_pieces p.layout (drop 7 input) n (omega (arith, ap length k)) ∙ sym k

-- ---- an image has at most 65,536 bytes

head_most : (input : List ℕ) → image_head_good input ≡ true → word_at input 3 ≤ 65_536
unfolding image_head_good
head_most input e =
    leb-true (word_at input 3) 65_536
    (both_1 (leb (get_or input 2 0) 4) (leb (word_at input 3) 65_536)
    (both_1 (marked input 0x49 0x4D) _ (both_1 (leb 7 (length input)) _ e)))

-- ---- an image that was opened is admitted

module _ (input : List ℕ) (p : Places) (bytes : (i : ℕ) → get_or (drop 7 input) i 0 < 256) where
  laid : (l : Layout) (a : Result Places ℕ) → a ≡ admission l (drop 7 input) → opened_image a ≡ Ok p
      → Laid p (drop 7 input)
  laid l (Ok q) e h =
      let k : q ≡ p = cc in
      let f : Ok q ≡ Ok p = ap Ok k in
      is-laid l (drop 7 input) (Ok q) e p f bytes
  laid l (Err n) e h = let z : ◌≡◌ {A = ℕ} 0 1 = cc in absurd (omega arith)

  from_record : (h : Result (Layout × ℕ) ℕ) → opened_record h input ≡ Ok p → Laid p (drop 7 input)
  from_record (Err n) e = let z : ◌≡◌ {A = ℕ} 0 1 = cc in absurd (omega arith)
  from_record (Ok (l, n)) e = go (eqb (length input) (7 + n)) e
    where
      go : (b : Bool) → pick b (opened_image (admission l (drop 7 input))) (Err 15) ≡ Ok p
          → Laid p (drop 7 input)
      go true e = laid l (admission l (drop 7 input)) refl e
      go false e = let z : ◌≡◌ {A = ℕ} 0 1 = cc in absurd (omega arith)

  pub opened_admitted : opened input ≡ Ok p → Laid p (drop 7 input)
  unfolding opened
  opened_admitted e = from_record (image_head input) e

module _ (input : List ℕ) (p : Places) where
  -- the input ends where its head says
  opened_ends : opened input ≡ Ok p → (7 ≤ length input) × (length input ≤ 65_543)
  unfolding opened image_head
  opened_ends e = go (image_head_good input) refl e
    where
      go : (b : Bool) → image_head_good input ≡ b
          → opened_record (pick b (Ok (layout_of (get_or input 2 0), word_at input 3)) (Err 15)) input
          ≡ Ok p
          → (7 ≤ length input) × (length input ≤ 65_543)
      go false k e = let z : ◌≡◌ {A = ℕ} 0 1 = cc in absurd (omega arith)
      go true k e = ends (eqb (length input) (7 + word_at input 3)) refl e
        where
          ends : (b : Bool) → eqb (length input) (7 + word_at input 3) ≡ b
              → pick b (opened_image (admission (layout_of (get_or input 2 0)) (drop 7 input))) (Err 15) ≡ Ok p
              → (7 ≤ length input) × (length input ≤ 65_543)
          ends true g e =
              let n : length input ≡ 7 + word_at input 3 = eqb-true (length input) (7 + word_at input 3) g in
              (omega arith, omega (arith, head_most input k))
          ends false g e = let z : ◌≡◌ {A = ℕ} 0 1 = cc in absurd (omega arith)

  pub opened-long : opened input ≡ Ok p → 7 ≤ length input
  opened-long e = (opened_ends e).0

  -- so that the index which the programs lend has words for all its strings
  pub opened-words : ((i : ℕ) → get_or input i 0 < 256) → opened input ≡ Ok p → words_for p.strings ≤ 49_152
  opened-words bytes e =
      let b : (i : ℕ) → get_or (drop 7 input) i 0 < 256 = λ i. rw (get_or-drop 7 input i 0) (bytes (7 + i)) in
      let z = sectioned p (drop 7 input) (opened_admitted input p b e).placed in
      omega (arith, length-drop 7 input, (opened_ends e).1)

-- the image as the code takes it
pub opened_part : (input : List ℕ) (p : Places) → ((i : ℕ) → get_or input i 0 < 256) → opened input ≡ Ok p
    → Laid p (take (length input - 7) (drop 7 input))
opened_part input p bytes e =
    let b : (i : ℕ) → get_or (drop 7 input) i 0 < 256 = λ i. rw (get_or-drop 7 input i 0) (bytes (7 + i)) in
    rw (take_all (length input - 7) (drop 7 input) (omega (arith, length-drop 7 input))) (opened_admitted input p b e)

-- ---- more than 65,543 bytes are no record, so that reading 65,544 is enough

long_refused : (input : List ℕ) → 65_543 < length input → listing input ≡ refused_line 15
unfolding listing image_head
long_refused input h = go (image_head_good input) refl
  where
    go : (b : Bool) → image_head_good input ≡ b
        → record_listing (pick b (Ok (layout_of (get_or input 2 0), word_at input 3)) (Err 15)) input ≡ refused_line
        15
    go true e =
        rw (ne_eqb (length input) (7 + word_at input 3) (λ z. omega (arith, head_most input e)))
    go false e = refl

pub enough : (input : List ℕ) → listing (take 65_544 input) ≡ listing input
enough input = go (below_or 65_543 (length input))
  where
    go : (65_543 < length input) ⊎ (length input ≤ 65_543) → listing (take 65_544 input) ≡ listing input
    go (inl h) =
        let k : length (take 65_544 input) ≡ 65_544 = length-take-le 65_544 input (omega arith) in
        long_refused (take 65_544 input) (omega arith) ∙ sym (long_refused input h)
    go (inr h) = ap listing (take_all 65_544 input (omega arith))

-- ---- as the code judges a record whose head was read

module _ (l : Layout) (n : ℕ) (input : List ℕ) where
  pub record_ends : (length input ≡ 7 + n → ⊥) → Err 15 ≡ opened_record (Ok (l, n)) input
  record_ends h = rw (ne_eqb (length input) (7 + n) h)

-- an opened image is what admission answers for it
opened_same : (r : Result Places ℕ) → opened_image r ≡ r
opened_same (Ok p) = refl
opened_same (Err n) = refl

-- the input ends where its head says, and r is the answer of admission for its image
pub record RecordJudged (l : Layout) (n : ℕ) (input : List ℕ) (r : Result Places ℕ) : Type 0 where
  pub ends : length input ≡ 7 + n
  pub answer : r ≡ admission l (take (length input - 7) (drop 7 input))

module _ {l : Layout} {n : ℕ} {input : List ℕ} {r : Result Places ℕ} (z : RecordJudged l n input r) where
  answer_is : opened_record (Ok (l, n)) input ≡ opened_image r
  answer_is =
      rw (eq-eqb (length input) (7 + n) z.ends)
      (ap opened_image (sym (z.answer
      ∙ ap (admission l) (take_all (length input - 7) (drop 7 input) (omega (arith, length-drop 7 input))))))

  pub record_judged : r ≡ opened_record (Ok (l, n)) input
  record_judged = sym (opened_same r) ∙ sym answer_is

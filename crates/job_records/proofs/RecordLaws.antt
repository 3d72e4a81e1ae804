-- What the functions on records answer, in the words of the definitions.
use Rattle.std.specs.Prelude.{Err, Ok, Result}
use Rattle.std.proofs.Common.{◌≡◌, ℕ, ◌+◌, ◌-◌, ◌^◌, ◌<◌, ◌≤◌, Bool, true, false, ltb, leb, List, length, get_or, take, drop, sym}
use Rattle.std.proofs.Common.{refl, ap, ◌∙◌, inl, inr, zero-add, arith, length-take-le, take_all, ltb-false, le-ltb, lt-ltb}
use Rattle.std.proofs.Common.{ne_eqb, leb-true}
use mathlib.Core.Path.{subst⁻¹}
use native.Mathlib.Nat.{sub-zero}
use lib.Seq.{sets, sets-eq, take-append_seam}
use Rattle.bits.specs.Choice.{pick, both}
use Rattle.bits.specs.Bytes.{word_at, number_at}
use Rattle.bits.specs.Outcome.{Outcome, refused, made, answered, Answers, roomed}
use Rattle.bits.proofs.ListLaws.{AllBelow}
use Rattle.bits.proofs.ByteLaws.{number_at-lt}
use Rattle.bits.proofs.TestLaws.{below_or}
use Rattle.format.specs.declared.Layout.{Layout}
use Rattle.format.specs.declared.Mode.TheVariants.{Plain}
use Rattle.sections.specs.declared.Places.{Places}
use Rattle.admission.specs.Admission.{admission}
use Rattle.admission.proofs.AnswerLaws.{refused_is, laid-is}
use Rattle.input_records.specs.declared.PatchHead.{PatchHead}
use Rattle.input_records.specs.declared.PatchHead.TheVariants as patch-is
use Rattle.input_records.specs.Heads.{marked, layout_of, image_head_good, image_head, patch_head}
use Rattle.strings.specs.Patch.{patch_by_id}
use Rattle.functions.specs.Patch.{patch_body}
use Rattle.patches.specs.Patches.{outcome_of, step_of}
use Rattle.job_records.specs.declared.Progress.{Progress}
use Rattle.job_records.specs.declared.Progress.TheVariants.{Under, Refused}
use Rattle.job_records.specs.Job.{Record, asks, wrong, stated_of, asked, record_of, record_outcome}
use Rattle.job_records.specs.Pieces.{image_stated, begun_head, begun, turn_of, next_place, Steps}

-- ---- heads

image_stated_most : (s : List ℕ) → image_stated (image_head s) ≤ 65_536
unfolding image_head image_head_good
image_stated_most s = go (leb 7 (length s)) (marked s 0x49 0x4D) (leb (get_or s 2 0) 4) (leb (word_at s 3) 65_536) refl
  where
    go : (a b c d : Bool) → leb (word_at s 3) 65_536 ≡ d
        → image_stated
        (pick (both a (both b (both c d))) (Ok (layout_of (get_or s 2 0), word_at s 3)) (Err 15)) ≤ 65_536
    go true true true true e = leb-true (word_at s 3) 65_536 e
    go true true true false e = omega arith
    go true true false d e = omega arith
    go true false c d e = omega arith
    go false b c d e = omega arith

-- what a head states that was judged to be g
pub stated_image_is : (s : List ℕ) (h g : Result (Layout × ℕ) ℕ) → h ≡ image_head s → h ≡ g → (image_stated g ≡ image_stated (image_head s))
    × (image_stated g ≤ 65_536)
stated_image_is s h g e f =
    let k : image_stated g ≡ image_stated (image_head s) = ap image_stated (sym f ∙ e) in
    (k, rw k (image_stated_most s))

patch_stated_most : (s : List ℕ) → AllBelow 256 s → stated_of (patch_head s) ≤ 65_535
unfolding patch_head
patch_stated_most s bytes = go (leb 8 (length s)) (marked s 0x53 0x54) (marked s 0x46 0x42) (number_at s 6 2) (number_at-lt s 6 2 bytes)
  where
    go : (a b c : Bool) (n : ℕ) → n < 256 ^ 2
        → stated_of (pick a (pick b (Ok (patch-is.String (word_at s 2) n)) (pick c (Ok (patch-is.Body (word_at s 2) n)) (Err 15)))
        (Err 15)) ≤ 65_535
    go true true c n h = omega arith
    go true false true n h = omega arith
    go true false false n h = omega arith
    go false b c n h = omega arith

pub stated_patch_is : (s : List ℕ) (h g : Result PatchHead ℕ) → h ≡ patch_head s → h ≡ g → AllBelow 256 s
    → (stated_of g ≡ stated_of (patch_head s)) × (stated_of g ≤ 65_535)
stated_patch_is s h g e f bytes =
    let k : stated_of g ≡ stated_of (patch_head s) = ap stated_of (sym f ∙ e) in
    (k, rw k (patch_stated_most s bytes))

-- a head is refused with 15 alone
head_wrong : (s : List ℕ) (m : ℕ) → patch_head s ≡ Err m → m ≡ 15
unfolding patch_head
head_wrong s m e = go (leb 8 (length s)) (marked s 0x53 0x54) (marked s 0x46 0x42) e
  where
    go : (a b c : Bool)
        → pick a (pick b (Ok (patch-is.String (word_at s 2) (number_at s 6 2)))
        (pick c (Ok (patch-is.Body (word_at s 2) (number_at s 6 2))) (Err 15))) (Err 15) ≡ Err m
        → m ≡ 15
    go true true c q = let z : ◌≡◌ {A = ℕ} 0 1 = cc in absurd (omega arith)
    go true false true q = let z : ◌≡◌ {A = ℕ} 0 1 = cc in absurd (omega arith)
    go true false false q = cc
    go false b c q = cc

-- ---- the image record

pub begun-is : (head image : List ℕ) (h g : Result (Layout × ℕ) ℕ) → h ≡ image_head head → h ≡ g → begun_head g image ≡ begun head image
unfolding begun
begun-is head image h g e f = ap (λ (x : Result (Layout × ℕ) ℕ). begun_head x image) (sym f ∙ e)

-- an image that is there whole, and how it is admitted
pub record WholeImage (l : Layout) (n : ℕ) (image : List ℕ) (a : Result Places ℕ) : Type 0 where
  pub whole : n ≤ length image
  pub judged : a ≡ admission l image

module _ (l : Layout) (n : ℕ) (image : List ℕ) where
  pub cut_image : length image < n → Refused 0 15 ≡ begun_head (Ok (l, n)) image
  cut_image h = rw (lt-ltb (length image) n h)

  module _ (a : Result Places ℕ) (im : WholeImage l n image a) where
    pub image_refused : (k : ℕ) → a ≡ Err k → Refused 0 k ≡ begun_head (Ok (l, n)) image
    image_refused k f =
        let (z, h) = refused_is l image a im.judged k f in
        rw (le-ltb (length image) n im.whole, z, ne_eqb k 0 (λ y. omega arith))

    pub image_laid : (p : Places) → a ≡ Ok p → Under l (length image) 1 ≡ begun_head (Ok (l, n)) image
    image_laid p f = rw (le-ltb (length image) n im.whole, (laid-is l image a im.judged p f).0)

-- ---- a patch record

-- a patch record that is there whole, and its head
pub record WholeRecord (head bytes : List ℕ) (n : ℕ) (h : Result PatchHead ℕ) : Type 0 where
  pub stated : n ≡ stated_of (patch_head head)
  pub whole : n ≤ length bytes
  pub read : h ≡ patch_head head

module _ (l : Layout) (image head bytes out : List ℕ) where
  abbrev Gives : Result ℕ ℕ → List ℕ → Type 0
  Gives r new = Answers (record_outcome l (length out) image (record_of head bytes)) r out new

  pub cut_record : (n : ℕ) → n ≡ stated_of (patch_head head) → length bytes < n → Gives (Err 15) out
  unfolding record_of record_outcome
  cut_record n e h = rw (lt-ltb (length bytes) (stated_of (patch_head head)) (omega arith)) (refl, refl)

  module _ (n : ℕ) (h : Result PatchHead ℕ) (rc : WholeRecord head bytes n h) where
    record_is : (g : Result PatchHead ℕ) → h ≡ g → record_of head bytes ≡ asked g bytes
    unfolding record_of
    record_is g k =
        rw (le-ltb (length bytes) (stated_of (patch_head head)) (omega (arith, rc.stated, rc.whole)))
        (ap (λ (x : Result PatchHead ℕ). asked x bytes) (sym rc.read ∙ k))

    as_asked : (g : Result PatchHead ℕ) → h ≡ g → (r : Result ℕ ℕ) (new : List ℕ)
        → Answers (record_outcome l (length out) image (asked g bytes)) r out new → Gives r new
    as_asked g k r new a = subst⁻¹ (λ (x : Record). Answers (record_outcome l (length out) image x) r out new) (record_is g k) a

    pub string_patched : (id m : ℕ) (r : Result ℕ ℕ) (new : List ℕ) → h ≡ Ok (patch-is.String id m)
        → Answers (roomed (length out) (patch_by_id Plain l image id bytes)) r out new → Gives r new
    unfolding record_outcome step_of outcome_of
    string_patched id m r new k a = as_asked (Ok (patch-is.String id m)) k r new a

    pub body_patched : (id m : ℕ) (r : Result ℕ ℕ) (new : List ℕ) → h ≡ Ok (patch-is.Body id m)
        → Answers (roomed (length out) (patch_body l image id bytes)) r out new → Gives r new
    unfolding record_outcome step_of outcome_of
    body_patched id m r new k a = as_asked (Ok (patch-is.Body id m)) k r new a

    pub head_refused : (m : ℕ) → h ≡ Err m → Gives (Err m) out
    unfolding record_outcome
    head_refused m k =
        let z : m ≡ 15 = head_wrong head m (sym rc.read ∙ k) in
        as_asked (Err m) k (Err m) out (ap Err z, refl)

-- ---- a step: the image that is held, and the new one in its place

-- the part of a buffer that is no longer than it
pub held_part : (n h : ℕ) (s : List ℕ) → h ≡ pick (ltb n (length s)) n (length s) → take h s ≡ take n s
held_part n h s e = elim (below_or n (length s)) [
  | inl k ↦ let z : h ≡ n = e ∙ rw (lt-ltb n (length s) k) in rw z
  | inr k ↦ let z : h ≡ length s = e
      ∙ rw (le-ltb n (length s) k) in rw z (take_all (length s) s (omega arith) ∙ sym (take_all n s k))
]

-- an outcome fits the room
roomed_most : (room : ℕ) (o : Outcome) (t : List ℕ) → roomed room o ≡ made t → length t ≤ room
unfolding roomed
roomed_most room (refused n) t e = let z : ◌≡◌ {A = ℕ} 0 1 = cc in absurd (omega arith)
roomed_most room (made s) t e = go (ltb room (length s)) refl e
  where
    go : (b : Bool) → ltb room (length s) ≡ b → pick b (refused 13) (made s) ≡ made t → length t ≤ room
    go true h q = let z : ◌≡◌ {A = ℕ} 0 1 = cc in absurd (omega arith)
    go false h q = let z : s ≡ t = cc in rw (← z) (ltb-false room (length s) h)

pub outcome_most : (l : Layout) (room : ℕ) (s : List ℕ) (r : Record) (t : List ℕ) → record_outcome l room s r ≡ made t
    → length t ≤ room
unfolding record_outcome step_of
outcome_most l room s (asks p) t e = roomed_most room (outcome_of l s p) t e
outcome_most l room s wrong t e = let z : ◌≡◌ {A = ℕ} 0 1 = cc in absurd (omega arith)

answered_most : (room n : ℕ) (o : Outcome) → ((t : List ℕ) → o ≡ made t → length t ≤ room)
    → answered o ≡ Ok n → n ≤ room
answered_most room n (refused m) f e = let z : ◌≡◌ {A = ℕ} 0 1 = cc in absurd (omega arith)
answered_most room n (made t) f e = let z : length t ≡ n = cc in rw (← z) (f t refl)

pub answer_fits : (l : Layout) (s : List ℕ) (x : Record) (out new : List ℕ) (r : Result ℕ ℕ) (n : ℕ)
    → Answers (record_outcome l (length out) s x) r out new → r ≡ Ok n → n ≤ length out
answer_fits l s x out new r n a e =
    answered_most (length out) n (record_outcome l (length out) s x) (λ t h. outcome_most l (length out) s x t h) (sym a.0 ∙ e)

module _ (l : Layout) (n k : ℕ) (held out new : List ℕ) (r : Result ℕ ℕ) where
  pub step_refused : (o : Outcome) (m : ℕ) → Answers o r out new → r ≡ Err m
      → Steps o (Under l n k) (Refused k m) held held out new
  step_refused (refused x) m a e = let z : m ≡ x = cc in (ap (Refused k) z, refl, a.1)
  step_refused (made t) m a e = let z : ◌≡◌ {A = ℕ} 0 1 = cc in absurd (omega arith)

  pub step_made : (o : Outcome) (m : ℕ) → Answers o r out new → r ≡ Ok m → m ≤ length held
      → Steps o (Under l n k) (Under l m (next_place k)) held (sets held 0 (take m new)) out new
  step_made (refused x) m a e h = let z : ◌≡◌ {A = ℕ} 0 1 = cc in absurd (omega arith)
  step_made (made t) m a e h =
      let z : m ≡ length t = cc in
      let p : take m new ≡ t = rw (a.1, z) (take-append_seam t (drop (length t) out)) in
      (rw z, rw (p, sets-eq t held 0 (omega arith), zero-add), a.1)

-- record k of a job under way: the patch is asked of the h bytes that are held, and answered
pub record Turn (p : Progress) (l : Layout) (n k h : ℕ) (held head bytes out new : List ℕ) (r : Result ℕ ℕ) : Type 0 where
  pub under : p ≡ Under l n k
  pub part : h ≡ pick (ltb n (length held)) n (length held)
  pub answers : Answers (record_outcome l (length out) (take (h - 0) held) (record_of head bytes)) r out new

-- it is answered with an image of m bytes, for which there is room
pub record MadeTurn (p : Progress) (l : Layout) (n k h : ℕ) (held head bytes out new : List ℕ) (r : Result ℕ ℕ) (m : ℕ) : Type 0 where
  pub turn : Turn p l n k h held head bytes out new r
  pub long : r ≡ Ok m
  pub room : length out ≤ length held

module _ (p : Progress) (l : Layout) (n k h : ℕ) (held head bytes out new : List ℕ) (r : Result ℕ ℕ) where
  of_held : Turn p l n k h held head bytes out new r → Answers (turn_of (length out) (Under l n k) held head bytes) r out new
  of_held t = rw (sub-zero, held_part n h held t.part) at t.answers

  pub stepped_refused : Turn p l n k h held head bytes out new r → (m : ℕ) → r ≡ Err m
      → Steps (turn_of (length out) p held head bytes) p (Refused k m) held held out new
  stepped_refused t m g =
      subst⁻¹ (λ (x : Progress). Steps (turn_of (length out) x held head bytes) x (Refused k m) held held out new) t.under
      (step_refused l n k held out new r (turn_of (length out) (Under l n k) held head bytes) m (of_held t) g)

  module _ (m : ℕ) (t : MadeTurn p l n k h held head bytes out new r m) where
    pub new_fits : m ≤ length out
    new_fits = answer_fits l (take (h - 0) held) (record_of head bytes) out new r m t.turn.answers t.long

    pub part_fits : length new ≡ length out → 0 + length (take (m - 0) new) ≤ length held
    part_fits z = rw sub-zero (omega (arith, new_fits, t.room, length-take-le m new (omega (arith, new_fits))))

    pub stepped_made : (x : ℕ) (held' : List ℕ) → x ≡ next_place k → held' ≡ sets held 0 (take (m - 0) new)
        → Steps (turn_of (length out) p held head bytes) p (Under l m x) held held' out new
    stepped_made x held' y w =
        rw (w, sub-zero, y)
        (subst⁻¹ (λ (z : Progress). Steps (turn_of (length out) z held head bytes) z (Under l m (next_place k)) held
        (sets held 0 (take m new)) out new) t.turn.under
        (step_made l n k held out new r (turn_of (length out) (Under l n k) held head bytes) m (of_held t.turn) t.long
        (omega (arith, new_fits, t.room))))

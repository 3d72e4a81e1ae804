-- A contract that gives the answer and the buffer by equations admits one outcome; what the room of a lent buffer does to it.
use Rattle.std.specs.Prelude.{Err, Ok, Result}
use Rattle.std.proofs.Common.{◌≡◌, ℕ, ◌<◌, ◌≤◌, List, [], ◌++◌, length, take, drop, sym, refl, ap, ◌∙◌, append-nil}
use Rattle.std.proofs.Common.{le_of_suc-le-suc, lt_of_not-le, zero-add, arith, drop_of_length-le, length-take-le, le-ltb, lt-ltb}
use Rattle.std.proofs.Common.{ne_eqb}
use borrow.Rule.Slice.PartMut.{put_mid}
use lib.Seq.{sets, sets-eq}
use Rattle.bits.specs.Outcome.{Outcome, refused, made, outcome_for, written, answered, roomed, Answers}

-- two runs on the same input whose answers and buffers both meet such a contract end alike
pub one_outcome : {A : Type 0} (answer r r' : A) (buffer b b' : List ℕ)
    → (r ≡ answer) × (b ≡ buffer) → (r' ≡ answer) × (b' ≡ buffer) → (r ≡ r') × (b ≡ b')
one_outcome answer r r' buffer b b' p q = (p.0 ∙ sym q.0, p.1 ∙ sym q.1)

-- so do two runs that both promise `Answers`
pub one_answer : (o : Outcome) (r r' : Result ℕ ℕ) (old new new' : List ℕ) → Answers o r old new → Answers o r' old new'
    → (r ≡ r') × (new ≡ new')
one_answer o r r' old new new' p q = one_outcome (answered o) r r' (written o old) new new' p q

module _ (room : ℕ) (new : List ℕ) where
  pub roomed_short : room < length new → roomed room (made new) ≡ refused 13
  unfolding roomed
  roomed_short h = rw (lt-ltb _ _ h)

  pub roomed-fits : length new ≤ room → roomed room (made new) ≡ made new
  unfolding roomed
  roomed-fits h = rw (le-ltb _ _ h)

-- a longer buffer changes no answer but 13
pub roomed_more : (o : Outcome) (room more : ℕ) → room ≤ more → (roomed room o ≡ refused 13 → ⊥)
    → roomed more o ≡ roomed room o
unfolding roomed
roomed_more (refused n) room more h k = refl
roomed_more (made new) room more h k =
    let l : length new ≤ room = le_of_suc-le-suc (lt_of_not-le (λ p. k (roomed_short room new p))) in
    roomed-fits more new (omega arith) ∙ sym (roomed-fits room new l)

-- a part that is lent from the front for what is made, and written, is a buffer that is written
pub lent-front : (new old part : List ℕ) (n : ℕ) (r : Result ℕ ℕ) → n ≡ length new → n ≤ length old
    → Answers (made new) r (take n (drop 0 old)) part → Answers (made new) r old (put_mid 0 n old part)
lent-front new old part n r e h a =
    let k : drop (length new) (take n old) ≡ []
    = drop_of_length-le (take n old) {i = length new} (omega (arith, length-take-le n old h)) in
    let p : part ≡ new = a.1 ∙ rw (k, append-nil) in
    (a.0, rw (p, e))

-- ---- what is put at the front of a buffer

module _ (new old : List ℕ) where
  pub told_short : length old < length new → Answers (roomed (length old) (made new)) (Err 13) old old
  told_short h = rw (roomed_short (length old) new h) (refl, refl)

  front : (exit : List ℕ) → length new ≤ length old → exit ≡ sets old 0 new → exit ≡ new ++ drop (length new) old
  front exit h e = e ∙ sets-eq new old 0 (omega arith) ∙ ap (λ (j : ℕ). new ++ drop j old) (zero-add (length new))

  pub told-fits : (exit : List ℕ) → length new ≤ length old → exit ≡ sets old 0 new
      → Answers (roomed (length old) (made new)) (Ok (length new)) old exit
  told-fits exit h e = rw (roomed-fits (length old) new h) (refl, front exit h e)

  -- where the room is no matter
  pub told_all : (exit : List ℕ) → length new ≤ length old → exit ≡ sets old 0 new
      → Answers (made new) (Ok (length new)) old exit
  told_all exit h e = (refl, front exit h e)

-- ---- by the number of a refusal

refused_for : (n k : ℕ) (new : List ℕ) → (0 < n) × (n ≡ k) → outcome_for n new ≡ refused k
refused_for n k new (h, e) = rw (ne_eqb n 0 (λ z. omega arith), e)

module _ (n k : ℕ) (new : List ℕ) (h : (0 < n) × (n ≡ k)) (old : List ℕ) where
  pub refused_outcome : Answers (outcome_for n new) (Err k) old old
  refused_outcome = rw (refused_for n k new h) (refl, refl)

  pub refused_read : (room : ℕ) → Answers (roomed room (outcome_for n new)) (Err k) old old
  unfolding roomed
  refused_read room = rw (refused_for n k new h) (refl, refl)

pub found_read : (n : ℕ) (new new' : List ℕ) (o : Outcome → Outcome) (a : Result ℕ ℕ) (old exit : List ℕ) → n ≡ 0
    → new ≡ new'
    → Answers (o (made new)) a old exit → Answers (o (outcome_for n new')) a old exit
found_read n new new' o a old exit z e w = rw (z, ← e) w

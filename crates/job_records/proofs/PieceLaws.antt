-- The pieces of a job give the job: the loop of a program is the definition read aloud.
use Rattle.std.specs.Prelude.{Ok, Err, Result}
use Rattle.std.proofs.Common.{◌≡◌, ℕ, zero, suc, ◌+◌, ◌%◌, ◌^◌, ◌<◌, ◌≤◌, Bool, true, false, eqb, ltb, List, [], ◌∷◌, length}
use Rattle.std.proofs.Common.{take, drop, sym, refl, ap, ◌∙◌, mod-eq_of_lt, arith, length-drop, length-take-le, take_all}
use Rattle.std.proofs.Common.{ltb-false, ltb-true, le-ltb, lt-ltb, ne_eqb, eqb-true}
use lib.Seq.{take-append_seam}
use Rattle.bits.specs.Choice.{pick}
use Rattle.bits.specs.Outcome.{Outcome, refused, made, written}
use Rattle.bits.proofs.JudgeLaws.{judge_pass}
use Rattle.format.specs.declared.Layout.{Layout}
use Rattle.format.specs.Table as table
use Rattle.footer.specs.Footer.{footer_length}
use Rattle.footer.specs.Finalize.{size_limit, lengthed, sealed, finalize_of}
use Rattle.footer.proofs.FinalizeLaws.{finalize_within}
use Rattle.image.specs.Admission.{checks, refusal}
use Rattle.input_records.specs.Heads.{image_head, patch_head}
use Rattle.job_records.specs.declared.Progress.{Progress}
use Rattle.job_records.specs.declared.Progress.TheVariants.{Under, Refused}
use Rattle.job_records.specs.Job.{Ended, refused_at, stated_of, record_of, content_of, records_of, job_room, record_outcome}
use Rattle.job_records.specs.Job.{onward, job_from, end_of, image_job, head_job, job, refused_at_line, written_by}
use Rattle.job_records.specs.Pieces.{image_stated, begun_head, begun, turn_of, progress_after, Steps, turns, head_of, image_of}
use Rattle.job_records.specs.Pieces.{behind_image}

-- two steps that both promise `Steps` end alike, in both buffers
pub one_step : (o : Outcome) (p r r' : Progress) (held h h' out u u' : List ℕ) → Steps o p r held h out u
    → Steps o p r' held h' out u'
    → (r ≡ r') × (h ≡ h') × (u ≡ u')
one_step o p r r' held h h' out u u' a b = (a.0 ∙ sym b.0, a.1 ∙ sym b.1, a.2 ∙ sym b.2)

-- what is left behind the next record
abbrev rest_of : List ℕ → List ℕ
rest_of rest = drop (8 + stated_of (patch_head (take 8 rest))) rest

-- ---- nothing is done behind a refusal

turns_refused : (n k m : ℕ) (buffer rest : List ℕ) → turns n (Refused k m) buffer rest ≡ refused_at_line k m
unfolding turns
turns_refused zero k m buffer rest = refl
turns_refused (suc n) k m buffer [] = refl
turns_refused (suc n) k m buffer (b ∷ bs) = turns_refused n k m buffer (rest_of (b ∷ bs))

-- ---- the next place, as long as 64 bits count it

next_place : (k : ℕ) → suc k < 2 ^ 64 → (k + 1) % 2 ^ 64 ≡ suc k
next_place k h = let z : k + 1 ≡ suc k = omega arith in rw z (mod-eq_of_lt h)

-- ---- records from place 1 on, one at a time

module _ (l : Layout) where
  -- one record, where what is behind it is as the job has it
  turn : (n k m : ℕ) (buffer : List ℕ) (rest : List ℕ) (o : Outcome) (next : List ℕ → Ended) → suc k < 2 ^ 64
      → ((t buffer : List ℕ) → take (length t) buffer ≡ t
      → turns n (Under l (length t) (suc k)) buffer rest ≡ written_by (next t))
      → turns n (progress_after (Under l m k) o) (written o buffer) rest ≡ written_by (onward k next o)
  turn n k m buffer rest (refused x) next h f = turns_refused n k x buffer rest
  turn n k m buffer rest (made t) next h f =
      rw (next_place k h) (f t (written (made t) buffer) (take-append_seam t (drop (length t) buffer)))

  later : (n k : ℕ) (s buffer rest : List ℕ) → k + n < 2 ^ 64 → 1 < k → take (length s) buffer ≡ s
      → turns n (Under l (length s) k) buffer rest ≡ written_by (job_from l k s (records_of n rest))
  unfolding turns records_of job_from
  later zero k s buffer rest h d e = rw (ne_eqb k 1 (λ w. omega arith)) e
  later (suc n) k s buffer [] h d e = rw (ne_eqb k 1 (λ w. omega arith)) e
  later (suc n) k s buffer (b ∷ bs) h d e =
      rw e
      (turn n k (length s) buffer (rest_of (b ∷ bs)) (record_outcome l job_room s (record_of (take 8 (b ∷ bs)) (content_of (b ∷ bs))))
      (λ t. job_from l (suc k) t (records_of n (rest_of (b ∷ bs)))) (omega arith)
      (λ t buffer' f. later n (suc k) t buffer' (rest_of (b ∷ bs)) (omega arith) (omega arith) f))

  -- the first record, or none: "with no patch, the admitted one finalized"
  first : (n : ℕ) (s buffer rest : List ℕ) → suc n < 2 ^ 64 → take (length s) buffer ≡ s
      → finalize_of s ≡ made (sealed (lengthed s))
      → turns n (Under l (length s) 1) buffer rest ≡ written_by (end_of l s (records_of n rest))
  unfolding turns records_of job_from
  first zero s buffer rest h e f = rw (e, f)
  first (suc n) s buffer [] h e f = rw (e, f)
  first (suc n) s buffer (b ∷ bs) h e f =
      rw e
      (turn n 1 (length s) buffer (rest_of (b ∷ bs)) (record_outcome l job_room s (record_of (take 8 (b ∷ bs)) (content_of (b ∷ bs))))
      (λ t. job_from l 2 t (records_of n (rest_of (b ∷ bs)))) (omega arith)
      (λ t buffer' g. later n 2 t buffer' (rest_of (b ∷ bs)) (omega arith) (omega arith) g))

-- ---- more turns than bytes change nothing

enough : (n m : ℕ) (p : Progress) (buffer rest : List ℕ) → length rest ≤ n → length rest ≤ m
    → turns n p buffer rest ≡ turns m p buffer rest
unfolding turns
enough zero zero p buffer rest h g = refl
enough zero (suc m) p buffer [] h g = refl
enough zero (suc m) p buffer (b ∷ bs) h g = absurd (omega arith)
enough (suc n) zero p buffer [] h g = refl
enough (suc n) zero p buffer (b ∷ bs) h g = absurd (omega arith)
enough (suc n) (suc m) p buffer [] h g = refl
enough (suc n) (suc m) p buffer (b ∷ bs) h g =
    let o = turn_of job_room p buffer (take 8 (b ∷ bs)) (content_of (b ∷ bs)) in
    let k : length (rest_of (b ∷ bs)) ≤ length bs = rw length-drop (omega arith) in
    enough n m (progress_after p o) (written o buffer) (rest_of (b ∷ bs)) (omega (arith, k)) (omega (arith, k))

-- ---- an image that is admitted can be finalized

can_finalize : (l : Layout) (s : List ℕ) → refusal l s ≡ 0 → finalize_of s ≡ made (sealed (lengthed s))
unfolding refusal checks
can_finalize l s e =
    let (short, e₁) = judge_pass _ _ (omega arith) e in
    let (long, e₂) = judge_pass _ _ (omega arith) e₁ in
    let least = ltb-false (length s) (table.header_length + footer_length) short in
    finalize_within s (omega (arith, least)) (ltb-false size_limit (length s) long)

-- ---- THE PIECES GIVE THE JOB: what is written behind as many turns as there are bytes, or more, is what the job writes

module _ (n : ℕ) (buffer rest : List ℕ) (more : length rest ≤ n) (counted : suc (length rest) < 2 ^ 64) where
  from_image : (l : Layout) (x : ℕ) → take (length (take x rest)) buffer ≡ take x rest → (b : Bool)
      → eqb (refusal l (take x rest)) 0 ≡ b
      → turns n (pick b (Under l (length (take x rest)) 1) (Refused 0 (refusal l (take x rest)))) buffer (drop x rest)
      ≡ written_by (pick b (end_of l (take x rest) (records_of (length rest) (drop x rest))) (refused_at 0 (refusal l (take x rest))))
  from_image l x e false f = turns_refused n 0 (refusal l (take x rest)) buffer (drop x rest)
  from_image l x e true f =
      let k : length (drop x rest) ≤ length rest = rw length-drop (omega arith) in
      enough n (length rest) (Under l (length (take x rest)) 1) buffer (drop x rest) (omega (arith, k)) k
      ∙ first l (length rest) (take x rest) buffer (drop x rest) counted e
      (can_finalize l (take x rest) (eqb-true (refusal l (take x rest)) 0 f))

  from_head : (h : Result (Layout × ℕ) ℕ) → take (length (take (image_stated h) rest)) buffer ≡ take (image_stated h) rest
      → turns n (begun_head h (take (image_stated h) rest)) buffer (drop (image_stated h) rest) ≡ written_by (head_job h rest)
  unfolding image_job
  from_head (Err m) e = turns_refused n 0 m buffer (drop 0 rest)
  from_head (Ok (l, x)) e = go (ltb (length rest) x) refl
    where
      go : (b : Bool) → ltb (length rest) x ≡ b
          → turns n (begun_head (Ok (l, x)) (take x rest)) buffer (drop x rest)
          ≡ written_by (pick b (refused_at 0 15) (image_job l (take x rest) (records_of (length rest) (drop x rest))))
      go true f =
          let h : length rest < x = ltb-true (length rest) x f in
          let z : length (take x rest) ≡ length rest = ap length (take_all x rest (omega arith)) in
          rw (lt-ltb (length (take x rest)) x (omega arith)) (turns_refused n 0 15 buffer (drop x rest))
      go false f =
          let z : length (take x rest) ≡ x = length-take-le x rest (ltb-false (length rest) x f) in
          rw (le-ltb (length (take x rest)) x (omega arith)) (from_image l x e (eqb (refusal l (take x rest)) 0) refl)

pub pieces_give_the_job : (n : ℕ) (input buffer : List ℕ) → length input ≤ n → suc (length input) < 2 ^ 64
    → take (length (image_of input)) buffer ≡ image_of input
    → turns n (begun (head_of input) (image_of input)) buffer (behind_image input) ≡ written_by (job input)
unfolding begun job
pieces_give_the_job n input buffer h k e =
    let z : length (drop 7 input) ≤ length input = rw length-drop (omega arith) in
    from_head n buffer (drop 7 input) (omega (arith, z)) (omega (arith, z)) (image_head (take 7 input)) e

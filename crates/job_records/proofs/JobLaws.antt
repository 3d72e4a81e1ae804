-- The job's fold, which stops at the first refused record, is the fold over a list of patches up to there.
use Rattle.std.proofs.Common.{◌≡◌, ℕ, suc, List, [], ◌∷◌, refl, ap, subst, add-zero, arith}
use Rattle.bits.specs.Outcome.{Outcome, refused, made}
use Rattle.format.specs.declared.Layout.{Layout}
use Rattle.patches.specs.Patches.{Patch, Step, step_of, image_after, run}
use Rattle.job_records.specs.Job.{Record, asks, wrong, Ended, image, refused_at, job_room, record_outcome, onward, job_from}
use Rattle.job_records.specs.Job.{as_steps, EndsAs}
use Rattle.job_records.specs.Job.EndsAs.{whole, stopped}

run-next : (l : Layout) (p : Step) (ps : List Step) (s t : List ℕ) → step_of l s p ≡ made t → run l (p ∷ ps) s ≡ run l ps t
unfolding run
run-next l p ps s t e = ap (λ (o : Outcome). run l ps (image_after o s)) e

-- record k is accepted, and the records behind it end on its image
accepted_first : (l : Layout) (k : ℕ) (p : Patch) (rs : List Record) (s t : List ℕ) (x : Ended)
    → step_of l s (record { patch = p; room = job_room }) ≡ made t
    → EndsAs l (suc k) t rs x → EndsAs l k s (asks p ∷ rs) x
accepted_first l k p rs s t x e (whole ps q a) =
    subst (λ (u : List ℕ). EndsAs l k s (asks p ∷ rs) (image u)) (run-next l (record { patch = p; room = job_room }) (as_steps ps) s t e)
    (whole (p ∷ ps) (ap (λ (y : List Record). asks p ∷ y) q) ((t, e), rw e a))
accepted_first l k p rs s t x e (stopped ps r later n q a f) =
    subst (λ (m : ℕ). EndsAs l k s (asks p ∷ rs) (refused_at m n)) (omega arith)
    (stopped (p ∷ ps) r later n (ap (λ (y : List Record). asks p ∷ y) q) ((t, e), rw e a)
    (rw (run-next l (record { patch = p; room = job_room }) (as_steps ps) s t e) f))

-- record k is refused
refused_first : (l : Layout) (k : ℕ) (r : Record) (rs : List Record) (s : List ℕ) (n : ℕ)
    → record_outcome l job_room s r ≡ refused n → EndsAs l k s (r ∷ rs) (refused_at k n)
unfolding run
refused_first l k r rs s n e = subst (λ (m : ℕ). EndsAs l k s (r ∷ rs) (refused_at m n)) (add-zero k) (stopped [] r rs n refl tt e)

-- a job ends with the image of all its patches, or stops at the first record that is refused
pub up_to_there : (l : Layout) (rs : List Record) (k : ℕ) (s : List ℕ) → EndsAs l k s rs (job_from l k s rs)
unfolding job_from record_outcome run
up_to_there l [] k s = whole [] refl tt
up_to_there l (wrong ∷ rs) k s = refused_first l k wrong rs s 15 refl
up_to_there l (asks p ∷ rs) k s = go (step_of l s (record { patch = p; room = job_room })) refl (λ t. up_to_there l rs (suc k) t)
  where
    go : (o : Outcome) → step_of l s (record { patch = p; room = job_room }) ≡ o
        → ((t : List ℕ) → EndsAs l (suc k) t rs (job_from l (suc k) t rs))
        → EndsAs l k s (asks p ∷ rs) (onward k (λ t. job_from l (suc k) t rs) o)
    go (refused n) e f = refused_first l k (asks p) rs s n e
    go (made t) e f = accepted_first l k p rs s t (job_from l (suc k) t rs) e (f t)

-- A list of patches that stops at the first refusal, as demand 3 reads a list: it makes an image exactly where all are accepted, the one
-- that the list ends in, and is refused exactly where one is, with the number that this one is due.
use mathlib.Core.Path.{◌≡◌, refl, ap, sym, ◌∙◌}
use mathlib.Core.Logic.{inl, inr, ◌↔◌}
use mathlib.Core.List.{List, [], ◌∷◌}
use Prim.Native.Nat.{ℕ}
use native.Mathlib.Omega.{arith}
use Rattle.bits.specs.Outcome.{Outcome, refused, made}
use Rattle.format.specs.declared.Layout.{Layout}
use Rattle.image.specs.Admitted.{Admitted}
use Rattle.strings.specs.Pass.{onward}
use Rattle.patches.specs.Patches.{Step, step_of, image_after, run}
use Rattle.patches.specs.Lists.{InBytes, AllInBytes, Accepted, AllAccepted}
use Rattle.patches.proofs.StepLaws.{step_promise}
use Rattle.patches.proofs.ExactLaws.{refused_exactly}
use Rattle.string_steps.specs.Steps.{until_refused, StopsWith}

-- an outcome is not both
pub not_made : {n : ℕ} {t : List ℕ} → refused n ≡ made t → ⊥
not_made e = let z : ◌≡◌ {A = ℕ} 0 1 = cc in omega arith

pub made_same : {t u : List ℕ} → made t ≡ made u → t ≡ u
made_same e = cc

pub refused_same : {m n : ℕ} → refused m ≡ refused n → m ≡ n
refused_same e = cc

-- ---- accepted

until_made : (l : Layout) (ps : List Step) (s t : List ℕ) → until_refused l ps s ≡ made t → AllAccepted l ps s × (run l ps s ≡ t)
unfolding until_refused run
until_made l [] s t e = (tt, made_same e)
until_made l (p ∷ ps) s t e = go (step_of l s p) refl (until_made l ps) e
  where
    go : (o : Outcome) → step_of l s p ≡ o
        → ((u x : List ℕ) → until_refused l ps u ≡ made x → AllAccepted l ps u × (run l ps u ≡ x))
        → onward o (until_refused l ps) ≡ made t
        → (Accepted l s p × AllAccepted l ps (image_after (step_of l s p) s)) × (run l ps (image_after (step_of l s p) s) ≡ t)
    go (refused n) q rest e = absurd (not_made e)
    go (made u) q rest e = let (a, r) = rest u t e in rw q (((u, refl), a), r)

until_all : (l : Layout) (ps : List Step) (s : List ℕ) → AllAccepted l ps s → until_refused l ps s ≡ made (run l ps s)
unfolding until_refused run
until_all l [] s a = refl
until_all l (p ∷ ps) s ((t, q), a) =
    ap (λ (o : Outcome). onward o (until_refused l ps)) q
    ∙ until_all l ps t (rw q at a) ∙ ap (λ (o : Outcome). made (run l ps (image_after o s))) (sym q)

-- the list makes an image exactly where each patch is accepted, and it is the one that demand 3's list ends in
pub made_exactly : (l : Layout) (ps : List Step) (s t : List ℕ) → until_refused l ps s ≡ made t
    ↔ (AllAccepted l ps s × (run l ps s ≡ t))
made_exactly l ps s t = (until_made l ps s t, λ (a, e). until_all l ps s a ∙ ap made e)

-- ---- refused

-- what an accepted patch makes is admitted
after_admitted : (l : Layout) (s : List ℕ) → Admitted l s → (p : Step) → InBytes p.patch → (t : List ℕ)
    → step_of l s p ≡ made t
    → Admitted l t
after_admitted l s ad p b t q = (step_promise l s ad p t b q).kept.admitted

until_refused_lem : (l : Layout) (ps : List Step) (s : List ℕ) → Admitted l s → AllInBytes ps → (n : ℕ)
    → until_refused l ps s ≡ refused n → StopsWith l ps s n
unfolding until_refused
until_refused_lem l [] s ad b n e = not_made (sym e)
until_refused_lem l (p ∷ ps) s ad b n e = go (step_of l s p) refl (λ u a. until_refused_lem l ps u a b.1) e
  where
    go : (o : Outcome) → step_of l s p ≡ o
        → ((u : List ℕ) → Admitted l u → (k : ℕ) → until_refused l ps u ≡ refused k → StopsWith l ps u k)
        → onward o (until_refused l ps) ≡ refused n → StopsWith l (p ∷ ps) s n
    go (refused k) q rest e = inl ((refused_exactly l s ad.bytes p b.0 n).0 (q ∙ e))
    go (made u) q rest e = inr ((u, q), rw q (rest u (after_admitted l s ad p b.0 u q) n e))

stops_until : (l : Layout) (ps : List Step) (s : List ℕ) → Admitted l s → AllInBytes ps → (n : ℕ) → StopsWith l ps s n
    → until_refused l ps s ≡ refused n
unfolding until_refused
stops_until l [] s ad b n x = absurd x
stops_until l (p ∷ ps) s ad b n (inl f) =
    ap (λ (o : Outcome). onward o (until_refused l ps)) ((refused_exactly l s ad.bytes p b.0 n).1 f)
stops_until l (p ∷ ps) s ad b n (inr ((t, q), x)) =
    ap (λ (o : Outcome). onward o (until_refused l ps)) q
    ∙ stops_until l ps t (after_admitted l s ad p b.0 t q) b.1 n (rw q at x)

-- the list is refused exactly where one patch is, all before it accepted
pub refused_until : (l : Layout) (ps : List Step) (s : List ℕ) → Admitted l s → AllInBytes ps → (n : ℕ)
    → until_refused l ps s ≡ refused n ↔ StopsWith l ps s n
refused_until l ps s ad b n = (until_refused_lem l ps s ad b n, stops_until l ps s ad b n)

-- The order of lines: none leads back from outside the subset, and where it is right the values grow line by line to those of the
-- definition.
use mathlib.Core.Path.{◌≡◌, refl, ap, sym, ◌∙◌}
use mathlib.Core.Bool.{Bool, true, false}
use mathlib.Core.List.{List, [], ◌∷◌, ◌++◌, append_assoc, append-nil}
use Prim.Native.Nat.{ℕ}
use native.Mathlib.Omega.{arith}
use Rattle.bits.specs.Choice.{pick}
use Rattle.po_lines.specs.declared.Kind.{Kind}
use Rattle.po_lines.specs.declared.Kind.TheVariants.{Blank, Msgid, Msgstr, More, Outside}
use Rattle.po_lines.specs.Kinds.{Line, opens_value, continues_value}
use Rattle.po_pairs.specs.declared.Stand.{Stand}
use Rattle.po_pairs.specs.declared.Stand.TheVariants.{Between, InId, InStr, Astray}
use Rattle.po_pairs.specs.Order.{follow, stand_after, ends_well, is_astray}
use Rattle.po_pairs.specs.Pairs.{continued, values_of, paired, unpaired}
use Rattle.po_pairs.specs.Held.{last_joined, grown}

pub never : {A : Type 0} → ◌≡◌ {A = Bool} false true → A
never e = absurd (let z : ◌≡◌ {A = ℕ} 0 1 = cc in omega arith)

pub astray_stays : (ls : List Line) → stand_after Astray ls ≡ Astray
unfolding stand_after
astray_stays [] = refl
astray_stays (l ∷ ls) = astray_stays ls

pub astray_is : (st : Stand) → is_astray st ≡ true → st ≡ Astray
astray_is Between h = never h
astray_is InId h = never h
astray_is InStr h = never h
astray_is Astray h = refl

-- lines that go astray do not end well
pub astray_ends : (st : Stand) (ls : List Line) → is_astray st ≡ true → ends_well (stand_after st ls) ≡ false
astray_ends st ls h = rw (astray_is st h, astray_stays ls)

pub outside_astray : (st : Stand) → is_astray (follow st Outside) ≡ true
outside_astray Between = refl
outside_astray InId = refl
outside_astray InStr = refl
outside_astray Astray = refl

never_astray : {A : Type 0} (ls : List Line) → ends_well (stand_after Astray ls) ≡ true → A
never_astray ls h = never (sym (astray_ends Astray ls refl) ∙ h)

-- ---- values grow to those of the definition

last_joined_lem : (vs : List (List ℕ)) (v t : List ℕ) → last_joined (vs ++ (v ∷ [])) t ≡ vs ++ ((v ++ t) ∷ [])
last_joined_lem [] v t = refl
last_joined_lem (u ∷ []) v t = refl
last_joined_lem (u ∷ w ∷ vs) v t = ap (λ (l : List (List ℕ)). u ∷ l) (last_joined_lem (w ∷ vs) v t)

-- from a place between pairs all further values are those of the lines; within a value they continue it first
abbrev Grows : Stand → List Line → Type 0
Grows Between ls = (vs : List (List ℕ)) → grown vs ls ≡ vs ++ values_of ls
Grows InId ls = (vs : List (List ℕ)) (v : List ℕ) → grown (vs ++ (v ∷ [])) ls ≡ vs ++ ((v ++ continued ls) ∷ values_of ls)
Grows InStr ls = (vs : List (List ℕ)) (v : List ℕ) → grown (vs ++ (v ∷ [])) ls ≡ vs ++ ((v ++ continued ls) ∷ values_of ls)
Grows Astray ls = Unit {0}

module _ (ls : List Line) (t : List ℕ) where
  -- one more line, by its kind
  abbrev next : List (List ℕ) → Kind → List (List ℕ)
  next vs k = grown (pick (opens_value k) (vs ++ (t ∷ [])) (pick (continues_value k) (last_joined vs t) vs)) ls

  abbrev after : Kind → List (List ℕ)
  after k = pick (opens_value k) ((t ++ continued ls) ∷ values_of ls) (values_of ls)

  abbrev adds : Kind → List ℕ
  adds k = pick (continues_value k) (t ++ continued ls) []

  -- behind a value that no line continues
  opens : (k : Kind) → opens_value k ≡ true → continues_value k ≡ false
      → ((vs : List (List ℕ)) (v : List ℕ) → grown (vs ++ (v ∷ [])) ls ≡ vs ++ ((v ++ continued ls) ∷ values_of ls))
      → (vs : List (List ℕ)) (v : List ℕ) → next (vs ++ (v ∷ [])) k ≡ vs ++ ((v ++ adds k) ∷ after k)
  opens k o c p vs v =
      rw (o, c, append-nil v) (p (vs ++ (v ∷ [])) t ∙ append_assoc vs (v ∷ []) ((t ++ continued ls) ∷ values_of ls))

  more : ((vs : List (List ℕ)) (v : List ℕ) → grown (vs ++ (v ∷ [])) ls ≡ vs ++ ((v ++ continued ls) ∷ values_of ls))
      → (vs : List (List ℕ)) (v : List ℕ) → next (vs ++ (v ∷ [])) More ≡ vs ++ ((v ++ (t ++ continued ls)) ∷ values_of ls)
  more p vs v = rw (last_joined_lem vs v t, ← append_assoc v t (continued ls)) (p vs (v ++ t))

  blank : ((vs : List (List ℕ)) → grown vs ls ≡ vs ++ values_of ls)
      → (vs : List (List ℕ)) (v : List ℕ) → grown (vs ++ (v ∷ [])) ls ≡ vs ++ ((v ++ []) ∷ values_of ls)
  blank p vs v = rw (append-nil v) (p (vs ++ (v ∷ [])) ∙ append_assoc vs (v ∷ []) (values_of ls))

grows : (ls : List Line) (st : Stand) → ends_well (stand_after st ls) ≡ true → Grows st ls
unfolding stand_after grown values_of continued
grows [] Between h = λ vs. sym (append-nil vs)
grows [] InId h = never h
grows [] InStr h = λ vs v. rw (append-nil v)
grows [] Astray h = tt
grows (l ∷ ls) st h = go st l.kind l.text h (grows ls (follow st l.kind) h)
  where
    go : (s : Stand) (k : Kind) (t : List ℕ) → ends_well (stand_after (follow s k) ls) ≡ true → Grows (follow s k) ls
        → Grows s (record { kind = k; text = t } ∷ ls)
    go Between Blank t g p = p
    go Between Msgid t g p = λ vs. p vs t
    go Between Msgstr t g p = never_astray ls g
    go Between More t g p = never_astray ls g
    go Between Outside t g p = never_astray ls g
    go InId Blank t g p = never_astray ls g
    go InId Msgid t g p = never_astray ls g
    go InId Msgstr t g p = opens ls t Msgstr refl refl p
    go InId More t g p = more ls t p
    go InId Outside t g p = never_astray ls g
    go InStr Blank t g p = blank ls t p
    go InStr Msgid t g p = opens ls t Msgid refl refl p
    go InStr Msgstr t g p = never_astray ls g
    go InStr More t g p = more ls t p
    go InStr Outside t g p = never_astray ls g
    go Astray k t g p = tt

pub values_grown : (ls : List Line) → ends_well (stand_after Between ls) ≡ true → grown [] ls ≡ values_of ls
values_grown ls h = grows ls Between h []

-- ---- the values of a whole file are pairs

abbrev Even : List (List ℕ) → Type 0
Even vs = unpaired (paired vs) ≡ vs

even_more : (a b : List ℕ) (vs : List (List ℕ)) → Even vs → Even (a ∷ b ∷ vs)
unfolding paired unpaired
even_more a b vs e = ap (λ (ws : List (List ℕ)). a ∷ b ∷ ws) e

-- in a msgid one more value is to come
abbrev Parity : Stand → List (List ℕ) → Type 0
Parity Between vs = Even vs
Parity InId vs = (a : List ℕ) → Even (a ∷ vs)
Parity InStr vs = Even vs
Parity Astray vs = Unit {0}

parity : (ls : List Line) (st : Stand) → ends_well (stand_after st ls) ≡ true → Parity st (values_of ls)
unfolding stand_after values_of paired unpaired
parity [] Between h = refl
parity [] InId h = never h
parity [] InStr h = refl
parity [] Astray h = tt
parity (l ∷ ls) st h = go st l.kind (l.text ++ continued ls) h (parity ls (follow st l.kind) h)
  where
    go : (s : Stand) (k : Kind) (x : List ℕ) → ends_well (stand_after (follow s k) ls) ≡ true → Parity (follow s k) (values_of ls)
        → Parity s (pick (opens_value k) (x ∷ values_of ls) (values_of ls))
    go Between Blank x g p = p
    go Between Msgid x g p = p x
    go Between Msgstr x g p = never_astray ls g
    go Between More x g p = never_astray ls g
    go Between Outside x g p = never_astray ls g
    go InId Blank x g p = never_astray ls g
    go InId Msgid x g p = never_astray ls g
    go InId Msgstr x g p = λ a. even_more a x (values_of ls) p
    go InId More x g p = p
    go InId Outside x g p = never_astray ls g
    go InStr Blank x g p = p
    go InStr Msgid x g p = p x
    go InStr Msgstr x g p = never_astray ls g
    go InStr More x g p = p
    go InStr Outside x g p = never_astray ls g
    go Astray k x g p = tt

-- so nothing is lost where they are taken two by two
pub all_paired : (ls : List Line) → ends_well (stand_after Between ls) ≡ true → unpaired (paired (values_of ls)) ≡ values_of ls
all_paired ls h = parity ls Between h

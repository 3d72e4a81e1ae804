-- Edited strings, each in its turn.
use mathlib.Core.Path.{◌≡◌, refl, ap, sym, ◌∙◌, subst}
use mathlib.Core.Bool.{Bool, true, false}
use mathlib.Core.Logic.{◌⊎◌, inl, inr, ◌≢◌}
use mathlib.Core.Option.{Option, none, some}
use mathlib.Core.List.{List}
use Prim.Native.Nat.{ℕ, zero, suc, ◌≤◌, ◌<◌}
use native.Mathlib.Omega.{arith}
use borrow.Author.Tests.{eq-eqb, ne_eqb, eqb-true, eqb-false}
use lib.Dec.{eqb}
use Rattle.bits.specs.Choice.{both}
use Rattle.bits.proofs.TestLaws.{which, below, below_or, both_0, both_1}
use Rattle.string_edits.specs.Values.{Values, only, joined, Apart, taking, in_turn, all_edited}
use Rattle.string_edits.specs.Told.{Coming}

-- an option is none or some
pub some_or_none : (o : Option (List ℕ)) → (o ≡ none) ⊎ ((value : List ℕ) × (o ≡ some value))
some_or_none none = inl refl
some_or_none (some value) = inr (value, refl)

-- and not both
pub none-some : (x : List ℕ) → none ≡ some x → ⊥
none-some x e = let z : ◌≡◌ {A = ℕ} 0 1 = cc in omega arith

module _ {A : Type 0} (v : Values) (turn : ℕ → List ℕ → A → A) (a : A) where
  pub turn_none : (i : ℕ) → v i ≡ none → in_turn v turn (suc i) a ≡ in_turn v turn i a
  unfolding in_turn
  turn_none i e = ap (λ (o : Option (List ℕ)). taking (turn i) o (in_turn v turn i a)) e

  pub turn_some : (i : ℕ) (value : List ℕ) → v i ≡ some value → in_turn v turn (suc i) a ≡ turn i value (in_turn v turn i a)
  unfolding in_turn
  turn_some i value e = ap (λ (o : Option (List ℕ)). taking (turn i) o (in_turn v turn i a)) e

  -- strings that get no value do nothing
  pub turn_skip : (i n : ℕ) → i ≤ n → ((j : ℕ) → i ≤ j → j < n → v j ≡ none) → in_turn v turn n a ≡ in_turn v turn i a
  turn_skip i zero h q = let e : i ≡ 0 = omega arith in rw e
  turn_skip i (suc n) h q = elim (below_or n i) [
    | inl g ↦ let e : i ≡ suc n = omega arith in rw e
    | inr g ↦ turn_none n (q n g (omega arith)) ∙ turn_skip i n g (λ j k l. q j k (omega arith))
  ]

  -- the next edited string, and none behind the last
  pub turn_next : (value : List ℕ) (from id : ℕ) → Coming v value from id → id < 0x100000000
      → in_turn v turn (suc id) a ≡ turn id value (in_turn v turn from a)
  turn_next value from id c h =
      turn_some id value (c.at h) ∙ ap (turn id value) (turn_skip from id c.past c.before)

  pub turn_last : (value : List ℕ) (from id n : ℕ) → Coming v value from id → from ≤ n → n ≤ id
      → in_turn v turn n a ≡ in_turn v turn from a
  turn_last value from id n c h k = turn_skip from n h (λ j g l. c.before j g (omega arith))

pub turn_start : {A : Type 0} (v : Values) (turn : ℕ → List ℕ → A → A) (a : A) → in_turn v turn 0 a ≡ a
unfolding in_turn
turn_start v turn a = refl

-- string i, one of the first n, gets a value
pub record Gets (v : Values) (n i : ℕ) (value : List ℕ) : Type 0 where
  pub known : i < n
  pub gets : v i ≡ some value

-- what holds at the start and is kept by each turn holds after all
pub turn_along : {A : Type 0} (v : Values) (turn : ℕ → List ℕ → A → A) (a : A) (P : ℕ → A → Type 0) (n : ℕ) → P 0 a
    → ((i : ℕ) (b : A) → v i ≡ none → P i b → P (suc i) b)
    → ((i : ℕ) (value : List ℕ) (b : A) → Gets v n i value → P i b → P (suc i) (turn i value b))
    → P n (in_turn v turn n a)
turn_along v turn a P zero p skip take = rw (turn_start v turn a) p
turn_along {A = A} v turn a P (suc n) p skip take =
    let rest : P n (in_turn v turn n a)
    = turn_along v turn a P n p skip (λ i value b g. take i value b (record { known = omega (arith, g.known); gets = g.gets })) in
    elim (some_or_none (v n)) [
      | inl q ↦ subst (P (suc n)) (sym (turn_none v turn a n q)) (skip n (in_turn v turn n a) q rest)
      | inr (value, q) ↦ subst (P (suc n)) (sym (turn_some v turn a n value q))
          (take n value (in_turn v turn n a) (record { known = omega arith; gets = q }) rest)
    ]

-- what holds of two and is kept by each turn of both holds after all
pub turn_both : {A : Type 0} (v : Values) (turn : ℕ → List ℕ → A → A) (R : A → A → Type 0) (a b : A) (n : ℕ) → R a b
    → ((i : ℕ) (value : List ℕ) (x y : A) → i < n → R x y → R (turn i value x) (turn i value y))
    → R (in_turn v turn n a) (in_turn v turn n b)
turn_both v turn R a b zero r t = rw (turn_start v turn a, turn_start v turn b) r
turn_both v turn R a b (suc n) r t =
    let rest = turn_both v turn R a b n r (λ i value x y h. t i value x y (omega arith)) in
    elim (some_or_none (v n)) [
      | inl q ↦ rw (turn_none v turn a n q, turn_none v turn b n q) rest
      | inr (value, q) ↦ rw (turn_some v turn a n value q, turn_some v turn b n value q)
          (t n value (in_turn v turn n a) (in_turn v turn n b) (omega arith) rest)
    ]

-- what no turn changes
pub turn_keeps : {A : Type 0} {B : Type 0} (v : Values) (turn : ℕ → List ℕ → A → A) (a : A) (f : A → B) (n : ℕ)
    → ((i : ℕ) (value : List ℕ) (b : A) → f (turn i value b) ≡ f b) → f (in_turn v turn n a) ≡ f a
turn_keeps {A = A} v turn a f n h =
    turn_along v turn a (λ (i : ℕ) (b : A). f b ≡ f a) n refl (λ i b q p. p) (λ i value b g p. h i value b ∙ p)

-- the same turns of the same values
pub turn_ext : {A : Type 0} (v w : Values) (turn other : ℕ → List ℕ → A → A) (a : A) (n : ℕ) → ((i : ℕ) → i < n
    → v i ≡ w i)
    → ((i : ℕ) → i < n → (value : List ℕ) (b : A) → turn i value b ≡ other i value b)
    → in_turn v turn n a ≡ in_turn w other n a
turn_ext v w turn other a zero e t = turn_start v turn a ∙ sym (turn_start w other a)
turn_ext {A = A} v w turn other a (suc n) e t =
    let rest : in_turn v turn n a ≡ in_turn w other n a = turn_ext v w turn other a n (λ i h. e i (omega arith))
    (λ i h. t i (omega arith)) in
    elim (some_or_none (w n)) [
      | inl q ↦ turn_none v turn a n (e n (omega arith) ∙ q) ∙ rest ∙ sym (turn_none w other a n q)
      | inr (value, q) ↦ turn_some v turn a n value (e n (omega arith) ∙ q) ∙ t n (omega arith) value (in_turn v turn n a)
          ∙ ap (other n value) rest ∙ sym (turn_some w other a n value q)
    ]

-- ---- one string that gets a value

pub only_own : (id : ℕ) (value : List ℕ) → only id value id ≡ some value
only_own id value = rw (eq-eqb id id refl)

pub only_other : (id : ℕ) (value : List ℕ) (i : ℕ) → i ≢ id → only id value i ≡ none
only_other id value i d = rw (ne_eqb i id d)

-- who gets it
pub only-id : (id : ℕ) (value : List ℕ) (i : ℕ) (x : List ℕ) → only id value i ≡ some x → i ≡ id
only-id id value i x p = elim (which (eqb i id)) [
  | inl t ↦ eqb-true i id t
  | inr t ↦ absurd (none-some x (sym (only_other id value i (eqb-false i id t)) ∙ p))
]

pub turn_only : {A : Type 0} (id : ℕ) (value : List ℕ) (turn : ℕ → List ℕ → A → A) (a : A) (n : ℕ) → id < n
    → in_turn (only id value) turn n a ≡ turn id value a
turn_only id value turn a n h =
    turn_skip (only id value) turn a (suc id) n h (λ j g l. only_other id value j (λ z. omega arith))
    ∙ turn_some (only id value) turn a id value (only_own id value)
    ∙ ap (turn id value)
    (turn_skip (only id value) turn a 0 id (omega arith) (λ j g l. only_other id value j (λ z. omega arith))
    ∙ turn_start (only id value) turn a)

-- ---- two maps that set no string both

-- a string that gets a value by the one gets none by the other
pub gets_none : (v w : Values) → Apart v w → (i : ℕ) (x : List ℕ) → v i ≡ some x → w i ≡ none
gets_none v w parted i x p = elim (some_or_none (w i)) [ inl q ↦ q | inr (y, q) ↦ absurd (parted i x y p q) ]

pub apart-sym : (v w : Values) → Apart v w → Apart w v
apart-sym v w parted i x y p q = parted i y x q p

-- two such strings are two
pub gets_apart : (v w : Values) → Apart v w → (i j : ℕ) (x y : List ℕ) → v i ≡ some x → w j ≡ some y → i ≢ j
gets_apart v w parted i j x y p q e = parted i x y p (rw e q)

-- one string, and others
pub apart-only : (v : Values) (id : ℕ) (value : List ℕ) → Apart v (only id value) → v id ≡ none
apart-only v id value parted = gets_none (only id value) v (apart-sym v (only id value) parted) id value (only_own id value)

-- two strings, each with a value of its own
pub only-apart : (i j : ℕ) (x y : List ℕ) → i ≢ j → Apart (only i x) (only j y)
only-apart i j x y d k u v p q = d (sym (only-id i x k u p) ∙ only-id j y k v q)

-- what goes with each turn in either order goes with all
pub turn_past : {A : Type 0} (v : Values) (turn : ℕ → List ℕ → A → A) (f : A → A) (a : A) (n : ℕ)
    → ((i : ℕ) (value : List ℕ) → Gets v n i value → (b : A) → turn i value (f b) ≡ f (turn i value b))
    → in_turn v turn n (f a) ≡ f (in_turn v turn n a)
turn_past v turn f a zero t = turn_start v turn (f a) ∙ ap f (sym (turn_start v turn a))
turn_past v turn f a (suc n) t =
    let rest : in_turn v turn n (f a) ≡ f (in_turn v turn n a)
    = turn_past v turn f a n (λ i value g. t i value (record { known = omega (arith, g.known); gets = g.gets })) in
    elim (some_or_none (v n)) [
      | inl q ↦ turn_none v turn (f a) n q ∙ rest ∙ ap f (sym (turn_none v turn a n q))
      | inr (value, q) ↦ turn_some v turn (f a) n value q ∙ ap (turn n value) rest
          ∙ t n value (record { known = omega arith; gets = q }) (in_turn v turn n a) ∙ ap f (sym (turn_some v turn a n value q))
    ]

-- the turns of both are those of the one and then those of the other, if they go in either order
pub turn_joined : {A : Type 0} (v w : Values) → Apart v w → (turn : ℕ → List ℕ → A → A) (a : A) (n : ℕ)
    → ((i j : ℕ) (x y : List ℕ) → Gets v n i x → Gets w n j y → (b : A) → turn j y (turn i x b) ≡ turn i x (turn j y b))
    → in_turn (joined v w) turn n a ≡ in_turn w turn n (in_turn v turn n a)
turn_joined v w parted turn a zero t =
    turn_start (joined v w) turn a ∙ sym (turn_start v turn a) ∙ sym (turn_start w turn (in_turn v turn 0 a))
turn_joined {A = A} v w parted turn a (suc n) t =
    let one : (u : Values) (i : ℕ) (x : List ℕ) → Gets u n i x → Gets u (suc n) i x
    = λ u i x g. record { known = omega (arith, g.known); gets = g.gets } in
    let rest : in_turn (joined v w) turn n a ≡ in_turn w turn n (in_turn v turn n a)
    = turn_joined v w parted turn a n (λ i j x y g h. t i j x y (one v i x g) (one w j y h)) in
    elim (some_or_none (w n)) [
      | inr (y, q) ↦
          turn_some (joined v w) turn a n y (rw q)
          ∙ ap (turn n y) (rest ∙ ap (in_turn w turn n) (sym (turn_none v turn a n (gets_none w v (apart-sym v w parted) n y q))))
          ∙ sym (turn_some w turn (in_turn v turn (suc n) a) n y q)
      | inl q ↦ elim (some_or_none (v n)) [
        | inl p ↦ turn_none (joined v w) turn a n (rw q p) ∙ rest ∙ ap (in_turn w turn n) (sym (turn_none v turn a n p))
            ∙ sym (turn_none w turn (in_turn v turn (suc n) a) n q)
        | inr (x, p) ↦
            turn_some (joined v w) turn a n x (rw q p)
            ∙ ap (turn n x) rest
            ∙ sym (turn_past w turn (turn n x) (in_turn v turn n a) n
            (λ j y g. t n j x y (record { known = omega arith; gets = p }) (one w j y g)))
            ∙ ap (in_turn w turn n) (sym (turn_some v turn a n x p))
            ∙ sym (turn_none w turn (in_turn v turn (suc n) a) n q)
      ]
    ]

-- ---- tests of each that gets a value

module _ (v : Values) (test : ℕ → List ℕ → Bool) where
  abbrev testing : ℕ → List ℕ → Bool → Bool
  testing i value b = both (test i value) b

  -- all of them, behind another test
  pub edited_and : (n : ℕ) (c : Bool) → in_turn v testing n c ≡ both (all_edited v test n) c
  edited_and n c = turn_past v testing (λ b. both b c) true n (λ i value g b. go (test i value) b)
    where
      go : (a b : Bool) → both a (both b c) ≡ both (both a b) c
      go true b = refl
      go false b = refl

  pub edited_at : (n i : ℕ) (value : List ℕ) → all_edited v test n ≡ true → i < n → v i ≡ some value → test i value ≡ true
  edited_at zero i value h k e = absurd (omega arith)
  edited_at (suc n) i value h k e = elim (below i n k) [
    | inl q ↦ let e₁ : v n ≡ some value = rw q at e in
        rw q (both_0 (test n value) (all_edited v test n) (sym (turn_some v testing true n value e₁) ∙ h))
    | inr g ↦ edited_at n i value (fewer n h) g e
  ]
    where
      fewer : (n : ℕ) → all_edited v test (suc n) ≡ true → all_edited v test n ≡ true
      fewer n h = elim (some_or_none (v n)) [
        | inl q ↦ sym (turn_none v testing true n q) ∙ h
        | inr (x, q) ↦ both_1 (test n x) (all_edited v test n) (sym (turn_some v testing true n x q) ∙ h)
      ]

  pub edited_of : (n : ℕ) → ((i : ℕ) → i < n → (value : List ℕ) → v i ≡ some value → test i value ≡ true)
      → all_edited v test n ≡ true
  edited_of zero h = turn_start v testing true
  edited_of (suc n) h =
      let rest : all_edited v test n ≡ true = edited_of n (λ i k. h i (omega arith)) in
      elim (some_or_none (v n)) [
        | inl q ↦ turn_none v testing true n q ∙ rest
        | inr (x, q) ↦ turn_some v testing true n x q ∙ rw (h n (omega arith) x q) rest
      ]

  pub edited_not : (n i : ℕ) (value : List ℕ) → i < n → v i ≡ some value → test i value ≡ false
      → all_edited v test n ≡ false
  edited_not n i value h e f = elim (which (all_edited v test n)) [
    | inl t ↦ absurd (let z : ◌≡◌ {A = Bool} true false = sym (edited_at n i value t h e)
        ∙ f in let y : ◌≡◌ {A = ℕ} 0 1 = cc in omega arith)
    | inr t ↦ t
  ]

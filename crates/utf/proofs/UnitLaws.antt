-- The units that bytes complete: counted, stored and hashed as they come.
use mathlib.Core.Path.{◌≡◌, refl, ap, sym, ◌∙◌, subst}
use mathlib.Core.Bool.{Bool, true, false}
use mathlib.Core.List.{List, [], ◌∷◌, ◌++◌, append_assoc, append-nil}
use Prim.Native.Nat.{ℕ, zero, suc, ◌+◌, ◌-◌, ◌*◌, ◌/◌, ◌%◌, ◌^◌, ◌≤◌, ◌<◌}
use native.Mathlib.Nat.{add_assoc, add-mod-mod}
use native.Mathlib.Numerals.{add-one}
use native.Mathlib.Omega.{arith}
use borrow.Author.Tests.{ltb-true, lt-ltb, ne_eqb}
use lib.Dec.{ltb, leb, eqb}
use lib.ListN.{length, get_or, drop, drop_of_length-le, length-append}
use lib.Seq.{sets, drop-cons}
use Rattle.bits.specs.Choice.{pick, both}
use Rattle.bits.specs.Bytes.{bytes_of}
use Rattle.bits.specs.Word32.{add32, xor32}
use Rattle.bits.proofs.ByteLaws.{length-bytes_of}
use Rattle.bits.proofs.WriteLaws.{sets_append}
use Rattle.format.specs.Hash.{mixed, hash_step, hash_from}
use Rattle.utf.specs.declared.Reading.{Reading}
use Rattle.utf.specs.Utf8.{further, wrong, opens, goes_on, next_byte, units_of_point, completes, units_from, unit_bytes}

-- the units from a place on: those that its byte completes, then the rest
pub units_next : (r : Reading) (s : List ℕ) (i : ℕ) → i < length s
    → units_from r (drop i s) ≡ completes (next_byte r (get_or s i 0)) ++ units_from (next_byte r (get_or s i 0)) (drop (i + 1) s)
unfolding units_from
units_next r s i h = rw (add-one, drop-cons s i 0 h)

pub units_end : (r : Reading) (s : List ℕ) (i : ℕ) → length s ≤ i → units_from r (drop i s) ≡ []
unfolding units_from
units_end r s i h = rw (drop_of_length-le s h)

-- the bytes of one unit and of two
pub one_unit : (u : ℕ) → unit_bytes (u ∷ []) ≡ bytes_of 2 u
unfolding unit_bytes
one_unit u = append-nil (bytes_of 2 u)

pub two_units : (u v : ℕ) → unit_bytes (u ∷ v ∷ []) ≡ bytes_of 2 u ++ bytes_of 2 v
unfolding unit_bytes
two_units u v = rw (append-nil (bytes_of 2 v))

pub length_one : (u : ℕ) → length (unit_bytes (u ∷ [])) ≡ 2
length_one u = ap length (one_unit u) ∙ length-bytes_of 2 u

pub length_two : (u v : ℕ) → length (unit_bytes (u ∷ v ∷ [])) ≡ 4
length_two u v = ap length (two_units u v) ∙ length-append (bytes_of 2 u) (bytes_of 2 v) ∙ rw (length-bytes_of 2 u, length-bytes_of 2 v)

-- one after the other, as the code stores them
pub put_two : (u v at : ℕ) (out out₁ out₂ : List ℕ) → out₁ ≡ sets out at (bytes_of 2 u)
    → out₂ ≡ sets out₁ (at + 2) (bytes_of 2 v) → out₂ ≡ sets out at (unit_bytes (u ∷ v ∷ []))
put_two u v at out out₁ out₂ p q = rw (two_units u v, sets_append (bytes_of 2 u) (bytes_of 2 v), length-bytes_of 2 u, ← p) q

pub bytes_append : (us vs : List ℕ) → unit_bytes (us ++ vs) ≡ unit_bytes us ++ unit_bytes vs
unfolding unit_bytes
bytes_append [] vs = refl
bytes_append (u ∷ us) vs = rw (bytes_append us vs, append_assoc (bytes_of 2 u) (unit_bytes us) (unit_bytes vs))

pub hash_append : (h : ℕ) (us vs : List ℕ) → hash_from h (us ++ vs) ≡ hash_from (hash_from h us) vs
unfolding hash_from
hash_append h [] vs = refl
hash_append h (u ∷ us) vs = hash_append (hash_step h u) us vs

-- the code's step of the hash: a shifted word is cut to 32 bits before it is added
pub hash_step_lem : (h u a b : ℕ) → a ≡ add32 h u → b ≡ add32 a (a * 1024 % 2 ^ 32) → xor32 b (b / 64) ≡ hash_step h u
unfolding hash_step mixed add32
hash_step_lem h u a b p q =
    let e : b ≡ (a + a * 1024) % 2 ^ 32 = q ∙ add-mod-mod a (a * 1024) (2 ^ 32) in
    rw (e, p)

-- ---- never more units than bytes: 1 where a code point is open, so that its last byte may complete two

abbrev pub waits : Reading → ℕ
waits r = pick (eqb r.need 0) 0 1

-- what a reading completes and whether it waits, together
abbrev pub weight : Reading → ℕ
weight r = length (completes r) + waits r

at_most_two : (c : ℕ) → length (units_of_point c) ≤ 2
unfolding units_of_point
at_most_two c = go (ltb c 0x10000)
  where
    go : (t : Bool) → length (pick t (c ∷ []) ((0xD800 + (c - 0x10000) / 0x400) ∷ (0xDC00 + (c - 0x10000) % 0x400) ∷ [])) ≤ 2
    go true = omega arith
    go false = omega arith

ascii_one : (b : ℕ) → b < 0x80 → length (units_of_point b) ≡ 1
unfolding units_of_point
ascii_one b h = rw (lt-ltb b 0x10000 (omega arith))

pick_weight : (t : Bool) (a b : Reading) (k : ℕ) → (t ≡ true → weight a ≤ k) → weight b ≤ k → weight (pick t a b) ≤ k
pick_weight true a b k h g = h refl
pick_weight false a b k h g = g

opens_weight : (b : ℕ) → weight (opens b) ≤ 1
unfolding opens
opens_weight b =
    pick_weight (ltb b 0x80) _ _ 1 (λ t. omega (arith, ascii_one b (ltb-true b 0x80 t)))
    (pick_weight (ltb b 0xC2) _ _ 1 (λ t. omega arith)
    (pick_weight (ltb b 0xE0) _ _ 1 (λ t. omega arith)
    (pick_weight (ltb b 0xF0) _ _ 1 (λ t. omega arith) (pick_weight (ltb b 0xF5) _ _ 1 (λ t. omega arith) (omega arith)))))

further_weight : (n p : ℕ) → weight (further n p) ≤ 2
further_weight zero p = omega (arith, at_most_two p)
further_weight (suc n) p = rw (ne_eqb (suc n) 0 (λ e. omega arith)) (omega arith)

pub next_weight : (r : Reading) (b : ℕ) → weight (next_byte r b) ≤ 1 + waits r
unfolding next_byte
next_weight r b =
    pick_weight r.ok _ _ (1 + waits r) (λ t. go (eqb r.need 0)) (omega arith)
  where
    go : (t : Bool) → weight (pick t (opens b) (goes_on r b)) ≤ 1 + pick t 0 1
    go true = opens_weight b
    go false =
        pick_weight (both (leb r.lo b) (leb b r.hi)) (further (r.need - 1) (r.point * 64 + (b - 0x80))) wrong 2
        (λ t. further_weight (r.need - 1) (r.point * 64 + (b - 0x80))) (omega arith)

-- ---- turns of the loops; `q` is the reading after byte i, `us` the units that it completes, `x` what the loop is to give

pub rest : (r q : Reading) (s us : List ℕ) (i : ℕ) → i < length s → q ≡ next_byte r (get_or s i 0) → us ≡ completes q
    → units_from r (drop i s) ≡ us ++ units_from q (drop (i + 1) s)
rest r q s us i h n u =
    units_next r s i h
    ∙ subst (λ (z : Reading). completes z ++ units_from z (drop (i + 1) s) ≡ us ++ units_from q (drop (i + 1) s)) n
    (ap (λ (z : List ℕ). z ++ units_from q (drop (i + 1) s)) (sym u))

-- there is a byte i, and the code read it and took the units that it completes
pub record ByteTaken (r q : Reading) (s us : List ℕ) (i : ℕ) : Type 0 where
  pub more : i < length s
  pub next : q ≡ next_byte r (get_or s i 0)
  pub completed : us ≡ completes q

module _ (r q : Reading) (s us : List ℕ) (i : ℕ) (t : ByteTaken r q s us i) where
  parted : units_from r (drop i s) ≡ us ++ units_from q (drop (i + 1) s)
  parted = rest r q s us i t.more t.next t.completed

  pub count_turn : (k x : ℕ) → k + length (units_from r (drop i s)) ≡ x → k + length us + length (units_from q (drop (i + 1) s)) ≡ x
  count_turn k x e =
      add_assoc k (length us) (length (units_from q (drop (i + 1) s)))
      ∙ ap (λ (m : ℕ). k + m) (sym (length-append us (units_from q (drop (i + 1) s)))) ∙ rw parted at e

  -- the counted units and the reading's wait stay below the bytes read
  pub weight_turn : length us + waits q ≤ 1 + waits r
  weight_turn = rw t.completed (subst (λ (z : Reading). weight z ≤ 1 + waits r) (sym t.next) (next_weight r (get_or s i 0)))

  pub hash_turn : (g x : ℕ) → hash_from g (units_from r (drop i s)) ≡ x
      → hash_from (hash_from g us) (units_from q (drop (i + 1) s)) ≡ x
  hash_turn g x e = sym (hash_append g us (units_from q (drop (i + 1) s))) ∙ rw parted at e

  -- what is left to store
  pub left : unit_bytes (units_from r (drop i s)) ≡ unit_bytes us ++ unit_bytes (units_from q (drop (i + 1) s))
  left = ap unit_bytes parted ∙ bytes_append us (units_from q (drop (i + 1) s))

  -- and there is room for what this byte completes, and for the rest
  pub put-room : (to room : ℕ) → to + length (unit_bytes (units_from r (drop i s))) ≤ room
      → (to + length (unit_bytes us) ≤ room) × (to + length (unit_bytes us) + length (unit_bytes (units_from q (drop (i + 1) s))) ≤ room)
  put-room to room k =
      let e : length (unit_bytes (units_from r (drop i s))) ≡ length (unit_bytes us) + length (unit_bytes (units_from q (drop (i + 1) s)))
      = ap length left ∙ length-append (unit_bytes us) (unit_bytes (units_from q (drop (i + 1) s))) in
      (omega arith, omega arith)

  pub put_turn : (out x : List ℕ) (to : ℕ) → sets out to (unit_bytes (units_from r (drop i s))) ≡ x
      → sets (sets out to (unit_bytes us)) (to + length (unit_bytes us)) (unit_bytes (units_from q (drop (i + 1) s))) ≡ x
  put_turn out x to e = sym (sets_append (unit_bytes us) (unit_bytes (units_from q (drop (i + 1) s))) out to) ∙ rw left at e

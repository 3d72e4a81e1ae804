-- The round trip over the units of strings: different valid UTF-16 values that can be written are read back, in order.
use mathlib.Core.Path.{◌≡◌, refl, ap, sym, ◌∙◌}
use mathlib.Core.Bool.{Bool, true, false}
use mathlib.Core.List.{List, [], ◌∷◌, ◌++◌, map}
use Prim.Native.Nat.{ℕ, zero, suc, ◌+◌, ◌/◌, ◌%◌, ◌≤◌, ◌<◌}
use native.Mathlib.Nat.{not-suc-le-zero}
use native.Mathlib.Omega.{arith}
use borrow.Author.Tests.{le-leb}
use lib.Dec.{ltb}
use lib.ListN.{length, get_or, length-map}
use Rattle.bits.specs.Choice.{pick}
use Rattle.bits.proofs.ListLaws.{AllBelow}
use Rattle.bits.proofs.TestLaws.{both_0, both_1, both_of}
use Rattle.bits.proofs.PassLaws.{all_same}
use Rattle.footer.specs.Footer.{same}
use Rattle.footer.proofs.SameLaws.{same-is, same_self}
use Rattle.utf.specs.Utf8.{utf16}
use Rattle.utf.specs.Utf16.{bytes_of_point, is_high, point_of, Waiting, none, high, is_utf16, utf8_of_from, utf8_of}
use Rattle.utf.proofs.Utf16Laws.{utf16_back, utf16_utf8}
use Rattle.po_text.specs.Written.{can_write, writable, file_of}
use Rattle.po_pairs.specs.Pairs.{untranslated, different, pairs, read_file}
use Rattle.po_pairs.proofs.RoundLaws.{EachWritable, read_back}

-- ---- units that can be written have bytes that can

abbrev Can : List ℕ → Type 0
Can [] = Unit {0}
Can (b ∷ bs) = (can_write b ≡ true) × Can bs

can_of : (v : List ℕ) → writable v ≡ true → Can v
unfolding writable
can_of [] h = tt
can_of (b ∷ v) h = (both_0 (can_write b) (writable v) h, can_of v (both_1 (can_write b) (writable v) h))

of_can : (v : List ℕ) → Can v → writable v ≡ true
unfolding writable
of_can [] c = refl
of_can (b ∷ v) c = both_of (can_write b) (writable v) c.0 (of_can v c.1)

can_append : (a b : List ℕ) → Can a → Can b → Can (a ++ b)
can_append [] b x y = y
can_append (c ∷ a) b x y = (x.0, can_append a b x.1 y)

large : (b : ℕ) → 32 ≤ b → can_write b ≡ true
large b h = rw (le-leb 32 b h)

can_point : (c : ℕ) → can_write c ≡ true → Can (bytes_of_point c)
unfolding bytes_of_point
can_point c h = go (ltb c 0x80) (ltb c 0x800) (ltb c 0x10000)
  where
    go : (x y z : Bool) → Can (pick x (c ∷ []) (pick y ((0xC0 + c / 64) ∷ (0x80 + c % 64) ∷ [])
        (pick z ((0xE0 + c / 64 / 64) ∷ (0x80 + c / 64 % 64) ∷ (0x80 + c % 64) ∷ [])
        ((0xF0 + c / 64 / 64 / 64) ∷ (0x80 + c / 64 / 64 % 64) ∷ (0x80 + c / 64 % 64) ∷ (0x80 + c % 64) ∷ []))))
    go true y z = (h, tt)
    go false true z = (large (0xC0 + c / 64) (omega arith), (large (0x80 + c % 64) (omega arith), tt))
    go false false true =
        (large (0xE0 + c / 64 / 64) (omega arith), (large (0x80 + c / 64 % 64) (omega arith), (large (0x80 + c % 64) (omega arith), tt)))
    go false false false = (
      large (0xF0 + c / 64 / 64 / 64) (omega arith),
      (
        large (0x80 + c / 64 / 64 % 64) (omega arith),
        (large (0x80 + c / 64 % 64) (omega arith), (large (0x80 + c % 64) (omega arith), tt)),
      ),
    )

can_bytes : (us : List ℕ) (w : Waiting) → Can us → Can (utf8_of_from w us)
unfolding utf8_of_from
can_bytes [] none c = tt
can_bytes [] (high h) c = tt
can_bytes (u ∷ us) (high h) c =
    can_append (bytes_of_point (point_of h u)) (utf8_of_from none us) (can_point (point_of h u) (large (point_of h u) (omega arith)))
    (can_bytes us none c.1)
can_bytes (u ∷ us) none c = go (is_high u) (can_bytes us (high u) c.1) (can_bytes us none c.1)
  where
    go : (t : Bool) → Can (utf8_of_from (high u) us) → Can (utf8_of_from none us)
        → Can (pick t (utf8_of_from (high u) us) (bytes_of_point u ++ utf8_of_from none us))
    go true a b = a
    go false a b = can_append (bytes_of_point u) (utf8_of_from none us) (can_point u c.0) b

pub writable_bytes : (us : List ℕ) → writable us ≡ true → writable (utf8_of us) ≡ true
writable_bytes us h = of_can (utf8_of us) (can_bytes us none (can_of us h))

-- ---- different units have different bytes

same_by : (a b c d : List ℕ) → (a ≡ b → c ≡ d) → (c ≡ d → a ≡ b) → same a b ≡ same c d
same_by a b c d f g = go (same a b) refl (same c d) refl
  where
    go : (x : Bool) → same a b ≡ x → (y : Bool) → same c d ≡ y → x ≡ y
    go true x true y = refl
    go false x false y = refl
    go true x false y = sym (same_self d) ∙ ap (λ (l : List ℕ). same l d) (sym (f (same-is a b x))) ∙ y
    go false x true y = sym (sym (same_self b) ∙ ap (λ (l : List ℕ). same l b) (sym (g (same-is c d y))) ∙ x)

-- ---- the strings of an image that are written

abbrev pub EachValid : List (List ℕ) → Type 0
EachValid [] = Unit {0}
EachValid (us ∷ uss) = (AllBelow 0x10000 us × (is_utf16 us ≡ true) × (writable us ≡ true)) × EachValid uss

valid_at : (uss : List (List ℕ)) (i : ℕ) → EachValid uss → i < length uss
    → AllBelow 0x10000 (get_or uss i []) × (is_utf16 (get_or uss i []) ≡ true) × (writable (get_or uss i []) ≡ true)
valid_at [] i v h = absurd (not-suc-le-zero h)
valid_at (us ∷ uss) zero v h = v.0
valid_at (us ∷ uss) (suc i) v h = valid_at uss i v.1 (omega arith)

each_writable : (uss : List (List ℕ)) → EachValid uss → EachWritable (map utf8_of uss)
each_writable [] v = tt
each_writable (us ∷ uss) v = (utf16_utf8 us v.0.0 v.0.1, writable_bytes us v.0.2, each_writable uss v.1)

bytes_at_lem : (uss : List (List ℕ)) (i : ℕ) → i < length uss → get_or (map utf8_of uss) i [] ≡ utf8_of (get_or uss i [])
bytes_at_lem [] i h = absurd (not-suc-le-zero h)
bytes_at_lem (us ∷ uss) zero h = refl
bytes_at_lem (us ∷ uss) (suc i) h = bytes_at_lem uss i (omega arith)

bytes_same : (a b : List ℕ) → AllBelow 0x10000 a × (is_utf16 a ≡ true) × (writable a ≡ true)
    → AllBelow 0x10000 b × (is_utf16 b ≡ true) × (writable b ≡ true)
    → same (utf8_of a) (utf8_of b) ≡ same a b
bytes_same a b x y =
    same_by (utf8_of a) (utf8_of b) a b (λ e. sym (utf16_back a x.0 x.1) ∙ ap utf16 e ∙ utf16_back b y.0 y.1) (ap utf8_of)

different_bytes : (uss : List (List ℕ)) → EachValid uss → different (map utf8_of uss) ≡ different uss
unfolding different
different_bytes uss v =
    let same_at : (i j : ℕ) → i < length uss → j < length uss
    → same (utf8_of (get_or uss j [])) (utf8_of (get_or uss i [])) ≡ same (get_or uss j []) (get_or uss i [])
    = λ i j h k. bytes_same (get_or uss j []) (get_or uss i []) (valid_at uss j v k) (valid_at uss i v h) in
    rw (length-map uss utf8_of)
    (all_same _ _ (length uss) (λ i h. all_same _ _ i (λ j k.
    rw (bytes_at_lem uss i h, bytes_at_lem uss j (omega arith), same_at i j h (omega arith)))))

pub read_back_units : (uss : List (List ℕ)) → EachValid uss → different uss ≡ true
    → read_file (file_of (map utf8_of uss)) ≡ pairs (map untranslated (map utf8_of uss))
read_back_units uss v d = read_back (map utf8_of uss) (each_writable uss v) (different_bytes uss v ∙ d)

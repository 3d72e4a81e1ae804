-- Refusals are exact: an image is refused with n where fault n is there and none of a lower number is.
use mathlib.Core.Path.{◌≡◌, refl}
use mathlib.Core.Bool.{true}
use mathlib.Core.Logic.{inl, inr, ◌↔◌}
use mathlib.Core.List.{List}
use Prim.Native.Nat.{ℕ, ◌+◌, ◌≤◌, ◌<◌}
use native.Mathlib.Omega.{arith}
use borrow.Author.Tests.{ltb-true, lt-ltb, eqb-false, ne_eqb, not-true}
use lib.ListN.{length}
use Rattle.bits.proofs.TestLaws.{below_or, either_true}
use Rattle.bits.proofs.JudgeLaws.{rising, given, Shows, Shows.nothing, Shows.◌also◌, judge_most, Named, judged_exactly, judged_none}
use Rattle.format.specs.declared.Layout.{Layout}
use Rattle.format.specs.declared.Layout.TheVariants.{Modern, Legacy}
use Rattle.format.specs.Table as table
use Rattle.footer.specs.Footer.{footer_length}
use Rattle.image.specs.Sections.{kinds_in, identifiers_in, strings_in, tail_at}
use Rattle.image.specs.Kinds.{kind_in, covered, identified}
use Rattle.image.specs.Admission.{checks, refusal}
use Rattle.image.specs.Faults.{ShareByte, Fault}
use Rattle.image.specs.Faults.Fault.{short, long, magic, sections, kinds, identifiers, overflows, misnumbered, leaves}
use Rattle.image.specs.Faults.Fault.{exceeds, body, info, debug, header, headers, bodies}
use Rattle.image.proofs.CheckLaws.{overflows_counted_lem, overflows_numbered_lem, strings_stored_lem, strings_narrow_lem, headers_in_lem}
use Rattle.image.proofs.CheckLaws.{bodies_in_lem, infos_in_lem, debug_in_lem, headers_apart_lem, bodies_apart_lem}

-- ---- a byte in common, and two starts that each lie before the other's end

pub share : (p m q n : ℕ) → 0 < m → 0 < n → (p < q + n) × (q < p + m) → ShareByte p m q n
share p m q n a b (h, k) =
    elim (below_or p q) [
      | inl t ↦ (q, (omega arith, omega arith), (omega arith, omega arith))
      | inr t
          ↦ (p, (omega arith, omega arith), (omega arith, omega arith))
    ]

-- a large header has words
some_words : (l : Layout) → 0 < (table.large_row l).width
some_words Modern = omega arith
some_words (Legacy big sources) = omega arith

module _ (l : Layout) (s : List ℕ) where
  -- a check that is met is a fault of its number
  pub shows : Shows (Fault l s) (checks l s)
  unfolding checks
  shows =
      (λ t. short (ltb-true (length s) (table.header_length + footer_length) t))
      also (λ t. long (ltb-true 67108864 (length s) t))
      also (λ t. magic (eqb-false _ _ (not-true _ t)))
      also (λ t. sections (ltb-true (length s) (tail_at l s + footer_length) t))
      also (λ t. kinds (eqb-false (covered (kind_in l s) (kinds_in s)) (strings_in s) (not-true _ t)))
      also (λ t. identifiers (eqb-false (identified (kind_in l s) (kinds_in s)) (identifiers_in s) (not-true _ t)))
      also (λ t. overflows ((overflows_counted_lem l s).wrong (not-true _ t)))
      also (λ t. let (i, h, (f, w)) = (overflows_numbered_lem l s).wrong (not-true _ t) in misnumbered i h f w)
      also (λ t. let (i, h, w) = (strings_stored_lem l s).wrong (not-true _ t) in leaves i h w)
      also (λ t. let (i, h, (f, (j, k, w))) = (strings_narrow_lem l s).wrong (not-true _ t) in exceeds i j h f k w)
      also (λ t. let (i, h, (f, w)) = (headers_in_lem l s).wrong (not-true _ t) in header i h f w)
      also (λ t. let (i, h, w) = (bodies_in_lem l s).wrong (not-true _ t) in body i h w)
      also (λ t. let (i, h, (f, w)) = (infos_in_lem l s).wrong (not-true _ t) in info i h f w)
      also (λ t. let (f, w) = (debug_in_lem l s).wrong (not-true _ t) in debug f w)
      also (λ t.
      let (i, h, (j, k, (d, (f, (g, w))))) = (headers_apart_lem l s).wrong (not-true _ t) in
      headers i j h k d f g (share _ _ _ _ (some_words l) (some_words l) w))
      also (λ t. let (i, h, (j, k, (z, (g, w)))) = (bodies_apart_lem l s).wrong (not-true _ t) in bodies j i k h g
      (share _ _ _ _ (some_words l) z w))
      also nothing

  -- and a fault's check is met
  pub gives : (n : ℕ) → Fault l s n → given n (checks l s) ≡ true
  unfolding checks
  gives n (short h) = rw (lt-ltb (length s) (table.header_length + footer_length) h)
  gives n (long h) = simp (lt-ltb 67108864 (length s) h, either_true)
  gives n (magic h) = rw (ne_eqb _ _ h)
  gives n (sections h) = rw (lt-ltb (length s) (tail_at l s + footer_length) h)
  gives n (kinds h) = rw (ne_eqb _ _ h)
  gives n (identifiers h) = simp (ne_eqb (identified (kind_in l s) (kinds_in s)) (identifiers_in s) h, either_true)
  gives n (overflows h) = rw ((overflows_counted_lem l s).failed h)
  gives n (misnumbered i h f w) = simp ((overflows_numbered_lem l s).failed (i, h, (f, w)), either_true)
  gives n (leaves i h w) = simp ((strings_stored_lem l s).failed (i, h, w), either_true)
  gives n (exceeds i j h f k w) = simp ((strings_narrow_lem l s).failed (i, h, (f, (j, k, w))), either_true)
  gives n (body i h w) = simp ((bodies_in_lem l s).failed (i, h, w), either_true)
  gives n (info i h f w) = simp ((infos_in_lem l s).failed (i, h, (f, w)), either_true)
  gives n (debug f w) = simp ((debug_in_lem l s).failed (f, w), either_true)
  gives n (header i h f w) = rw ((headers_in_lem l s).failed (i, h, (f, w)))
  gives n (headers i j h k d f g (x, a, b)) =
      simp ((headers_apart_lem l s).failed (i, h, (j, k, (d, (f, (g, (omega arith, omega arith)))))), either_true)
  gives n (bodies i j h k f (x, a, b)) =
      simp ((bodies_apart_lem l s).failed (j, k, (i, h, (omega arith, (f, (omega arith, omega arith))))), either_true)

  numbers_rise : rising 1 6 (checks l s) ≡ true
  unfolding checks
  numbers_rise = refl

  named : Named (Fault l s) 6 (checks l s)
  named = record { up = numbers_rise; shows = shows; gives = gives }

  -- for each number but 0: refused with n, exactly where fault n is there and none before it
  pub refused_exactly : (n : ℕ) → 0 < n → refusal l s ≡ n ↔ (Fault l s n × ((m : ℕ) → m < n → Fault l s m → ⊥))
  unfolding refusal
  refused_exactly = judged_exactly (Fault l s) 6 (checks l s) named

  -- not refused, exactly where there is no fault
  pub faultless_exactly : refusal l s ≡ 0 ↔ ((n : ℕ) → Fault l s n → ⊥)
  unfolding refusal
  faultless_exactly = judged_none (Fault l s) 6 (checks l s) named

  -- there are no other numbers
  pub refusal_most : refusal l s ≤ 6
  unfolding refusal
  refusal_most = judge_most 6 1 (checks l s) numbers_rise

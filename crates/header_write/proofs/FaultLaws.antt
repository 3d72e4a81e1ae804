-- Shifts are refused exactly: with n where fault n is there and none that is due before it.
use Rattle.std.specs.Prelude.{None, Option, Some}
use mathlib.Core.Path.{◌≡◌, refl, sym, ◌∙◌}
use mathlib.Core.Logic.{◌⊎◌, inl, inr, ◌↔◌}
use mathlib.Core.List.{List}
use Prim.Native.Nat.{ℕ, ◌+◌, ◌≤◌, ◌<◌}
use native.Mathlib.Omega.{arith}
use borrow.Author.Tests.{le-leb, lt-leb, eqb-false, ne_eqb}
use lib.Dec.{eqb}
use lib.IntN.{ℤ, pos, ◌+ℤ◌}
use lib.ListN.{length}
use Rattle.refusals.specs.Order.{of_shift, turn_in}
use Rattle.bits.specs.Outcome.{Outcome, refused, made}
use Rattle.bits.specs.Bytes.{word_at}
use Rattle.bits.proofs.TestLaws.{which, below_or}
use Rattle.format.specs.declared.Layout.TheVariants.{Modern, Legacy}
use Rattle.format.specs.Table as table
use Rattle.format.specs.Record.{value_of, with_value, pointer, put_pointer}
use Rattle.records.specs.Sum.{summed, SumOutside}
use Rattle.records.specs.Records.{Edited, edited, with_sum, field_sum, info_sum, shift_small, shift_pointer}
use Rattle.records.proofs.SumLaws.{beyond_outside, outside_beyond}
use Rattle.header_write.specs.Slots.{stored, stored_at, on_slot, shift_word}
use Rattle.header_write.specs.Faults.{Shift, shifted, least_for, slot_record, Moves, ShiftFault}
use Rattle.header_write.specs.Faults.Shift.{of_small, of_pointer, of_word}
use Rattle.header_write.specs.Faults.Moves.{modern_offset, legacy_offset, legacy_info, large_pointer, word_there}
use Rattle.header_write.specs.Faults.ShiftFault.{short, outside}

-- a sum is none or a number
by_sum : (x : Option ℕ) → (x ≡ None) ⊎ ((v : ℕ) × (x ≡ Some v))
by_sum (Some v) = inr (v, refl)
by_sum None = inl refl

-- an outcome is a refusal or what is made
by_outcome : (o : Outcome) → ((k : ℕ) × (o ≡ refused k)) ⊎ ((new : List ℕ) × (o ≡ made new))
by_outcome (refused k) = inl (k, refl)
by_outcome (made new) = inr (new, refl)

number : (n k : ℕ) → refused n ≡ refused k → k ≡ n
number n k e = cc

never_both : (o : Outcome) (new : List ℕ) (k : ℕ) → o ≡ made new → o ≡ refused k → ⊥
never_both o new k e f = let z : ◌≡◌ {A = ℕ} 0 1 = cc in omega arith

-- a number that moves out of its place
abbrev Strays : ℤ → List ℕ → Shift → Type 0
Strays delta s t = (width : ℕ) × ((n : ℕ) × (Moves s t width n × SumOutside width (pos n +ℤ delta)))

module _ (delta : ℤ) (s : List ℕ) where
  short_refused : (t : Shift) → length s < least_for t → shifted t delta s ≡ refused 1
  unfolding on_slot shift_word
  short_refused (of_small l) h = rw (lt-leb (table.record_row l).width (length s) h)
  short_refused (of_pointer l) h = rw (lt-leb (table.record_row l).width (length s) h)
  short_refused (of_word at) h = rw (lt-leb (at + 4) (length s) h)

  -- a number that strays is refused with 12
  stray_refused : (t : Shift) (width n : ℕ) → Moves s t width n → SumOutside width (pos n +ℤ delta) → least_for t ≤ length s
      → shifted t delta s ≡ refused 12
  unfolding on_slot shift_word shift_small shift_pointer info_sum
  stray_refused t width n modern_offset o h =
      rw (le-leb 12 (length s) h, outside_beyond 25 (pos n +ℤ delta) o)
  stray_refused t width n (legacy_offset b f) o h =
      rw (le-leb 16 (length s) h, outside_beyond 25 (pos n +ℤ delta) o)
  stray_refused t width n (legacy_info b f z) o h =
      let r : ℕ = slot_record (Legacy b f) s in
      elim (by_sum (field_sum table.legacy_offset delta r)) [
        | inl e ↦ rw (le-leb 16 (length s) h, e)
        | inr e ↦ rw (le-leb 16 (length s) h, e.1, ne_eqb (value_of table.legacy_info r) 0 z, outside_beyond 25 (pos n +ℤ delta) o)
      ]
  stray_refused t width n (large_pointer l) o h =
      rw (le-leb (table.record_row l).width (length s) h, outside_beyond 32 (pos n +ℤ delta) o)
  stray_refused t width n (word_there at) o h = rw (le-leb (at + 4) (length s) h, outside_beyond 32 (pos n +ℤ delta) o)

  -- what one sum decides, and is refused, is so with 12, since the sum lies outside
  by_one_sum : (made_of : Option ℕ → Outcome) (width n k : ℕ) → made_of None ≡ refused 12
      → ((v : ℕ) → (new : List ℕ) × (made_of (Some v) ≡ made new)) → made_of (summed width delta n) ≡ refused k
      → (k ≡ 12) × SumOutside width (pos n +ℤ delta)
  by_one_sum made_of width n k none some e =
      elim (by_sum (summed width delta n)) [
        | inl x ↦ (number 12 k (sym none ∙ rw x at e), beyond_outside width (pos n +ℤ delta) x)
        | inr x ↦ absurd (never_both (made_of (Some x.0)) (some x.0).0 k (some x.0).1 (rw x.1 at e))
      ]

  -- what is long enough and refused is so with 12, for a number that strays
  strays_shown : (t : Shift) (k : ℕ) → least_for t ≤ length s → shifted t delta s ≡ refused k → (k ≡ 12) × Strays delta s t
  unfolding on_slot shift_word shift_small shift_pointer info_sum
  strays_shown (of_small Modern) k h e =
      let r : ℕ = slot_record Modern s in
      let n : ℕ = value_of table.modern_offset r in
      let q = by_one_sum (λ x. stored 12 (with_sum x (λ v. edited (with_value table.modern_offset v r)))) 25 n k refl (λ v. (_, refl))
      (rw (le-leb 12 (length s) h) at e) in
      (q.0, (25, (n, (modern_offset, q.1))))
  strays_shown (of_small (Legacy b f)) k h e =
      let r : ℕ = slot_record (Legacy b f) s in
      let n : ℕ = value_of table.legacy_offset r in
      let m : ℕ = value_of table.legacy_info r in
      elim (by_sum (summed 25 delta n)) [
        | inl x ↦
            (number 12 k (rw (le-leb 16 (length s) h, x) at e), (25, (n, (legacy_offset b f, beyond_outside 25 (pos n +ℤ delta) x))))
        | inr x ↦ elim (which (eqb m 0)) [
          | inl y ↦ absurd (never_both _ _ k refl (rw (le-leb 16 (length s) h, x.1, y) at e))
          | inr y ↦
              let moved : ℕ → Edited
              = λ v. edited (with_value table.legacy_info v (with_value table.legacy_offset x.0 r)) in
              let q = by_one_sum (λ z. stored 16 (with_sum z moved)) 25 m k refl (λ v. (_, refl))
              (rw (le-leb 16 (length s) h, x.1, y) at e) in
              (q.0, (25, (m, (legacy_info b f (eqb-false m 0 y), q.1))))
        ]
      ]
  strays_shown (of_pointer l) k h e =
      let w : ℕ = (table.record_row l).width in
      let r : ℕ = slot_record l s in
      let n : ℕ = pointer l r in
      let q = by_one_sum (λ x. stored w (with_sum x (λ p. edited (put_pointer l p r)))) 32 n k refl (λ v. (_, refl))
      (rw (le-leb w (length s) h) at e) in
      (q.0, (32, (n, (large_pointer l, q.1))))
  strays_shown (of_word at) k h e =
      let n : ℕ = word_at s at in
      let q = by_one_sum (stored_at at s) 32 n k refl (λ v. (_, refl)) (rw (le-leb (at + 4) (length s) h) at e) in
      (q.0, (32, (n, (word_there at, q.1))))

  -- ---- exactly

  module _ (t : Shift) where
    -- nothing is due before 1, and before 12 a buffer that is too short
    none_before_1 : (k : ℕ) → turn_in of_shift k < turn_in of_shift 1 → ShiftFault delta s t k → ⊥
    unfolding turn_in
    none_before_1 k l f = omega arith

    none_before_12 : least_for t ≤ length s → (k : ℕ) → turn_in of_shift k < turn_in of_shift 12 → ShiftFault delta s t k → ⊥
    none_before_12 h k l (short g) = omega arith
    none_before_12 h k l (outside width n a o) = omega arith

    short_first : turn_in of_shift 1 < turn_in of_shift 12
    unfolding turn_in
    short_first = omega arith

    pub refused_exactly : (n : ℕ) → shifted t delta s ≡ refused n
        ↔ (ShiftFault delta s t n × ((k : ℕ) → turn_in of_shift k < turn_in of_shift n → ShiftFault delta s t k → ⊥))
    refused_exactly n = (
      λ e. elim (below_or (length s) (least_for t)) [
        | inl h ↦
            let q : n ≡ 1 = number 1 n (sym (short_refused t h) ∙ e) in
            rw q (short h, none_before_1)
        | inr h ↦
            let (q, (width, (m, (a, o)))) = strays_shown t n h e in
            rw q (outside width m a o, none_before_12 h)
      ],
      λ f. from n f.0 f.1,
    )
      where
        from : (n : ℕ) → ShiftFault delta s t n
            → ((k : ℕ) → turn_in of_shift k < turn_in of_shift n → ShiftFault delta s t k → ⊥) → shifted t delta s ≡ refused n
        from n (short h) none = short_refused t h
        from n (outside width m a o) none =
            elim (below_or (length s) (least_for t)) [
              | inl h ↦ absurd (none 1 short_first (short h))
              | inr h ↦ stray_refused t width m a o h
            ]

    -- done exactly where there is no fault
    pub done_exactly : ((new : List ℕ) × (shifted t delta s ≡ made new)) ↔ ((n : ℕ) → ShiftFault delta s t n → ⊥)
    done_exactly = (
      λ d n f. faultless d.0 d.1 n f,
      λ none. elim (by_outcome (shifted t delta s)) [
        | inl r ↦ absurd (none r.0 ((refused_exactly r.0).0 r.1).0)
        | inr d ↦ d
      ],
    )
      where
        faultless : (new : List ℕ) → shifted t delta s ≡ made new → (n : ℕ) → ShiftFault delta s t n → ⊥
        faultless new e n (short h) = never_both (shifted t delta s) new 1 e (short_refused t h)
        faultless new e n (outside width m a o) =
            elim (below_or (length s) (least_for t)) [
              | inl h ↦ never_both (shifted t delta s) new 1 e (short_refused t h)
              | inr h ↦ never_both (shifted t delta s) new 12 e (stray_refused t width m a o h)
            ]

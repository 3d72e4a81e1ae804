-- The builder: where strings start, the two loops over the ends, the refusals in order, and what an accepted input is.
use Rattle.std.specs.Prelude.{Err, Ok, Result}
use mathlib.Core.Path.{◌≡◌, refl, ap, sym, ◌∙◌}
use mathlib.Core.Bool.{Bool, true, false, not}
use mathlib.Core.Logic.{inl, inr}
use mathlib.Core.List.{List}
use Prim.Native.Nat.{ℕ, zero, suc, ◌+◌, ◌-◌, ◌≤◌, ◌<◌}
use native.Mathlib.Nat.{sub-zero}
use native.Mathlib.Numerals.{add-one}
use native.Mathlib.Omega.{arith}
use borrow.Author.Tests.{ltb-false, leb-true, lt-ltb, le-ltb, le-leb, lt-leb, eqb-true, ne_eqb, not-false}
use lib.Dec.{leb, ltb, eqb}
use borrow.Rule.Slice.PartMut.{put_mid}
use lib.ListN.{length, get_or, take, drop}
use lib.Seq.{length-take-le}
use Rattle.bits.specs.Choice.{pick, all_below, judge}
use Rattle.bits.specs.Bytes.{ascii}
use Rattle.bits.specs.Outcome.{Outcome, refused, made, answered, roomed, Answers}
use Rattle.bits.proofs.TestLaws.{both_0, both_1, both_of, which, all_at, all_fails, all_next}
use Rattle.bits.proofs.JudgeLaws.{judge_pass}
use Rattle.bits.proofs.OutcomeLaws.{roomed_short, roomed-fits, roomed_more, lent-front}
use Rattle.format.specs.Entry as entry
use Rattle.format.specs.Entry.{is_over}
use Rattle.footer.specs.Finalize.{size_limit}
use Rattle.serialize.specs.Parts.{start_of, place_of, storage_of, length_of, minimal}
use Rattle.serialize.specs.Builder.{least_version, ends_ascend, ends_within, all_small, checks, built, length_answer}
use Rattle.serialize.proofs.PartLaws.{length-minimal}

-- ---- where a string starts

module _ (ends : List ℕ) where
  pub start_first : (i : ℕ) → i ≡ 0 → 0 ≡ start_of ends i
  unfolding start_of
  start_first i e = rw e

  pub start_later : (i : ℕ) → (i ≡ 0 → ⊥) → get_or ends (i - 1) 0 ≡ start_of ends i
  unfolding start_of
  start_later zero n = absurd (n refl)
  start_later (suc i) n = let e : suc i - 1 ≡ i = omega arith in rw e

-- ---- the loops over the ends

-- where string i starts and ends
pub record Span (ends : List ℕ) (i start end : ℕ) : Type 0 where
  pub from : start ≡ start_of ends i
  pub to : end ≡ start_of ends (i + 1)

-- the same, of a string that does not start too far for a small entry
pub record Near (ends : List ℕ) (i start end : ℕ) : Type 0 where
  pub span : Span ends i start end
  pub near : start < entry.far

module _ (ends : List ℕ) where
  -- string i does not end before it starts
  abbrev pub ascending : ℕ → Bool
  ascending i = leb (start_of ends i) (start_of ends (suc i))

  -- string i fits a small entry
  abbrev pub small : ℕ → Bool
  small i = not (is_over (place_of ends i))

  pub far : (i start : ℕ) → start ≡ start_of ends i → i < length ends → entry.far ≤ start → false ≡ all_small ends
  unfolding all_small
  far i start s h l = sym (all_fails small (length ends) i h (rw (le-leb entry.far (start_of ends i) (omega (arith, s)))))

  module _ (i start end : ℕ) where
    next : Span ends i start end → end ≡ start_of ends (suc i)
    next s = rw add-one at s.to

    pub falls : Span ends i start end → i < length ends → end < start → false ≡ ends_ascend ends
    unfolding ends_ascend
    falls s h l =
        sym (all_fails ascending (length ends) i h
        (lt-leb (start_of ends i) (start_of ends (suc i)) (omega (arith, s.from, next s))))

    pub rises : Span ends i start end → start ≤ end → all_below i ascending ≡ true → all_below (i + 1) ascending ≡ true
    rises s l t =
        all_next ascending i
        ∙ both_of (ascending i) (all_below i ascending)
        (le-leb (start_of ends i) (start_of ends (suc i)) (omega (arith, s.from, next s))) t

    pub long : Near ends i start end → i < length ends → start + entry.long ≤ end → false ≡ all_small ends
    unfolding all_small
    long s h l =
        sym (all_fails small (length ends) i h
        (rw (
          lt-leb entry.far (start_of ends i) (omega (arith, s.near, s.span.from)),
          le-leb entry.long (start_of ends (suc i) - start_of ends i) (omega (arith, s.span.from, next s.span)),
        )))

    pub fits : Near ends i start end → end < start + entry.long → all_below i small ≡ true → all_below (i + 1) small ≡ true
    fits s l t =
        all_next small i
        ∙ both_of (small i) (all_below i small)
        (rw (
          lt-leb entry.far (start_of ends i) (omega (arith, s.near, s.span.from)),
          lt-leb entry.long (start_of ends (suc i) - start_of ends i) (omega (arith, s.span.from, next s.span)),
        ))
        t

  module _ (i : ℕ) (e : i ≡ length ends) where
    pub all_ascend : all_below i ascending ≡ true → true ≡ ends_ascend ends
    unfolding ends_ascend
    all_ascend t = rw e at (sym t)

    pub all_fit : all_below i small ≡ true → true ≡ all_small ends
    unfolding all_small
    all_fit t = rw e at (sym t)

  pub ascends-at : (i : ℕ) → ends_ascend ends ≡ true → i < length ends → start_of ends i ≤ start_of ends (i + 1)
  unfolding ends_ascend
  ascends-at i t h = rw add-one (leb-true _ _ (all_at ascending (length ends) i t h))

-- ---- the last end decides whether one is past the text

module _ (text ends : List ℕ) where
  abbrev within : ℕ → Bool
  within i = leb (start_of ends (suc i)) (length text)

  within_all : (n : ℕ) → all_below n (ascending ends) ≡ true → start_of ends n ≤ length text → all_below n within ≡ true
  unfolding all_below
  within_all zero t h = refl
  within_all (suc n) t h =
      let a : Bool = ascending ends n in
      let b : Bool = all_below n (ascending ends) in
      both_of (within n) (all_below n within) (le-leb _ _ h)
      (within_all n (both_1 a b t) (omega (arith, leb-true (start_of ends n) (start_of ends (suc n)) (both_0 a b t))))

  within_last : (n : ℕ) → all_below n within ≡ true → start_of ends n ≤ length text
  unfolding all_below start_of
  within_last zero t = omega arith
  within_last (suc n) t = leb-true _ _ (both_0 (within n) (all_below n within) t)

  within-not : (n : ℕ) → length text < start_of ends n → all_below n within ≡ false
  within-not n h = elim (which (all_below n within)) [ inl t ↦ absurd (omega (arith, within_last n t)) | inr f ↦ f ]

-- the part of the text that the code judges is the storage
pub ascii-is : (text ends : List ℕ) (size : ℕ) (r b : Bool) → size ≡ start_of ends (length ends)
    → r ≡ ascii (take (size - 0) (drop 0 text)) → r ≡ b → ascii (storage_of text ends) ≡ b
ascii-is text ends size r b s e f = sym (rw (s, sub-zero) at e) ∙ f

-- ---- an outcome that is judged

-- the last test is of the length
by_limit : (b : Bool) (n : ℕ) (new : List ℕ) → n ≡ length new
    → pick b (Err 11) (Ok n) ≡ answered (pick (eqb (pick b 11 0) 0) (made new) (refused (pick b 11 0)))
by_limit true n new e = refl
by_limit false n new e = ap Ok e

-- a length is answered where nothing refuses
none_met : (j n : ℕ) (new : List ℕ) → Ok n ≡ answered (pick (eqb j 0) (made new) (refused j)) → (j ≡ 0)
    × (n ≡ length new)
none_met j n new e = go (eqb j 0) refl e
  where
    go : (b : Bool) → eqb j 0 ≡ b → Ok n ≡ answered (pick b (made new) (refused j)) → (j ≡ 0) × (n ≡ length new)
    go true t f = (eqb-true j 0 t, cc)
    go false t f = let z : ◌≡◌ {A = ℕ} 0 1 = cc in absurd (omega arith)

-- ---- the refusals, in order: what the tests so far have shown, and what the next one says

-- the ends ascend, and none is past the text
pub record EndsOrdered (text ends : List ℕ) : Type 0 where
  pub ascends : ends_ascend ends ≡ true
  pub last : start_of ends (length ends) ≤ length text

-- and the version is not too old
pub record Current (v : ℕ) (text ends : List ℕ) : Type 0 where
  pub ordered : EndsOrdered text ends
  pub version : least_version ≤ v

-- and the strings are ASCII
pub record AsciiStrings (v : ℕ) (text ends : List ℕ) : Type 0 where
  pub current : Current v text ends
  pub plain : ascii (storage_of text ends) ≡ true

ends_within_lem : {text ends : List ℕ} → EndsOrdered text ends → ends_within text ends ≡ true
unfolding ends_within ends_ascend
ends_within_lem {text} {ends} o = within_all text ends (length ends) o.ascends o.last

module _ (v : ℕ) (text ends body : List ℕ) where
  refuses : (n : ℕ) → judge (checks v text ends body) ≡ n → (n ≡ 0 → ⊥) → Err n ≡ answered (built v text ends body)
  unfolding built
  refuses n e h = rw (e, ne_eqb n 0 h)

  pub unordered : ends_ascend ends ≡ false → Err 15 ≡ answered (built v text ends body)
  unfolding checks judge
  unordered a = refuses 15 (rw a) (λ e. omega arith)

  pub past_text : ends_ascend ends ≡ true → length text < start_of ends (length ends) → Err 15 ≡ answered (built v text ends body)
  unfolding checks judge ends_within
  past_text a h = refuses 15 (rw (a, within-not text ends (length ends) h)) (λ e. omega arith)

  pub old_version : EndsOrdered text ends → v < least_version → Err 15 ≡ answered (built v text ends body)
  unfolding checks judge
  old_version o h = refuses 15 (rw (o.ascends, ends_within_lem o, lt-ltb v least_version h)) (λ e. omega arith)

  pub not_ascii : Current v text ends → ascii (storage_of text ends) ≡ false → Err 8 ≡ answered (built v text ends body)
  unfolding checks judge
  not_ascii d h =
      let o : EndsOrdered text ends = d.ordered in
      refuses 8 (rw (o.ascends, ends_within_lem o, le-ltb v least_version d.version, h)) (λ e. omega arith)

  module _ (f : AsciiStrings v text ends) where
    pub not-small : all_small ends ≡ false → Err 12 ≡ answered (built v text ends body)
    unfolding checks judge
    not-small h =
        let o : EndsOrdered text ends = f.current.ordered in
        refuses 12 (rw (o.ascends, ends_within_lem o, le-ltb v least_version f.current.version, f.plain, h)) (λ e. omega arith)

    pub by_length : all_small ends ≡ true
        → length_answer (length_of (length ends) (start_of ends (length ends)) (length body)) ≡ answered (built v text ends body)
    unfolding checks judge built
    by_length h =
        let o : EndsOrdered text ends = f.current.ordered in
        let k : length (storage_of text ends) ≡ start_of ends (length ends) = length-take-le (start_of ends (length ends)) text o.last in
        let n : ℕ = length_of (length ends) (start_of ends (length ends)) (length body) in
        let m : length (minimal v (storage_of text ends) ends body) ≡ n
        = length-minimal v (storage_of text ends) ends body ∙ rw k in
        rw (o.ascends, ends_within_lem o, le-ltb v least_version f.current.version, f.plain, h, m)
        (by_limit (ltb size_limit n) _ _ (sym m))

-- ---- what is accepted

pub record BuildAccepted (v : ℕ) (text ends body : List ℕ) (n : ℕ) : Type 0 where
  pub makes : built v text ends body ≡ made (minimal v (storage_of text ends) ends body)
  pub ascends : ends_ascend ends ≡ true
  pub last : start_of ends (length ends) ≤ length text
  pub plain : ascii (storage_of text ends) ≡ true
  pub small : all_small ends ≡ true
  pub measured : n ≡ length_of (length ends) (length (storage_of text ends)) (length body)
  pub limit : n ≤ size_limit

pub accepted : (v : ℕ) (text ends body : List ℕ) (n : ℕ) → Ok n ≡ answered (built v text ends body)
    → BuildAccepted v text ends body n
unfolding built checks ends_within
accepted v text ends body n e =
    let new = minimal v (storage_of text ends) ends body in
    let z = none_met (judge (checks v text ends body)) n new e in
    let (c₁, e₁) = judge_pass _ _ (omega arith) z.0 in
    let (c₂, e₂) = judge_pass _ _ (omega arith) e₁ in
    let (c₃, e₃) = judge_pass _ _ (omega arith) e₂ in
    let (c₄, e₄) = judge_pass _ _ (omega arith) e₃ in
    let (c₅, e₅) = judge_pass _ _ (omega arith) e₄ in
    let (c₆, e₆) = judge_pass _ _ (omega arith) e₅ in
    record {
      makes = rw z.0;
      ascends = not-false (ends_ascend ends) c₁;
      last = within_last text ends (length ends) (not-false (ends_within text ends) c₂);
      plain = not-false (ascii (storage_of text ends)) c₄;
      small = not-false (all_small ends) c₅;
      measured = z.1 ∙ length-minimal v (storage_of text ends) ends body;
      limit = omega (arith, z.1, ltb-false size_limit (length new) c₆);
    }

-- the same, of an answer that was found to be a length
pub fine : (v : ℕ) (text ends body : List ℕ) (r : Result ℕ ℕ) (n : ℕ) → r ≡ answered (built v text ends body) → r ≡ Ok n
    → BuildAccepted v text ends body n
fine v text ends body r n e f = accepted v text ends body n (sym f ∙ e)

-- ---- the ways out of the builder

-- an accepted image has room in the buffer; `size` is what the code takes of the text
pub record BuiltRoomy (v : ℕ) (text ends body out : List ℕ) (n size : ℕ) : Type 0 where
  pub accepted : BuildAccepted v text ends body n
  pub last : size ≡ start_of ends (length ends)
  pub room : n ≤ length out

module _ (v : ℕ) (text ends body out : List ℕ) where
  abbrev outcome : Outcome
  outcome = roomed (length out) (built v text ends body)

  -- a refusal goes out as it is
  pub goes_out : (r : Result ℕ ℕ) → r ≡ answered (built v text ends body) → (n : ℕ) → r ≡ Err n → Answers outcome r out out
  unfolding roomed
  goes_out r e n f = go (built v text ends body) e
    where
      go : (o : Outcome) → r ≡ answered o → Answers (roomed (length out) o) r out out
      go (refused m) g = (g, refl)
      go (made new) g = let z : ◌≡◌ {A = ℕ} 0 1 = cc in absurd (omega arith)

  new : List ℕ
  new = minimal v (storage_of text ends) ends body

  long_as : (n : ℕ) → BuildAccepted v text ends body n → n ≡ length new
  unfolding new
  long_as n ok = ok.measured ∙ sym (length-minimal v (storage_of text ends) ends body)

  pub no_room : (n : ℕ) → BuildAccepted v text ends body n → length out < n → Answers outcome (Err 13) out out
  unfolding new
  no_room n ok h = rw (ok.makes, roomed_short (length out) new (omega (arith, long_as n ok))) (refl, refl)

  -- the parts of the buffer and of the text that the code lends
  module _ (n size : ℕ) (y : BuiltRoomy v text ends body out n size) where
    pub room_made : (length (take (n - 0) (drop 0 out)) ≡ length_of (length ends) (length (take (size - 0) (drop 0 text))) (length body))
        × ((length (take (n - 0) (drop 0 out)) ≤ size_limit) × (ends_ascend ends ≡ true))
    room_made =
        rw (sub-zero, sub-zero, y.last, length-take-le n out y.room)
        (y.accepted.measured, (y.accepted.limit, y.accepted.ascends))

    pub written_out : (q : Result ℕ ℕ) (part : List ℕ)
        → Answers (made (minimal v (take (size - 0) (drop 0 text)) ends body)) q (take (n - 0) (drop 0 out)) part
        → Answers outcome q out (put_mid 0 (n - 0) out part)
    unfolding new
    written_out q part a =
        let l = long_as n y.accepted in
        rw (sub-zero, y.accepted.makes, roomed-fits (length out) new (omega (arith, l, y.room)))
        (lent-front new out part n q l y.room (rw (sub-zero, sub-zero, y.last) at a))

-- for one input a longer buffer changes no answer but 13
pub longer_buffer : (v : ℕ) (text ends body : List ℕ) (room more : ℕ) → room ≤ more
    → (roomed room (built v text ends body) ≡ refused 13 → ⊥)
    → roomed more (built v text ends body) ≡ roomed room (built v text ends body)
longer_buffer v text ends body = roomed_more (built v text ends body)

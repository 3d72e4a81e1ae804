-- Marks of strings: what the values are that they tell, and what those of the first strings tell.
use mathlib.Core.Path.{◌≡◌, refl, sym, ◌∙◌, subst, fun_ext}
use mathlib.Core.Bool.{true}
use mathlib.Core.Logic.{inl, inr}
use mathlib.Core.Option.{some}
use mathlib.Core.List.{List}
use Prim.Native.Nat.{ℕ, zero, suc, ◌-◌, ◌≤◌, ◌<◌}
use native.Mathlib.Nat.{min-le_left, min-le_right}
use native.Mathlib.Omega.{arith}
use borrow.Author.Tests.{le-ltb, lt-ltb}
use lib.ListN.{length, get_or, take, length-take, get_or-eq_default}
use lib.Seq.{get_or-take}
use Rattle.bits.proofs.TestLaws.{below_or}
use Rattle.bits.proofs.ListLaws.{AllBelow}
use Rattle.bits.proofs.ByteLaws.{bytes_at_below}
use Rattle.image.specs.Sections.{strings_in}
use Rattle.sections.specs.declared.Places.{Places}
use Rattle.sections.proofs.SectionLaws.{sectioned}
use Rattle.utf.specs.Utf8.{is_utf8}
use Rattle.string_walk.specs.declared.Cursor.{Cursor}
use Rattle.string_walk.specs.Places.{CursorOf}
use Rattle.string_edits.specs.Values.{Values}
use Rattle.string_edits.specs.Lists.{start_in, value_in}
use Rattle.string_edits.specs.Told.{told, marked, values_in, Listed}
use Rattle.string_edits.specs.declared.Form.TheVariants.{Marks}
use Rattle.string_edits.proofs.TurnLaws.{none-some}
use Rattle.string_edits.proofs.ToldLaws.{told_none, marks_listed}
use Rattle.string_in_place.specs.Known.{Given}
use Rattle.string_steps.specs.Steps.{up_to, Sound}
use Rattle.string_steps.specs.Marked.{Marked}

-- ---- the first k marks

module _ (marks text ends : List ℕ) (k : ℕ) where
  front_most : (length (take k marks) ≤ k) × (length (take k marks) ≤ length marks)
  front_most = rw length-take (min-le_left k (length marks), min-le_right k (length marks))

  -- they tell what the first k strings get
  pub front_gets : values_in (told Marks (take k marks)) text ends ≡ up_to k (values_in (told Marks marks) text ends)
  front_gets = fun_ext (λ i. elim (below_or i k) [
    | inl h ↦ rw (lt-ltb i k h, get_or-take k marks i 0 h)
    | inr h ↦ rw (le-ltb i k h, get_or-eq_default (take k marks) 0 {n = i} (omega (arith, front_most.0)))
  ])

  pub front-listed : Listed (told Marks marks) text ends → Listed (told Marks (take k marks)) text ends
  front-listed ls =
      marks_listed (take k marks) text ends
      (λ id j h e.
      let g : id < k = omega (arith, front_most.0) in
      ls.within id j (omega (arith, front_most.1), sym (get_or-take k marks id 0 g) ∙ e))

-- ---- what is told

-- a string that gets a value has a mark
mark_of : (text ends : List ℕ) (mark : ℕ) (value : List ℕ) → marked text ends mark ≡ some value
    → (j : ℕ) × (mark ≡ suc j) × (value_in text ends j ≡ value)
mark_of text ends zero value q = absurd (none-some value q)
mark_of text ends (suc j) value q = (j, refl, cc)

module _ (p : Places) (s marks text ends : List ℕ) (mk : Marked p s marks text ends) where
  abbrev gets : Values
  gets = values_in (told Marks marks) text ends

  counts : length marks ≡ strings_in s
  counts = mk.many ∙ (sectioned p s mk.laid.placed).strings

  -- the values are UTF-8, and no others are told
  pub sound : AllBelow 256 text → Sound p.layout s gets
  unfolding value_in
  sound below = record {
    admitted = mk.laid.admitted;
    valid = λ i h value q.
        let (j, e, w) = mark_of text ends (get_or marks i 0) value q in
        subst (λ (x : List ℕ). is_utf8 x ≡ true) w (mk.valid i j (omega (arith, counts), e));
    bytes = λ i h value q.
        let (j, e, w) = mark_of text ends (get_or marks i 0) value q in
        subst (AllBelow 256) w (bytes_at_below text (start_in ends (suc j) - start_in ends j) (start_in ends j) below);
    past = λ i h. told_none text ends i (told Marks marks) (λ j t. omega (arith, t.0, counts));
  }

  -- a pass over the marked strings starts at the first of all
  pub given : (c : Cursor) → CursorOf p s c → c.id ≡ 0 → Given p s (told Marks marks) text ends c
  given c h e = record {
    laid = mk.laid;
    listed = mk.listed;
    known = λ id j t. omega (arith, t.0, mk.many);
    from = record { cursor = h; most = omega arith; first = λ id j t. omega arith };
  }

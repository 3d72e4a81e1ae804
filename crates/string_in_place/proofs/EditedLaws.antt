-- A pass over the edited strings of an image, from one to the next.
use mathlib.Core.Path.{◌≡◌, ap, sym, ◌∙◌}
use mathlib.Core.Bool.{Bool, true, false, not}
use mathlib.Core.Option.{some}
use mathlib.Core.List.{List}
use Prim.Native.Nat.{ℕ, suc, ◌+◌, ◌≤◌, ◌<◌}
use native.Mathlib.Numerals.{add-one}
use native.Mathlib.Omega.{arith}
use borrow.Author.Tests.{not-true, not-false}
use Rattle.bits.specs.Choice.{both}
use Rattle.bits.proofs.TestLaws.{both_of}
use Rattle.image.specs.Sections.{strings_in}
use Rattle.sections.specs.declared.Places.{Places}
use Rattle.sections.proofs.SectionLaws.{Sectioned, sectioned}
use Rattle.string_walk.specs.declared.Cursor.{Cursor}
use Rattle.string_walk.specs.declared.Visited.{Visited}
use Rattle.string_walk.specs.Places.{Stands, CursorOf, VisitedOf}
use Rattle.string_edits.specs.declared.Next.{Next}
use Rattle.string_edits.specs.Values.{Values, in_turn, all_edited}
use Rattle.string_edits.specs.Lists.{Within}
use Rattle.string_edits.specs.Told.{Told, values_in, NextOf, coming_in, Coming}
use Rattle.string_edits.proofs.TurnLaws.{turn_start, turn_skip, turn_next, turn_last, edited_not}
use Rattle.string_edits.proofs.ToldLaws.{told_none, coming, coming_within}
use Rattle.string_in_place.specs.Known.{Given}

-- the pass stands at a string, and the next edit from there on is known
pub record Edge (p : Places) (s : List ℕ) (edits : Told) (c : Cursor) (n : Next) : Type 0 where
  pub cursor : CursorOf p s c
  pub most : c.id ≤ p.strings
  pub next : NextOf edits c.id n

-- the pass has come to the next edited string, and has visited it
pub record Met (p : Places) (s : List ℕ) (n : Next) (at : Cursor) (r : Visited) : Type 0 where
  pub edit : n.id < 4294967296
  pub here : at.id ≡ n.id
  pub visits : VisitedOf p s at r

module _ (p : Places) (s : List ℕ) (edits : Told) (text ends : List ℕ) (from : Cursor) (g : Given p s edits text ends from) where
  abbrev gets : Values
  gets = values_in edits text ends

  pub strings_few : p.strings ≤ 16777216
  strings_few = let z : Sectioned p s = sectioned p s g.laid.placed in omega arith

  counts : p.strings ≡ strings_in s
  counts = (sectioned p s g.laid.placed).strings

  -- at its start, before all edits
  pub edge_first : (n : Next) → NextOf edits from.id n → Edge p s edits from n
  edge_first n h = record { cursor = g.from.cursor; most = g.from.most; next = h }

  pub turn_first : {A : Type 0} (turn : ℕ → List ℕ → A → A) (a : A) → in_turn gets turn from.id a ≡ a
  turn_first turn a =
      turn_skip gets turn a 0 from.id (omega arith)
      (λ i h k. told_none text ends i edits (λ j t. omega (arith, g.from.first i j t)))
      ∙ turn_start gets turn a

  module _ (c : Cursor) (n : Next) (e : Edge p s edits c n) where
    come : Coming gets (coming_in text ends n) c.id n.id
    come = coming edits text ends g.listed c.id n e.next

    -- the next edit is of a string, and its value stands in the text
    pub edge_known : n.id < 4294967296 → n.id < p.strings
    edge_known h = g.known n.id n.edit (e.next.own h)

    pub edge_within : n.id < 4294967296 → Within text ends n.edit
    edge_within = coming_within edits text ends g.listed c.id n e.next

    -- with none left, all have had their turn
    pub turn_end : {A : Type 0} (turn : ℕ → List ℕ → A → A) (a : A) → 4294967296 ≤ n.id
        → in_turn gets turn (strings_in s) a ≡ in_turn gets turn c.id a
    turn_end turn a h =
        turn_last gets turn a (coming_in text ends n) c.id n.id (strings_in s) come (omega (arith, e.most, counts))
        (omega (arith, strings_few, counts))

    module _ (at : Cursor) (r : Visited) (m : Met p s n at r) where
      pub behind : r.next.id ≡ suc n.id
      behind = m.visits.id ∙ ap (λ (i : ℕ). i + 1) m.here ∙ add-one n.id

      pub met_stands : Stands p s n.id r.string
      met_stands = rw m.here at m.visits.string

      -- it is one of the strings, and what it gets
      pub met_known : n.id < strings_in s
      met_known = omega (arith, edge_known m.edit, counts)

      pub met_gets : gets n.id ≡ some (coming_in text ends n)
      met_gets = come.at m.edit

      -- one further
      pub edge_next : (k : Next) → NextOf edits r.next.id k → Edge p s edits r.next k
      edge_next k h =
          record { cursor = m.visits.next; most = omega (arith, behind, edge_known m.edit); next = h }

      pub edge_past : c.id < r.next.id
      edge_past = omega (arith, behind, e.next.past)

      pub turn_met : {A : Type 0} (turn : ℕ → List ℕ → A → A) (a : A)
          → in_turn gets turn r.next.id a ≡ turn n.id (coming_in text ends n) (in_turn gets turn c.id a)
      turn_met turn a =
          ap (λ (i : ℕ). in_turn gets turn i a) behind
          ∙ turn_next gets turn a (coming_in text ends n) c.id n.id come m.edit

      -- a test of each, by what the code answers for this one
      module _ (test : ℕ → List ℕ → Bool) (b : Bool) (t : b ≡ test n.id (coming_in text ends n)) where
        pub test_stop : not b ≡ true → false ≡ all_edited gets test (strings_in s)
        test_stop f =
            sym (edited_not gets test (strings_in s) n.id (coming_in text ends n) met_known met_gets (sym t ∙ not-true b f))

        pub test_next : not b ≡ false → all_edited gets test c.id ≡ true → all_edited gets test r.next.id ≡ true
        test_next f h =
            turn_met (λ i x y. both (test i x) y) true
            ∙ both_of (test n.id (coming_in text ends n)) (all_edited gets test c.id) (sym t ∙ not-false b f) h

    pub test_end : (test : ℕ → List ℕ → Bool) → 4294967296 ≤ n.id → all_edited gets test c.id ≡ true
        → true ≡ all_edited gets test (strings_in s)
    test_end test h a = sym (turn_end (λ i x y. both (test i x) y) true h ∙ a)

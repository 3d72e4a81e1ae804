-- One more line of a file: what was read before it, and what is read after it.
use mathlib.Core.Path.{◌≡◌, refl, ap, sym, ◌∙◌}
use mathlib.Core.Bool.{true, false}
use mathlib.Core.Logic.{inl, inr}
use mathlib.Core.List.{List, [], ◌∷◌}
use Prim.Native.Nat.{ℕ, suc, ◌+◌, ◌-◌, ◌*◌, ◌≤◌, ◌<◌}
use native.Mathlib.Nat.{add-zero}
use native.Mathlib.Omega.{arith}
use lib.ListN.{length, drop, length-append, drop_of_length-le}
use Rattle.string_edits.specs.Lists.{start_in}
use Rattle.po_lines.specs.declared.Kind.{Kind}
use Rattle.po_lines.specs.declared.Kind.TheVariants.{Blank, Msgid, Msgstr, More, Outside}
use Rattle.po_lines.specs.declared.Took.{Took}
use Rattle.po_lines.specs.Lines.{lines_of}
use Rattle.po_lines.specs.Kinds.{Line, read_lines, opens_value, continues_value}
use Rattle.po_lines.specs.Taken.{OutsideAt, TookLine}
use Rattle.po_pairs.specs.declared.Reached.{Reached}
use Rattle.po_pairs.specs.declared.Stand.{Stand}
use Rattle.po_pairs.specs.declared.Stand.TheVariants.{Between, InId, InStr, Astray}
use Rattle.po_pairs.specs.Order.{follow, stand_after, ends_well, is_astray, in_value}
use Rattle.po_pairs.specs.Pairs.{values_in}
use Rattle.po_pairs.specs.Held.{Held, joined_by, grown, ends_after, count_after, Roomy, ReadTo, Unread, Turned}
use Rattle.po_pairs.proofs.OrderLaws.{never, astray_ends, outside_astray, values_grown}
use Rattle.po_pairs.proofs.HeldLaws.{last_length, start_new, held_open, held_more, held_none}

-- ---- the order after one more line

-- a line that continues a value stands in one
more_open : (st : Stand) → is_astray (follow st More) ≡ false → in_value st ≡ true
more_open Between h = never (sym h)
more_open InId h = refl
more_open InStr h = refl
more_open Astray h = never (sym h)

-- a line that is empty or a comment ends the value before it
blank_closed : (st : Stand) → in_value (follow st Blank) ≡ false
blank_closed Between = refl
blank_closed InId = refl
blank_closed InStr = refl
blank_closed Astray = refl

pub read_none : (s text ends : List ℕ) → ReadTo s text ends (record { stand = Between; values = 0; to = 0; at = 0 })
unfolding start_in
read_none s text ends =
    record {
      values = [];
      held = held_none text ends;
      many = refl;
      end = refl;
      left = refl;
      order = refl;
      begun = λ h. never h;
      within = omega arith;
      low = omega arith;
      few = omega arith;
    }

module _ (s text ends : List ℕ) (p : Reached) (f : ReadTo s text ends p) where
  -- the next line leads astray
  stray : (l : Line) (ls : List Line) → read_lines (drop p.at s) ≡ l ∷ ls → is_astray (follow p.stand l.kind) ≡ true
      → Unread s
  unfolding stand_after
  stray l ls e h = inr (rw (← f.order, e) (astray_ends (follow p.stand l.kind) ls h))

  pub line_outside : OutsideAt s p.at → Unread s
  line_outside (inl e) = inl e
  line_outside (inr o) = stray o.0 o.1 o.2 (rw o.3 (outside_astray p.stand))

  module _ (r : Took) (new : List ℕ) (line : TookLine s p.at text p.to r new) where
    pub line_astray : is_astray (follow p.stand r.kind) ≡ true → Unread s
    line_astray h = stray (record { kind = r.kind; text = line.text }) (read_lines (drop r.next s)) line.first h

    -- where the places for more values and bytes are
    module _ (room : Roomy s text ends) where
      bytes_fit : p.to + length line.text ≤ length text
      bytes_fit = omega (arith, line.wrote.0, line.few, line.within, f.low, room.bytes)

      pub words_fit : p.values ≤ length ends
      words_fit = omega (arith, f.few, f.within, room.words)

      pub opens_fit : opens_value r.kind ≡ true → p.values < length ends
      opens_fit h = omega (arith, f.few, line.long h, line.within, room.words)

      pub end_fits : r.to < 4294967296
      end_fits = omega (arith, line.few, line.within, f.low, room.low)

      module _ (ok : is_astray (follow p.stand r.kind) ≡ false) where
        pub more_fits : continues_value r.kind ≡ true → 0 < p.values
        more_fits h = go r.kind h ok
          where
            go : (k : Kind) → continues_value k ≡ true → is_astray (follow p.stand k) ≡ false → 0 < p.values
            go Blank h o = never h
            go Msgid h o = never h
            go Msgstr h o = never h
            go More h o = f.begun (more_open p.stand o)
            go Outside h o = never h

        -- the values after the line, by its kind
        abbrev Grew : Kind → List ℕ → Type 0
        Grew k t =
            Held new (ends_after ends p.values k r.to) (joined_by f.values (record { kind = k; text = t }))
            × (count_after p.values k ≡ length (joined_by f.values (record { kind = k; text = t })))
            × (r.to ≡ start_in (ends_after ends p.values k r.to) (count_after p.values k))

        opened : (k : Kind) → opens_value k ≡ true → p.values < length ends → Grew k line.text
        opened k o h =
            let e : r.to ≡ p.to + length line.text = line.wrote.0 in
            let n : p.values + 1 ≡ suc p.values = omega arith in
            let m : p.values ≡ length f.values = f.many in
            rw (o, line.wrote.1, e) (
              rw m (held_open text ends line.text f.values f.held p.to bytes_fit (rw m at h) (rw m at f.end)),
              omega (arith, m, length-append f.values (line.text ∷ [])),
              rw n (sym (start_new ends p.values (p.to + length line.text) h)),
            )

        continues : 0 < p.values → Grew More line.text
        continues h =
            let e : r.to ≡ p.to + length line.text = line.wrote.0 in
            let n : suc (p.values - 1) ≡ p.values = omega arith in
            let c : length f.values ≡ suc (p.values - 1) = omega (arith, f.many) in
            rw (line.wrote.1, e) (
              held_more text ends line.text f.values f.held p.to bytes_fit (p.values - 1) c (rw n f.end),
              f.many ∙ sym (last_length f.values line.text),
              rw n at (sym (start_new ends (p.values - 1) (p.to + length line.text) (omega (arith, words_fit)))),
            )

        passed : line.text ≡ [] → Grew Blank line.text
        passed e =
            let t : r.to ≡ p.to = line.wrote.0 ∙ rw e (add-zero p.to) in
            (rw (line.wrote.1, e) f.held, f.many, t ∙ f.end)

        grew : Grew r.kind line.text
        grew = go r.kind refl
          where
            go : (k : Kind) → r.kind ≡ k → Grew k line.text
            go Blank e = passed (line.blank (rw e))
            go Msgid e = opened Msgid refl (opens_fit (rw e))
            go Msgstr e = opened Msgstr refl (opens_fit (rw e))
            go More e = continues (more_fits (rw e))
            go Outside e = absurd (line.some e)

        counted : (k : Kind) → (opens_value k ≡ true → p.at + 8 ≤ r.next) → count_after p.values k * 8 ≤ r.next
        counted Blank h = omega (arith, f.few, line.onward)
        counted Msgid h = omega (arith, f.few, h refl)
        counted Msgstr h = omega (arith, f.few, h refl)
        counted More h = omega (arith, f.few, line.onward)
        counted Outside h = omega (arith, f.few, line.onward)

        opens : (k : Kind) → is_astray (follow p.stand k) ≡ false → in_value (follow p.stand k) ≡ true
            → 0 < count_after p.values k
        opens Blank o h = never (sym (blank_closed p.stand) ∙ h)
        opens Msgid o h = omega arith
        opens Msgstr o h = omega arith
        opens More o h = f.begun (more_open p.stand o)
        opens Outside o h = never (sym o ∙ outside_astray p.stand)

        pub line_read : (st : Stand) (n : ℕ) (ends' : List ℕ) → st ≡ follow p.stand r.kind
            → n ≡ count_after p.values r.kind
            → ends' ≡ ends_after ends p.values r.kind r.to
            → ReadTo s new ends' (record { stand = st; values = n; to = r.to; at = r.next })
        unfolding grown stand_after
        line_read st n ends' a b c =
            rw (a, b, c) (record {
              values = joined_by f.values (record { kind = r.kind; text = line.text });
              held = grew.0;
              many = grew.1;
              end = grew.2;
              left = rw line.first at f.left;
              order = rw line.first at f.order;
              begun = opens r.kind ok;
              within = line.within;
              low = omega (arith, line.few, f.low);
              few = counted r.kind line.long;
            })

pub turned_astray : (s text ends : List ℕ) (p r : Reached) → is_astray r.stand ≡ true → Unread s → Turned s text ends p r
turned_astray s text ends p r a u =
    record { faulty = λ h. u; sound = λ h. never (sym h ∙ a); onward = λ h. never (sym h ∙ a) }

pub roomy_still : (s text ends text' ends' : List ℕ) → Roomy s text ends → length text' ≡ length text
    → length ends' ≡ length ends
    → Roomy s text' ends'
roomy_still s text ends text' ends' room t e = record { bytes = t ∙ room.bytes; words = e ∙ room.words; low = room.low }

-- ---- no more line

module _ (s text ends : List ℕ) (p : Reached) (f : ReadTo s text ends p) (h : length s ≤ p.at) where
  no_line : read_lines (drop p.at s) ≡ []
  unfolding read_lines lines_of
  no_line = rw (drop_of_length-le s h)

  stand_is : p.stand ≡ stand_after Between (read_lines s)
  unfolding stand_after
  stand_is = rw no_line at f.order

  pub cut_short : ends_well p.stand ≡ false → Unread s
  cut_short e = inr (rw (← stand_is) e)

  module _ (e : ends_well p.stand ≡ true) where
    pub all_well : ends_well (stand_after Between (read_lines s)) ≡ true
    all_well = rw (← stand_is) e

    values_are : f.values ≡ values_in s
    unfolding grown values_in
    values_are = rw no_line at f.left ∙ values_grown (read_lines s) all_well

    pub all_counted : p.values ≡ length (values_in s)
    all_counted = f.many ∙ ap length values_are

    pub all_held : Held text ends (values_in s)
    all_held = rw values_are at f.held

-- The rebuilt image as the code writes it: what stands around the strings, the strings, the counts, what moves, the end of every patch.
use Rattle.std.specs.Prelude.{Result}
use mathlib.Core.Path.{◌≡◌, ap, sym, ◌∙◌, subst, subst⁻¹}
use mathlib.Core.Bool.{true}
use mathlib.Core.List.{List}
use Prim.Native.Nat.{ℕ, ◌+◌, ◌-◌, ◌*◌, ◌≤◌}
use native.Mathlib.Omega.{arith}
use lib.ListN.{length}
use lib.Seq.{sets}
use Rattle.bits.specs.Bytes.{up4}
use Rattle.bits.specs.Outcome.{Answers, made}
use Rattle.format.specs.declared.Mode.{Mode}
use Rattle.format.specs.Table as table
use Rattle.footer.specs.Finalize.{size_limit}
use Rattle.image.specs.Sections.{strings_in, small_at, tail_at}
use Rattle.edits.specs.Edit.{write_all, splice}
use Rattle.edits.specs.Fit.{fields_fit}
use Rattle.edits.specs.Packing.{Packed}
use Rattle.edits.specs.Rebuild.{region, padded, new_tail, rebuild}
use Rattle.sections.specs.declared.Places.{Places}
use Rattle.sections.specs.Places.{Laid}
use Rattle.sections.proofs.SectionLaws.{Sectioned, sectioned}
use Rattle.relocate.specs.declared.Move.{Move}
use Rattle.relocate.specs.declared.Cause.TheVariants.{Strings}
use Rattle.relocate.specs.Relocate.{moved_place, Copied, count_words, relocated, around, Movable}
use Rattle.relocate.proofs.EditLaws.{spliced_is, rebuilding, rebuild-is}
use Rattle.relocate.proofs.MovableLaws.{rebuild_movable}
use Rattle.string_walk.specs.declared.Cursor.{Cursor}
use Rattle.string_edits.specs.Values.{Values}
use Rattle.string_edits.specs.Told.{Told, values_in}
use Rattle.string_packing.specs.declared.Sizes.{Sizes}
use Rattle.string_packing.specs.Strings.{strings_with}
use Rattle.string_packing.proofs.PassLaws.{storage_is, overflows_are, tail_is}
use Rattle.string_in_place.specs.Known.{Finishable}
use Rattle.string_in_place.specs.Patch.{changed, finished, patched_strings}
use Rattle.string_in_place.proofs.FinishLaws.{answers_over, length-finished}
use Rattle.string_rebuild.specs.Ready.{Ready}

-- the strings of the new image, packed
abbrev pub new_strings : Mode → Places → List ℕ → Values → Packed
new_strings m p s v = strings_with m p.layout s v

-- the tail moves, for the strings' sake
abbrev move_tail : Places → ℕ → Move
move_tail p to = record { from = p.tail; to = to; cause = Strings }

-- in a buffer of so much room: what stands around the strings, the strings, the two counts and what moves, one after the other
pub record Rewritten (m : Mode) (p : Places) (s : List ℕ) (v : Values) (z : Sizes) (to room : ℕ)
    (out o₁ o₂ o₃ o₄ : List ℕ) : Type 0 where
  pub fits : length out ≡ room
  pub around : o₁ ≡ around p.small_at p.tail to s out
  pub strings : o₂ ≡ sets o₁ p.small_at (padded p.small_at (region p.strings (new_strings m p s v)))
  pub counts : o₃ ≡ write_all (count_words z.overflows z.storage) o₂
  pub places : o₄ ≡ relocated p.layout s (move_tail p to) o₃
  pub long : length o₄ ≡ length out

module _ (m : Mode) (p : Places) (s : List ℕ) (edits : Told) (text ends : List ℕ) (c : Cursor) (z : Sizes) (to room : ℕ)
    (rd : Ready m p s edits text ends c z to room) where
  abbrev gets : Values
  gets = values_in edits text ends

  laid : Laid p s
  laid = rd.asked.given.laid

  sc : Sectioned p s
  sc = sectioned p s laid.placed

  abbrev ts : Packed
  ts = new_strings m p s gets

  to_is : to ≡ new_tail p.layout ts s
  to_is = rd.tail ∙ tail_is m p s laid.placed gets z rd.measured

  -- ---- what the calls ask for

  pub around-room : Copied p.small_at p.tail to (length s) room
  around-room = record {
    front = omega (arith, sc);
    back = omega (arith, sc);
    front_room = omega (arith, sc, rd.tail, rd.long);
    back_room = omega (arith, sc, rd.long);
  }

  pub region-room : (up4 (p.over_at + z.overflows * 8 + z.storage) ≤ room)
      × (p.over_at + z.overflows * 8 + z.storage ≤ size_limit)
  region-room = (omega (arith, sc, rd.tail, rd.long), omega (arith, sc, rd.tail, rd.long, rd.limit))

  pub header-room : table.header_length ≤ room
  header-room = omega (arith, sc, rd.tail, rd.long)

  pub ends_room : Finishable p room
  ends_room = record { slots = around-room.front_room; least = omega (arith, header-room); limit = rd.limit }

  move_is : move_tail p to ≡ rebuilding p.layout ts s
  move_is = λ j. record { from = sc.tail_from j; to = to_is j; cause = Strings }

  pub movable : Movable p.layout s (move_tail p to) room
  movable =
      subst⁻¹ (λ (v : Move). Movable p.layout s v room) move_is
      (rebuild_movable p.layout s room ts
      (record {
        admitted = laid.admitted;
        limit = rd.limit;
        fields = subst (λ (m : Move). fields_fit p.layout s (moved_place m) ≡ true) move_is rd.fields;
      })
      (rd.long ∙ ap (λ (t : ℕ). length s - t + to) sc.tail_from ∙ ap (λ (t : ℕ). length s - tail_at p.layout s + t) to_is))

  -- ---- what they leave

  module _ {out o₁ o₂ o₃ o₄ : List ℕ} (w : Rewritten m p s gets z to room out o₁ o₂ o₃ o₄) where
    spliced : o₂ ≡ splice (small_at p.layout s) (tail_at p.layout s) (padded (small_at p.layout s) (region (strings_in s) ts)) s
    spliced =
        let a : ℕ = small_at p.layout s in
        let new : List ℕ = padded a (region (strings_in s) ts) in
        spliced_is a (tail_at p.layout s) new s out
        (record {
          order = omega (arith, sc);
          most = omega (arith, sc);
          fits = w.fits ∙ rd.long ∙ ap (λ (t : ℕ). length s - t + to) sc.tail_from
              ∙ ap (λ (t : ℕ). length s - tail_at p.layout s + t) to_is;
        }) o₁ o₂
        (w.around ∙ rw (sc.tail_from, to_is, sc.small_from))
        (w.strings ∙ rw (sc.small_from, sc.strings))

    rebuilt : o₄ ≡ rebuild p.layout ts s
    rebuilt =
        w.places ∙ ap (λ (v : Move). relocated p.layout s v o₃) move_is
        ∙ ap (relocated p.layout s (rebuilding p.layout ts s))
        (w.counts
        ∙ rw (
          overflows_are m p s laid.placed gets z rd.measured,
          storage_is m p s laid.placed gets z rd.measured,
          spliced,
        ))
        ∙ rebuild-is p.layout ts s

    pub patch_put : (o₅ : List ℕ) (r : Result ℕ ℕ) → Answers (made (finished p.layout s gets o₄)) r o₄ o₅
        → Answers (made (patched_strings m p.layout s gets)) r out o₅
    unfolding patched_strings changed
    patch_put o₅ r a =
        let k : length (finished p.layout s gets o₄) ≡ length o₄
        = length-finished p.layout s gets o₄ (omega (arith, header-room, w.long, w.fits)) in
        rw (rd.asked.moves, ← rebuilt)
        (answers_over (finished p.layout s gets o₄) o₄ out o₅ r (sym k) (sym w.long ∙ sym k) a)

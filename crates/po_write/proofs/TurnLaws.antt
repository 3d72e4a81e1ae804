-- The turn of one string: what was found of it, and the words and the length after it.
use mathlib.Core.Path.{◌≡◌, ap, sym, ◌∙◌, subst⁻¹}
use mathlib.Core.Bool.{Bool, true, false}
use mathlib.Core.List.{List}
use Prim.Native.Nat.{ℕ, ◌+◌, ◌*◌, ◌%◌, ◌≤◌, ◌<◌}
use native.Mathlib.Nat.{mod-lt}
use native.Mathlib.Omega.{arith}
use lib.ListN.{length}
use Rattle.format.specs.Hash.{hash_of}
use Rattle.utf.specs.Utf16.{utf8_of, is_utf16}
use Rattle.po_text.specs.Written.{escaped}
use Rattle.po_text.proofs.EscapeLaws.{entry_length}
use Rattle.image.specs.Strings.{unit_size}
use Rattle.image.specs.Kinds.{is_identifier}
use Rattle.sections.specs.declared.Places.{Places}
use Rattle.sections.specs.Places.{Laid}
use Rattle.string_walk.specs.declared.StringRecord.{StringRecord}
use Rattle.string_walk.specs.Records.{is_ranked}
use Rattle.string_walk.specs.Places.{Stands}
use Rattle.string_walk.proofs.RankLaws.{ranked_flag}
use Rattle.po_strings.specs.declared.Text.{Text}
use Rattle.po_strings.specs.Texts.{is_held, text_of, Inside, units_in}
use Rattle.po_strings.proofs.PointLaws.{held_valid}
use Rattle.po_strings.proofs.StringLaws.{text_inside, text_units}
use Rattle.string_find.proofs.FindLaws.{length_at}
use Rattle.po_write.specs.Strings.{value_of, is_written}
use Rattle.po_write.specs.File.{file_at}
use Rattle.po_write.specs.Work.{bucket_of, Filled, kept_text}
use Rattle.po_write.proofs.FirstLaws.{written_held}
use Rattle.po_write.proofs.FileLaws.{pair_none, pair_some}
use Rattle.po_write.proofs.WorkLaws.{filled_skip, Keeps, filled_keep}

-- string `id` was found, and a text is its own
pub record Found (p : Places) (s : List ℕ) (id : ℕ) (r : StringRecord) (t : Text) : Type 0 where
  pub laid : Laid p s
  pub known : id < p.strings
  pub stands : Stands p s id r
  pub text : t ≡ text_of r

-- the rank tells whether it is an identifier
pub found_flag : (p : Places) (s : List ℕ) (id : ℕ) (r : StringRecord) → Stands p s id r → (b : Bool) → b ≡ is_ranked r.rank
    → b ≡ is_identifier p.layout s id
found_flag p s id r g b e = e ∙ ap is_ranked g.rank ∙ ranked_flag p.layout s id

module _ (p : Places) (s : List ℕ) (id : ℕ) (r : StringRecord) (t : Text) (g : Found p s id r t) where
  pub found_inside : Inside s t
  found_inside = subst⁻¹ (λ (x : Text). Inside s x) g.text (text_inside p s g.laid.placed id r g.stands)

  pub found_units : units_in s t ≡ value_of p.layout s id
  unfolding value_of
  found_units = ap (λ (x : Text). units_in s x) g.text ∙ text_units p s g.laid.placed id r g.stands

  pub found_small : (t.start ≤ 67108864) × (t.count ≤ 67108864)
  found_small = go t.wide found_inside
    where
      go : (w : Bool) → t.start + t.count * unit_size w ≤ length s → (t.start ≤ 67108864) × (t.count ≤ 67108864)
      go true h = (omega (arith, g.laid.placed.fits.most), omega (arith, g.laid.placed.fits.most))
      go false h = (omega (arith, g.laid.placed.fits.most), omega (arith, g.laid.placed.fits.most))

  pub found_held : (b : Bool) → b ≡ is_held (units_in s t) → b ≡ is_held (value_of p.layout s id)
  found_held b e = e ∙ ap is_held found_units

  pub found_bucket : (h : ℕ) → h ≡ hash_of (units_in s t) → h % p.strings ≡ bucket_of p.layout s p.strings id
  unfolding bucket_of
  found_bucket h e = rw (e, found_units)

  pub bucket_low : (h : ℕ) → h % p.strings < p.strings
  bucket_low h = mod-lt h (omega (arith, g.known))

-- what a turn answers, and the words after it
abbrev pub Turned : Places → List ℕ → ℕ → ℕ → List ℕ → Type 0
Turned p s id n w =
    (n ≡ length (file_at p.layout s id)) × (n ≤ 268435476) × Filled p.layout s p.strings (id + 1) w

module _ (p : Places) (s : List ℕ) (id : ℕ) (w : List ℕ) (f : Filled p.layout s p.strings id w) (known : id < p.strings) where
  pub turn_off : is_written p.layout s id ≡ false → Turned p s id 0 w
  turn_off h =
      (rw (pair_none p.layout s id h), omega arith, filled_skip p.layout s p.strings id w known f h)

  module _ (r : StringRecord) (t : Text) (g : Found p s id r t) (on : is_written p.layout s id ≡ true) where
    pub found_valid : is_utf16 (units_in s t) ≡ true
    found_valid =
        ap is_utf16 (found_units p s id r t g) ∙ (held_valid (value_of p.layout s id) (written_held p.layout s id on)).0

    keeps : (h : ℕ) → h ≡ hash_of (units_in s t) → Keeps p.layout s p.strings id (h % p.strings) w t
    keeps h e =
        let v = held_valid (value_of p.layout s id) (written_held p.layout s id on) in
        record {
          known = known;
          filled = f;
          written = on;
          bucket = found_bucket p s id r t g h e;
          low = bucket_low p s id r t g h;
          inside = found_inside p s id r t g;
          units = found_units p s id r t g;
          some = omega (
            arith,
            v.2,
            ap length (found_units p s id r t g),
            length_at s t.start t.wide 0 t.count,
          );
        }

    pub turn_on : (h n : ℕ) (v : List ℕ) → h ≡ hash_of (units_in s t) → v ≡ kept_text w p.strings id (h % p.strings) t
        → (n ≡ length (escaped (utf8_of (units_in s t)))) × (n ≤ 4 * t.count) → Turned p s id (n + 20) v
    turn_on h n v e k m =
        let u = found_units p s id r t g in
        let c = found_small p s id r t g in (
          sym (ap length (pair_some p.layout s id on) ∙ entry_length (utf8_of (value_of p.layout s id))
              ∙ rw (← u) (omega (arith, m.0))),
          omega (arith, m.1, c.1),
          filled_keep p.layout s p.strings id (h % p.strings) w t (keeps h e) v k,
        )

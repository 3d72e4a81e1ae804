-- The strings of a stretch, written one after the other.
use mathlib.Core.Path.{◌≡◌, ap, sym, ◌∙◌, subst, subst⁻¹}
use mathlib.Core.List.{List}
use Prim.Native.Nat.{ℕ, ◌≤◌, ◌<◌}
use native.Mathlib.Omega.{arith}
use Rattle.format.specs.declared.Mode.{Mode}
use Rattle.image.specs.Strings.{Str}
use Rattle.sections.specs.declared.Places.{Places}
use Rattle.sections.specs.Places.{Placed}
use Rattle.string_edits.specs.Values.{Values, only}
use Rattle.string_packing.specs.declared.Packer.{Packer}
use Rattle.string_packing.specs.declared.Stretch.{Stretch}
use Rattle.string_packing.specs.Strings.{string_with, strings_with}
use Rattle.string_packing.specs.Pass.{Reached, StretchOf}
use Rattle.string_packing.proofs.PassLaws.{stretch_string}
use Rattle.string_packing_write.specs.declared.RegionPlaces.{RegionPlaces}
use Rattle.string_packing_write.specs.Region.{put_string, StringFits, Roomy}
use Rattle.string_packing_write.specs.Written.{Behind, LaidOn}
use Rattle.string_packing_write.proofs.PutLaws.{Filling, next_fits, next_reached, laid-further}

-- strings get the values v, of which the code holds one for a stretch; those before it are packed, and a buffer of n bytes has room for all
pub record Writing (m : Mode) (p : Places) (s : List ℕ) (v : Values) (value : List ℕ) (r : Stretch) (c : Packer) (to : RegionPlaces)
    (n : ℕ) : Type 0 where
  pub placed : Placed p s
  pub stretch : StretchOf v value c.old.id p.strings r
  pub reached : Reached m p s (string_with p.layout s v) c
  pub roomy : Roomy to p.strings (strings_with m p.layout s v) n

-- one of them is in its turn, and those before it are packed too
module _ (m : Mode) (p : Places) (s : List ℕ) (v : Values) (value : List ℕ) (r : Stretch) (c : Packer) (to : RegionPlaces) (n : ℕ)
    (w : Writing m p s v value r c to n) (d : Packer) (from : c.old.id ≤ d.old.id) (before : d.old.id < r.end)
    (reached : Reached m p s (string_with p.layout s v) d) where
  abbrev strings : ℕ → Str
  strings = string_with p.layout s v

  -- it is the one that the code writes
  abbrev held : Str
  held = string_with p.layout s (only r.next.id value) d.old.id

  same : strings d.old.id ≡ held
  same = stretch_string p.layout s v value c.old.id p.strings r w.stretch d.old.id from before

  filling : Filling m p s strings d to n
  unfolding strings_with
  filling = record { placed = w.placed; known = omega (arith, w.stretch.most); reached = reached; roomy = w.roomy }

  pub held_fits : StringFits m to d.old.id d.over d.at held n
  held_fits =
      subst (λ (t : Str). StringFits m to d.old.id d.over d.at t n) same (next_fits m p s strings d to n filling)

  module _ (e : Packer) (b : Behind m p s d held e) where
    pub held_reached : Reached m p s strings e
    held_reached = next_reached m p s strings d to n filling e (subst⁻¹ (λ (t : Str). Behind m p s d t e) same b)

    pub held_laid : (out o1 o2 : List ℕ) → LaidOn m to strings c.old.id d.old.id out o1
        → o2 ≡ put_string m to d.old.id d.over d.at held o1 → LaidOn m to strings c.old.id e.old.id out o2
    held_laid out o1 o2 on q o h =
        laid-further m p s strings d to n filling e.old.id o o1 o2 b.string (on o h)
        (q ∙ ap (λ (t : Str). put_string m to d.old.id d.over d.at t o1) (sym same))

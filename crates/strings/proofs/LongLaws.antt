-- A value of 2^32 bytes or more: no image holds it as a string.
use Rattle.std.specs.Prelude.{Err}
use mathlib.Core.Path.{◌≡◌, refl, ap, ◌∙◌}
use mathlib.Core.Bool.{Bool, true, false}
use mathlib.Core.Logic.{inl, inr}
use mathlib.Core.List.{List}
use Prim.Native.Nat.{ℕ, ◌+◌, ◌*◌, ◌≤◌, ◌<◌}
use native.Mathlib.Omega.{arith}
use borrow.Author.Tests.{lt-ltb}
use lib.ListN.{length, length-append}
use Rattle.bits.specs.Choice.{pick, both, judge}
use Rattle.bits.specs.Bytes.{ascii, zeros_to4}
use Rattle.bits.specs.Outcome.{Answers, roomed}
use Rattle.bits.proofs.TestLaws.{which}
use Rattle.format.specs.declared.Mode.{Mode}
use Rattle.format.proofs.MoveLaws.{moved-high}
use Rattle.footer.specs.Finalize.{size_limit}
use Rattle.utf.specs.Utf8.{is_utf8, utf16, unit_bytes}
use Rattle.utf.proofs.LengthLaws.{units_least}
use Rattle.image.specs.Sections.{strings_in, small_at, tail_at}
use Rattle.image.specs.Strings.{Str, size_of, place_at}
use Rattle.edits.specs.Packing.{Packed, store_of, start_of}
use Rattle.edits.specs.Rebuild.{region, padded, new_tail}
use Rattle.edits.proofs.PackLaws.{size_room}
use Rattle.edits.proofs.RegionLaws.{length-region}
use Rattle.sections.specs.declared.Places.{Places}
use Rattle.sections.specs.Places.{Laid}
use Rattle.sections.proofs.SectionLaws.{Sectioned, sectioned}
use Rattle.string_edits.specs.Values.{only}
use Rattle.string_edits.proofs.TurnLaws.{only_own, turn_only}
use Rattle.string_packing.specs.Strings.{as_string, string_with, strings_with}
use Rattle.string_packing.proofs.ShapeLaws.{length_units}
use Rattle.string_in_place.specs.Patch.{fits_in_place, fits_all, new_length, patch_known}
use Rattle.string_in_place.proofs.InPlaceLaws.{fits-size}

-- as a string a value has no fewer than half its bytes
half_bytes : (value : List ℕ) → is_utf8 value ≡ true → length value ≤ length (as_string value).bytes * 2
unfolding as_string
half_bytes value t = go (ascii value)
  where
    go : (b : Bool) → length value ≤ length
        (pick {A = Str} b (record { wide = false; bytes = value }) (record { wide = true; bytes = unit_bytes (utf16 value) })).bytes * 2
    go true = omega arith
    go false = rw (length_units (utf16 value)) (omega (arith, units_least value t))

module _ (m : Mode) (p : Places) (s : List ℕ) (laid : Laid p s) (id : ℕ) (known : id < p.strings) (value : List ℕ)
    (valid : is_utf8 value ≡ true) (huge : 4294967295 < length value) where
  sc : Sectioned p s
  sc = sectioned p s laid.placed

  known_in : id < strings_in s
  known_in = omega (arith, known, sc.strings)

  abbrev ts : Packed
  ts = strings_with m p.layout s (only id value)

  own_string : string_with p.layout s (only id value) id ≡ as_string value
  unfolding string_with
  own_string = rw (only_own id value)

  value-within : length (as_string value).bytes ≤ length ts.store
  unfolding strings_with
  value-within =
      let f : ℕ → Str = string_with p.layout s (only id value) in
      let h : start_of m f id + length (f id).bytes ≤ length (store_of m f (strings_in s)) = size_room m f id (strings_in s) known_in in
      omega (arith, h, ap (λ (t : Str). length t.bytes) own_string)

  store_within : length ts.store ≤ new_tail p.layout ts s
  unfolding padded
  store_within =
      let n : ℕ = strings_in s in
      omega (arith, length-append (region n ts) (zeros_to4 (small_at p.layout s + length (region n ts))), length-region n ts)

  -- no string of the image has as many bytes
  not_sized : fits_in_place p.layout s id value ≡ true → ⊥
  not_sized t =
      let o : size_of (place_at p.layout s id) ≤ size_limit
      = omega (arith, laid.admitted.stored id known_in, sc) in
      omega (arith, fits-size p.layout s id value t)

  moves : fits_all p.layout s (only id value) ≡ false
  unfolding fits_all
  moves = elim (which (fits_in_place p.layout s id value)) [
    | inl t ↦ absurd (not_sized t)
    | inr f ↦ turn_only id value (λ i x b. both (fits_in_place p.layout s i x) b) true (strings_in s) known_in ∙ rw f
  ]

  pub too_long : size_limit < new_length m p.layout s (only id value)
  unfolding new_length
  too_long =
      rw moves
      (omega (
        arith,
        moved-high (tail_at p.layout s) (new_tail p.layout ts s) (length s) (omega (arith, sc)),
        store_within,
        value-within,
        half_bytes value valid,
      ))

  pub long_refused : (out : List ℕ)
      → Answers (roomed (length out) (patch_known m p.layout s (only id value))) (Err 11) out out
  unfolding patch_known judge roomed
  long_refused out = rw (lt-ltb size_limit (new_length m p.layout s (only id value)) too_long) (refl, refl)

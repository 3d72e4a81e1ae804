-- A row of the table that the code looked up is the row that the definitions name.
use mathlib.Core.Path.{◌≡◌, ap, subst}
use mathlib.Core.List.{List}
use Prim.Native.Nat.{ℕ, ◌+◌, ◌^◌, ◌≤◌, ◌<◌}
use native.Mathlib.Omega.{arith}
use lib.Seq.{sets}
use Rattle.bits.specs.Bytes.{word_at, bytes_of}
use Rattle.bits.specs.Fields.{field_of, with_field}
use Rattle.format.specs.declared.Field.{Field}
use Rattle.format.specs.Record.{value_of, with_value}
use Rattle.format.specs.Number.{number_from, bytes_for}

module _ (f g : Field) (e : f ≡ g) where
  pub row_fits : g.at + g.width ≤ 32 → (f.width < 64) × (f.width + f.at ≤ 64) × (f.at < 64)
  row_fits h =
      let a : f.at ≡ g.at = ap (λ (x : Field). x.at) e in
      let w : f.width ≡ g.width = ap (λ (x : Field). x.width) e in
      (omega arith, omega arith, omega arith)

  pub row-value : (n r : ℕ) → (r ≡ field_of n f.at f.width) × (r < 2 ^ f.width) → (r ≡ value_of g n) × (r < 2 ^ g.width)
  row-value n r h = subst (λ (x : Field). (r ≡ field_of n x.at x.width) × (r < 2 ^ x.width)) e h

  pub row_put : (n v r : ℕ) → r ≡ with_field n f.at f.width v → r ≡ with_value g v n
  row_put n v r h = subst (λ (x : Field). r ≡ with_field n x.at x.width v) e h

-- a field of 4 bytes holds a word, and is written as one
module _ (f : Field) (w : f.width ≡ 4) where
  pub row_read : (s : List ℕ) (from at r : ℕ) → at ≡ f.at → r ≡ word_at s (from + at) → r ≡ number_from from f s
  row_read s from at r e h = rw (w, ← e) h

  pub row_write : (s t : List ℕ) (from at x : ℕ) → at ≡ f.at → t ≡ sets s (from + at) (bytes_of 4 x)
      → t ≡ sets s (from + f.at) (bytes_for f x)
  row_write s t from at x e h = rw (w, ← e) h

  pub row_back : (t : List ℕ) (from at x : ℕ) → at ≡ f.at → word_at t (from + at) ≡ x → number_from from f t ≡ x
  row_back t from at x e h = rw (w, ← e) h

-- A field by its row of the table.
use mathlib.Core.Path.{◌≡◌, subst, sym}
use mathlib.Core.Bool.{true}
use Prim.Native.Nat.{ℕ, ◌+◌, ◌^◌, ◌<◌, ◌≤◌}
use native.Mathlib.Nat.{lt_of_lt_of_le}
use native.Mathlib.Omega.{arith}
use borrow.Author.Tests.{leb-true, ltb-true, lt-ltb}
use lib.Dec.{leb, ltb}
use lib.Pow.{pow_mono}
use Rattle.bits.specs.Choice.{pick}
use Rattle.bits.specs.Words.{InOneWord}
use Rattle.bits.specs.Fields.{field_of}
use Rattle.format.specs.declared.Field.{Field}
use Rattle.format.specs.Table.{row_of, row_count}
use Rattle.format.specs.Record.{value_of}
use Rattle.format.proofs.RowLaws as rows
use Rattle.bits.proofs.TestLaws.{both_0, both_1}
use Rattle.records.specs.Records.{is_record_row}

-- what the test of a record's row says
pub record RecordRow (k : ℕ) : Type 0 where
  pub named : k < row_count
  pub placed : InOneWord (row_of k).at (row_of k).width
  pub small : (row_of k).width ≤ 32

in_low : (at w : ℕ) → pick (ltb at 64) (leb (w + at) 64) true ≡ true → at < 64 → w + at ≤ 64
in_low at w t h = leb-true (w + at) 64 (rw (lt-ltb at 64 h) at t)

pub record_row_lem : (k : ℕ) → is_record_row k ≡ true → RecordRow k
record_row_lem k t =
    let f = row_of k in
    let t₁ = both_1 (ltb k row_count) _ t in
    let t₂ = both_1 (leb f.width 32) _ t₁ in
    let t₃ = both_1 (ltb f.at 128) _ t₂ in
    let s : f.width ≤ 32 = leb-true f.width 32 (both_0 (leb f.width 32) _ t₁) in
    record {
      named = ltb-true k row_count (both_0 (ltb k row_count) _ t);
      placed = record {
        narrow = omega arith;
        within = leb-true (f.width + f.at) 128 (both_0 (leb (f.width + f.at) 128) _ t₃);
        starts = ltb-true f.at 128 (both_0 (ltb f.at 128) _ t₂);
        low = in_low f.at f.width (both_1 (leb (f.width + f.at) 128) _ t₃);
      };
      small = s;
    }

-- the row that the code looked up is the row that the definitions name
pub row-placed : (f g : Field) → f ≡ g → InOneWord g.at g.width → InOneWord f.at f.width
row-placed f g e h = subst (λ (x : Field). InOneWord x.at x.width) (sym e) h

-- so is the value that it read, which fits 32 bits where the row does
pub row-value : (f g : Field) (n r : ℕ) → f ≡ g → (r ≡ field_of n f.at f.width) × (r < 2 ^ f.width) → g.width ≤ 32
    → (r ≡ value_of g n) × (r < 2 ^ g.width) × (r < 2 ^ 32)
row-value f g n r e h s = let v = rows.row-value f g e n r h in (v.0, v.1, lt_of_lt_of_le v.1 (pow_mono s))

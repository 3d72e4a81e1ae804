-- What each test of admission decides: what holds where it is passed, and what is wrong where it is not.
use mathlib.Core.Path.{◌≡◌}
use mathlib.Core.Bool.{true, false}
use mathlib.Core.Logic.{◌≢◌}
use mathlib.Core.List.{List}
use Prim.Native.Nat.{ℕ, ◌+◌, ◌≤◌, ◌<◌}
use lib.ListN.{length, get_or}
use Rattle.bits.proofs.DecideLaws.{Decides, leb_decides, eqb_decides, itself_decides, not_decides, both_decides, implies_decides}
use Rattle.bits.proofs.DecideLaws.{all_decides}
use Rattle.format.specs.declared.Layout.{Layout}
use Rattle.format.specs.Table as table
use Rattle.format.specs.Record.{value_of}
use Rattle.format.specs.Entry.{Place}
use Rattle.footer.specs.Footer.{footer_length}
use Rattle.image.specs.Sections.{functions_in, strings_in, overflows_in, storage_in, debug_in, storage_at, tail_at}
use Rattle.image.specs.Strings.{is_full, over_before, small_in, place_at, size_of}
use Rattle.image.specs.Functions.{func_of}
use Rattle.image.specs.Admission.{overflows_counted, overflows_numbered, strings_stored, bytes_narrow, strings_narrow, in_tail}
use Rattle.image.specs.Admission.{place_in_tail, headers_in, bodies_in, infos_in, debug_in_tail, apart, headers_apart, bodies_apart}
use Rattle.image.specs.Admitted.{Disjoint, InTail}
use Rattle.image.specs.Faults.{OutOfTail}

-- ---- tests of places

pub in_tail_lem : (l : Layout) (s : List ℕ) (p n : ℕ) → Decides (in_tail l s p n) (InTail l s p n) (OutOfTail l s p n)
in_tail_lem l s p n = both_decides (leb_decides (tail_at l s) p) (leb_decides (p + n + footer_length) (length s))

pub place_in_tail_lem : (l : Layout) (s : List ℕ) (p : ℕ)
    → Decides (place_in_tail l s p) (p ≢ 0 → InTail l s p 0) ((p ≢ 0) × OutOfTail l s p 0)
place_in_tail_lem l s p = implies_decides (not_decides (eqb_decides p 0)) (in_tail_lem l s p 0)

pub are-apart : (p w q v : ℕ) → Decides (apart p w q v) (Disjoint p w q v) ((p < q + v) × (q < p + w))
are-apart p w q v = implies_decides (leb_decides _ (q + v)) (leb_decides (p + w) q)

module _ (l : Layout) (s : List ℕ) where
  -- ---- 5 string

  pub overflows_counted_lem : Decides (overflows_counted l s)
      (over_before (small_in l s) (strings_in s) ≡ overflows_in s)
      (over_before (small_in l s) (strings_in s) ≢ overflows_in s)
  unfolding overflows_counted
  overflows_counted_lem = eqb_decides (over_before (small_in l s) (strings_in s)) (overflows_in s)

  pub overflows_numbered_lem : Decides (overflows_numbered l s)
      ((i : ℕ) → i < strings_in s → is_full (small_in l s i) ≡ true
      → value_of table.entry_offset (small_in l s i) ≡ over_before (small_in l s) i)
      ((i : ℕ) × (i < strings_in s)
      × ((is_full (small_in l s i) ≡ true) × (value_of table.entry_offset (small_in l s i) ≢ over_before (small_in l s) i)))
  unfolding overflows_numbered
  overflows_numbered_lem =
      all_decides (λ i. implies_decides (itself_decides (is_full (small_in l s i))) (eqb_decides _ (over_before (small_in l s) i)))
      (strings_in s)

  pub strings_stored_lem : Decides (strings_stored l s)
      ((i : ℕ) → i < strings_in s → (place_at l s i).at + size_of (place_at l s i) ≤ storage_in s)
      ((i : ℕ) × (i < strings_in s) × (storage_in s < (place_at l s i).at + size_of (place_at l s i)))
  unfolding strings_stored
  strings_stored_lem = all_decides (λ i. leb_decides ((place_at l s i).at + size_of (place_at l s i)) (storage_in s)) (strings_in s)

  pub bytes_narrow_lem : (p : Place) → Decides (bytes_narrow l s p)
      (p.wide ≡ false → (j : ℕ) → j < p.count → get_or s (storage_at l s + p.at + j) 0 ≤ 0x7F)
      ((p.wide ≡ false) × ((j : ℕ) × (j < p.count) × (0x7F < get_or s (storage_at l s + p.at + j) 0)))
  unfolding bytes_narrow
  bytes_narrow_lem p =
      implies_decides (not_decides (itself_decides p.wide))
      (all_decides (λ j. leb_decides (get_or s (storage_at l s + p.at + j) 0) 0x7F) p.count)

  pub strings_narrow_lem : Decides (strings_narrow l s)
      ((i : ℕ) → i < strings_in s → (place_at l s i).wide ≡ false → (j : ℕ) → j < (place_at l s i).count
      → get_or s (storage_at l s + (place_at l s i).at + j) 0 ≤ 0x7F)
      ((i : ℕ) × (i < strings_in s) × (((place_at l s i).wide ≡ false) × ((j : ℕ) × (j < (place_at l s i).count)
      × (0x7F < get_or s (storage_at l s + (place_at l s i).at + j) 0))))
  unfolding strings_narrow
  strings_narrow_lem = all_decides (λ i. bytes_narrow_lem (place_at l s i)) (strings_in s)

  -- ---- 6 function

  pub headers_in_lem : Decides (headers_in l s)
      ((i : ℕ) → i < functions_in s → (func_of l s i).large ≡ true → InTail l s (func_of l s i).ptr (table.large_row l).width)
      ((i : ℕ) × (i < functions_in s) × (((func_of l s i).large ≡ true) × OutOfTail l s (func_of l s i).ptr (table.large_row l).width))
  unfolding headers_in
  headers_in_lem = all_decides (λ i. implies_decides (itself_decides (func_of l s i).large) (in_tail_lem l s _ _)) (functions_in s)

  pub bodies_in_lem : Decides (bodies_in l s)
      ((i : ℕ) → i < functions_in s → InTail l s (func_of l s i).begin (func_of l s i).size)
      ((i : ℕ) × (i < functions_in s) × OutOfTail l s (func_of l s i).begin (func_of l s i).size)
  unfolding bodies_in
  bodies_in_lem = all_decides (λ i. in_tail_lem l s _ _) (functions_in s)

  pub infos_in_lem : Decides (infos_in l s)
      ((i : ℕ) → i < functions_in s → (func_of l s i).info ≢ 0 → InTail l s (func_of l s i).info 0)
      ((i : ℕ) × (i < functions_in s) × (((func_of l s i).info ≢ 0) × OutOfTail l s (func_of l s i).info 0))
  unfolding infos_in
  infos_in_lem = all_decides (λ i. place_in_tail_lem l s _) (functions_in s)

  pub debug_in_lem : Decides (debug_in_tail l s) (debug_in l s ≢ 0 → InTail l s (debug_in l s) 0)
      ((debug_in l s ≢ 0) × OutOfTail l s (debug_in l s) 0)
  unfolding debug_in_tail
  debug_in_lem = place_in_tail_lem l s (debug_in l s)

  pub headers_apart_lem : Decides (headers_apart l s)
      ((i : ℕ) → i < functions_in s → (j : ℕ) → j < functions_in s → i ≢ j → (func_of l s i).large ≡ true
      → (func_of l s j).large ≡ true
      → Disjoint (func_of l s i).ptr (table.large_row l).width (func_of l s j).ptr (table.large_row l).width)
      ((i : ℕ) × (i < functions_in s) × ((j : ℕ) × (j < functions_in s)
      × ((i ≢ j) × (((func_of l s i).large ≡ true) × (((func_of l s j).large ≡ true)
      × (((func_of l s i).ptr < (func_of l s j).ptr + (table.large_row l).width)
      × ((func_of l s j).ptr < (func_of l s i).ptr + (table.large_row l).width)))))))
  unfolding headers_apart
  headers_apart_lem =
      all_decides (λ i. all_decides
      (λ j. implies_decides (not_decides (eqb_decides i j)) (implies_decides (itself_decides (func_of l s i).large)
      (implies_decides (itself_decides (func_of l s j).large) (are-apart _ _ _ _)))) (functions_in s)) (functions_in s)

  pub bodies_apart_lem : Decides (bodies_apart l s)
      ((i : ℕ) → i < functions_in s → (j : ℕ) → j < functions_in s → 0 < (func_of l s i).size → (func_of l s j).large ≡ true
      → Disjoint (func_of l s j).ptr (table.large_row l).width (func_of l s i).begin (func_of l s i).size)
      ((i : ℕ) × (i < functions_in s) × ((j : ℕ) × (j < functions_in s)
      × ((0 < (func_of l s i).size) × (((func_of l s j).large ≡ true)
      × (((func_of l s j).ptr < (func_of l s i).begin + (func_of l s i).size)
      × ((func_of l s i).begin < (func_of l s j).ptr + (table.large_row l).width))))))
  unfolding bodies_apart
  bodies_apart_lem =
      all_decides (λ i. all_decides
      (λ j. implies_decides (leb_decides 1 (func_of l s i).size) (implies_decides (itself_decides (func_of l s j).large)
      (are-apart _ _ _ _))) (functions_in s)) (functions_in s)

-- What one function has in the tail, and the pass over all functions.
use Rattle.std.specs.Prelude.{Err, Ok, Result}
use mathlib.Core.Path.{◌≡◌, refl, sym, ◌∙◌, ap, subst}
use mathlib.Core.Bool.{Bool, true, false, not}
use mathlib.Core.List.{List}
use Prim.Native.Nat.{ℕ, ◌+◌, ◌≤◌, ◌<◌}
use native.Mathlib.Omega.{arith}
use lib.Dec.{leb, eqb}
use lib.ListN.{length}
use borrow.Author.Tests.{leb-true, not-true, not-false}
use Rattle.bits.specs.Choice.{pick, both, implies, all_below}
use Rattle.bits.proofs.TestLaws.{both_1}
use Rattle.bits.proofs.PassLaws.{all_both, pass_stop, pass_end}
use Rattle.format.specs.declared.Field.{Field}
use Rattle.format.specs.declared.Layout.{Layout}
use Rattle.format.specs.declared.Layout.TheVariants.{Modern, Legacy}
use Rattle.format.specs.Table as table
use Rattle.format.specs.Record.{is_large, pointer}
use Rattle.footer.specs.Footer.{footer_length}
use Rattle.image.specs.Sections.{functions_in, debug_in, tail_at}
use Rattle.image.specs.Functions.{Func, small, header, record_in, func_of}
use Rattle.image.specs.Admission.{in_tail, place_in_tail, headers_in, bodies_in, infos_in, debug_in_tail}
use Rattle.sections.specs.declared.Places.{Places}
use Rattle.sections.specs.Places.{Placed}
use Rattle.sections.proofs.SectionLaws.{Sectioned, sectioned}
use Rattle.function_table.specs.declared.Function.{Function}
use Rattle.function_table.specs.Functions.{as_func, as_function, WordSized, FoundSized, pointer_judged, header_in, function_read}
use Rattle.function_table.specs.Functions.{within, function_in, functions_in_tail}
use Rattle.function_table.proofs.ReadLaws.{SmallRead, LargeRead, small_is, header_is, is_large_lem, points_to, is-small}

-- ---- bytes and places in the tail

within_end : (tail len at n : ℕ) → within tail len at n ≡ true → at + n + footer_length ≤ len
within_end tail len at n h = leb-true (at + n + footer_length) len (both_1 (leb tail at) (leb (at + n + footer_length) len) h)

-- the words of a large header are few
large-width : (l : Layout) → (table.large_row l).width ≤ 20
large-width Modern = omega arith
large-width (Legacy big sources) = omega arith

pub large_width_of : (l : Layout) (f : Field) → f ≡ table.large_row l → f.width ≤ 20
large_width_of l f e = rw e (large-width l)

-- ---- a pointer that was judged

module _ (p : Places) (s : List ℕ) (h : Placed p s) where
  in_tail_lem : (at n : ℕ) → within p.tail (length s) at n ≡ in_tail p.layout s at n
  in_tail_lem at n = ap (λ (t : ℕ). within t (length s) at n) (sectioned p s h).tail_from

  pub tail_is : (at n : ℕ) (r : Bool) → r ≡ within p.tail (length s) at n → r ≡ in_tail p.layout s at n
  tail_is at n r e = e ∙ in_tail_lem at n

  pub place_is : (at : ℕ) (r : Bool) → r ≡ implies (not (eqb at 0)) (within p.tail (length s) at 0)
      → r ≡ place_in_tail p.layout s at
  place_is at r e = e ∙ ap (λ (b : Bool). implies (not (eqb at 0)) b) (in_tail_lem at 0)

-- r says whether the large header that a record points to lies in the tail
pub record PointerTested (p : Places) (s : List ℕ) (n ptr : ℕ) (f : Field) (r : Bool) : Type 0 where
  pub placed : Placed p s
  pub to : ptr ≡ pointer p.layout n
  pub row : f ≡ table.large_row p.layout
  pub test : r ≡ within p.tail (length s) ptr f.width

module _ {p : Places} {s : List ℕ} {n ptr : ℕ} {f : Field} {r : Bool} (z : PointerTested p s n ptr f r) where
  judges : in_tail p.layout s (pointer p.layout n) (table.large_row p.layout).width ≡ r
  judges = rw (← z.to, ← z.row) (sym (z.test ∙ in_tail_lem p s z.placed ptr f.width))

  pub pointer_out : not r ≡ true → Err 6 ≡ pointer_judged p.layout s n
  unfolding pointer_judged
  pointer_out h = rw (judges, not-true r h)

  pub pointer_in : not r ≡ false → Ok ptr ≡ pointer_judged p.layout s n
  unfolding pointer_judged
  pointer_in h = rw (judges, not-false r h, z.to)

  pub pointer-fits : not r ≡ false → ptr < 4294967296
  pointer-fits h =
      let y : Sectioned p s = sectioned p s z.placed in
      omega (arith, within_end p.tail (length s) ptr f.width (sym z.test ∙ not-false r h))

module _ (l : Layout) (s : List ℕ) (n : ℕ) (j : Result ℕ ℕ) (e : j ≡ pointer_judged l s n) where
  judged_out : (k : ℕ) → j ≡ Err k → (in_tail l s (pointer l n) (table.large_row l).width ≡ false) × (k ≡ 6)
  unfolding pointer_judged
  judged_out k f = go (in_tail l s (pointer l n) (table.large_row l).width) (sym e ∙ f)
    where
      go : (b : Bool) → pick {A = Result ℕ ℕ} b (Ok (pointer l n)) (Err 6) ≡ Err k → (b ≡ false) × (k ≡ 6)
      go true q = let z : ◌≡◌ {A = ℕ} 0 1 = cc in absurd (omega arith)
      go false q = (refl, cc)

  pub judged_in : (ptr : ℕ) → j ≡ Ok ptr → (in_tail l s (pointer l n) (table.large_row l).width ≡ true)
      × (ptr ≡ pointer l n)
  unfolding pointer_judged
  judged_in ptr f = go (in_tail l s (pointer l n) (table.large_row l).width) (sym e ∙ f)
    where
      go : (b : Bool) → pick {A = Result ℕ ℕ} b (Ok (pointer l n)) (Err 6) ≡ Ok ptr → (b ≡ true) × (ptr ≡ pointer l n)
      go true q = (refl, cc)
      go false q = let z : ◌≡◌ {A = ℕ} 0 1 = cc in absurd (omega arith)

-- ---- a function that was read

module _ (l : Layout) (s : List ℕ) (i : ℕ) where
  found : (f : Function) → as_func f ≡ func_of l s i → header_in l s (func_of l s i) ≡ true → Ok f ≡ function_read l s i
  unfolding function_read
  found f e h = rw h (ap (λ (g : Func). Ok (as_function g)) e)

  not_found : header_in l s (func_of l s i) ≡ false → Err 6 ≡ function_read l s i
  unfolding function_read
  not_found h = rw h

  pub small_found : (n : ℕ) → SmallRead l s i n → (f : Function) → as_func f ≡ small l n → Ok f ≡ function_read l s i
  small_found n z f h = found f (small_is z (as_func f) h) (rw (is-small z))

-- n is the record of function i, which has a large header, and j its pointer as it was judged
pub record PointerRead (l : Layout) (s : List ℕ) (i n : ℕ) (j : Result ℕ ℕ) : Type 0 where
  pub number : n ≡ record_in l s i
  pub flag : is_large l n ≡ true
  pub pointer : j ≡ pointer_judged l s n

module _ {l : Layout} {s : List ℕ} {i n : ℕ} {j : Result ℕ ℕ} (z : PointerRead l s i n j) where
  large : (ptr : ℕ) → ptr ≡ pointer l n → LargeRead l s i n ptr
  large ptr q = record { number = z.number; flag = z.flag; place = q }

  header_in_lem : (ptr : ℕ) → ptr ≡ pointer l n → header_in l s (func_of l s i) ≡ in_tail l s (pointer l n) (table.large_row l).width
  header_in_lem ptr q = rw (is_large_lem (large ptr q), points_to (large ptr q), q)

  pub pointer_refused : (k : ℕ) → j ≡ Err k → Err k ≡ function_read l s i
  pointer_refused k f =
      let (t, e) = judged_out l s n j z.pointer k f in
      rw e (not_found l s i (header_in_lem (pointer l n) refl ∙ t))

  module _ (ptr : ℕ) (q : j ≡ Ok ptr) where
    pub header_found : (f : Function) → as_func f ≡ header l ptr s → Ok f ≡ function_read l s i
    header_found f h =
        let (t, e) = judged_in l s n j z.pointer ptr q in
        found l s i f (header_is (large ptr e) (as_func f) h) (header_in_lem ptr e ∙ t)

    pub header_there : ptr + (table.large_row l).width ≤ length s
    header_there =
        let (t, e) = judged_in l s n j z.pointer ptr q in
        omega (arith, within_end (tail_at l s) (length s) (pointer l n) (table.large_row l).width t)

-- ---- what one function has in the tail

module _ (l : Layout) (s : List ℕ) (i : ℕ) (r : Result Function ℕ) (e : r ≡ function_read l s i) where
  pub refused_out : (k : ℕ) → r ≡ Err k → false ≡ function_in l s (func_of l s i)
  unfolding function_read function_in
  refused_out k f = go (header_in l s (func_of l s i)) (sym e ∙ f)
    where
      go : (b : Bool) → pick {A = Result Function ℕ} b (Ok (as_function (func_of l s i))) (Err 6) ≡ Err k
          → false ≡ both b (both (in_tail l s (func_of l s i).begin (func_of l s i).size) (place_in_tail l s (func_of l s i).info))
      go true q = let z : ◌≡◌ {A = ℕ} 0 1 = cc in absurd (omega arith)
      go false q = refl

pub found_sized : (r : Result Function ℕ) (f : Function) → r ≡ Ok f → FoundSized r → WordSized f
found_sized r f g h = subst FoundSized g h

-- function i is read as f, and a says whether its body lies in the tail
pub record BodyTested (l : Layout) (s : List ℕ) (i : ℕ) (f : Function) (a : Bool) : Type 0 where
  pub found : Ok f ≡ function_read l s i
  pub test : a ≡ in_tail l s f.begin f.size

module _ {l : Layout} {s : List ℕ} {i : ℕ} {f : Function} {a : Bool} (z : BodyTested l s i f a) where
  found_is : (header_in l s (func_of l s i) ≡ true) × (func_of l s i ≡ as_func f)
  unfolding function_read
  found_is = go (header_in l s (func_of l s i)) (sym z.found)
    where
      go : (b : Bool) → pick {A = Result Function ℕ} b (Ok (as_function (func_of l s i))) (Err 6) ≡ Ok f → (b ≡ true)
          × (func_of l s i ≡ as_func f)
      go true q = let y : as_function (func_of l s i) ≡ f = cc in (refl, ap as_func y)
      go false q = let y : ◌≡◌ {A = ℕ} 0 1 = cc in absurd (omega arith)

  rest_is : function_in l s (func_of l s i) ≡ both a (place_in_tail l s f.info)
  unfolding function_in
  rest_is =
      rw (found_is.0, z.test)
      (ap (λ (x : Func). both (in_tail l s x.begin x.size) (place_in_tail l s x.info)) found_is.1)

  pub body_out : not a ≡ true → false ≡ function_in l s (func_of l s i)
  body_out t = rw (rest_is, not-true a t)

  pub body_in : not a ≡ false → (b : Bool) → b ≡ place_in_tail l s f.info → b ≡ function_in l s (func_of l s i)
  body_in t b k = rw (rest_is, not-false a t, k)

-- ---- all functions

module _ (l : Layout) (s : List ℕ) where
  all_functions : all_below (functions_in s) (λ i. function_in l s (func_of l s i)) ≡ functions_in_tail l s
  unfolding functions_in_tail function_in headers_in bodies_in infos_in
  all_functions =
      all_both _ _ (functions_in s) ∙ ap (λ (b : Bool). both (headers_in l s) b) (all_both _ _ (functions_in s))

  pub function_fails : (i : ℕ) (r : Bool) → i < functions_in s → r ≡ function_in l s (func_of l s i) → not r ≡ true
      → false ≡ functions_in_tail l s
  function_fails i r k e h = pass_stop _ (functions_in s) i r k e h ∙ all_functions

  pub functions_end : (i n : ℕ) → n ≡ functions_in s → i ≡ n → all_below i (λ j. function_in l s (func_of l s j)) ≡ true
      → true ≡ functions_in_tail l s
  functions_end i n c e h = pass_end _ (functions_in s) i (e ∙ c) h ∙ all_functions

-- ---- the debug place

pub debug_in_lem : (p : Places) (s : List ℕ) → Placed p s → (x : ℕ) (r : Bool) → x ≡ debug_in p.layout s
    → r ≡ implies (not (eqb x 0)) (within p.tail (length s) x 0) → r ≡ debug_in_tail p.layout s
unfolding debug_in_tail
debug_in_lem p s h x r e k = rw (k, e, (sectioned p s h).tail_from)

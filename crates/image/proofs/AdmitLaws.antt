-- An image that is not refused is admitted, and the other way round.
use mathlib.Core.Path.{◌≡◌}
use mathlib.Core.Bool.{true, false}
use mathlib.Core.List.{List}
use Prim.Native.Nat.{ℕ, ◌+◌, ◌<◌}
use native.Mathlib.Omega.{arith}
use borrow.Author.Tests.{ltb-false, le-ltb, eqb-true, eq-eqb, not-false}
use lib.Dec.{ltb, eqb}
use lib.ListN.{length, get_or}
use Rattle.bits.specs.Choice.{judge}
use Rattle.bits.specs.Bytes.{number_at}
use Rattle.bits.proofs.JudgeLaws.{judge_pass}
use Rattle.format.specs.declared.Layout.{Layout}
use Rattle.format.specs.Table as table
use Rattle.footer.specs.Footer.{footer_length}
use Rattle.footer.specs.Finalize.{size_limit}
use Rattle.image.specs.Sections.{kinds_in, identifiers_in, strings_in, tail_at}
use Rattle.image.specs.Kinds.{kind_in, covered, identified}
use Rattle.image.specs.Admission.{overflows_counted, overflows_numbered, strings_stored, strings_narrow, headers_in, bodies_in}
use Rattle.image.specs.Admission.{infos_in, debug_in_tail, headers_apart, bodies_apart, checks, refusal}
use Rattle.image.specs.Admitted.{Admitted}
use Rattle.image.proofs.CheckLaws.{overflows_counted_lem, overflows_numbered_lem, strings_stored_lem, strings_narrow_lem, headers_in_lem}
use Rattle.image.proofs.CheckLaws.{bodies_in_lem, infos_in_lem, debug_in_lem, headers_apart_lem, bodies_apart_lem}

-- every test of admission is passed
pub record Passed (l : Layout) (s : List ℕ) : Type 0 where
  pub short : ltb (length s) (table.header_length + footer_length) ≡ false
  pub long : ltb size_limit (length s) ≡ false
  pub magic : eqb (number_at s (table.magic).at (table.magic).width) table.magic_number ≡ true
  pub room : ltb (length s) (tail_at l s + footer_length) ≡ false
  pub kinds : eqb (covered (kind_in l s) (kinds_in s)) (strings_in s) ≡ true
  pub identifiers : eqb (identified (kind_in l s) (kinds_in s)) (identifiers_in s) ≡ true
  pub counted : overflows_counted l s ≡ true
  pub numbered : overflows_numbered l s ≡ true
  pub stored : strings_stored l s ≡ true
  pub narrow : strings_narrow l s ≡ true
  pub headers : headers_in l s ≡ true
  pub bodies : bodies_in l s ≡ true
  pub infos : infos_in l s ≡ true
  pub debug : debug_in_tail l s ≡ true
  pub apart : headers_apart l s ≡ true
  pub clear : bodies_apart l s ≡ true

module _ (l : Layout) (s : List ℕ) where
  pub passed : refusal l s ≡ 0 → Passed l s
  unfolding refusal checks
  passed e =
      let (short, e₁) = judge_pass _ _ (omega arith) e in
      let (long, e₂) = judge_pass _ _ (omega arith) e₁ in
      let (magic, e₃) = judge_pass _ _ (omega arith) e₂ in
      let (room, e₄) = judge_pass _ _ (omega arith) e₃ in
      let (kinds, e₅) = judge_pass _ _ (omega arith) e₄ in
      let (identifiers, e₆) = judge_pass _ _ (omega arith) e₅ in
      let (counted, e₇) = judge_pass _ _ (omega arith) e₆ in
      let (numbered, e₈) = judge_pass _ _ (omega arith) e₇ in
      let (stored, e₉) = judge_pass _ _ (omega arith) e₈ in
      let (narrow, e₁₀) = judge_pass _ _ (omega arith) e₉ in
      let (headers, e₁₁) = judge_pass _ _ (omega arith) e₁₀ in
      let (bodies, e₁₂) = judge_pass _ _ (omega arith) e₁₁ in
      let (infos, e₁₃) = judge_pass _ _ (omega arith) e₁₂ in
      let (debug, e₁₄) = judge_pass _ _ (omega arith) e₁₃ in
      let (apart, e₁₅) = judge_pass _ _ (omega arith) e₁₄ in
      let (clear, e₁₆) = judge_pass _ _ (omega arith) e₁₅ in
      record {
        short = short;
        long = long;
        magic = not-false _ magic;
        room = room;
        kinds = not-false _ kinds;
        identifiers = not-false _ identifiers;
        counted = not-false (overflows_counted l s) counted;
        numbered = not-false (overflows_numbered l s) numbered;
        stored = not-false (strings_stored l s) stored;
        narrow = not-false (strings_narrow l s) narrow;
        headers = not-false (headers_in l s) headers;
        bodies = not-false (bodies_in l s) bodies;
        infos = not-false (infos_in l s) infos;
        debug = not-false (debug_in_tail l s) debug;
        apart = not-false (headers_apart l s) apart;
        clear = not-false (bodies_apart l s) clear;
      }

  pub admitted : ((p : ℕ) → get_or s p 0 < 256) → refusal l s ≡ 0 → Admitted l s
  admitted bytes e =
      let t : Passed l s = passed e in
      record {
        bytes = bytes;
        least = ltb-false (length s) (table.header_length + footer_length) t.short;
        most = ltb-false size_limit (length s) t.long;
        magic = eqb-true (number_at s (table.magic).at (table.magic).width) table.magic_number t.magic;
        room = ltb-false (length s) (tail_at l s + footer_length) t.room;
        covers = eqb-true (covered (kind_in l s) (kinds_in s)) (strings_in s) t.kinds;
        identifiers = eqb-true (identified (kind_in l s) (kinds_in s)) (identifiers_in s) t.identifiers;
        overflows = (overflows_counted_lem l s).holds t.counted;
        numbered = (overflows_numbered_lem l s).holds t.numbered;
        stored = (strings_stored_lem l s).holds t.stored;
        narrow = λ i h w j k. omega (arith, (strings_narrow_lem l s).holds t.narrow i h w j k);
        header = (headers_in_lem l s).holds t.headers;
        body = (bodies_in_lem l s).holds t.bodies;
        info = (infos_in_lem l s).holds t.infos;
        debug = (debug_in_lem l s).holds t.debug;
        apart = λ i j h k. (headers_apart_lem l s).holds t.apart i h j k;
        clear = λ i j h k. (bodies_apart_lem l s).holds t.clear i h j k;
      }

  pub not_refused : Admitted l s → refusal l s ≡ 0
  unfolding refusal checks judge
  not_refused a =
      rw (
        le-ltb (length s) (table.header_length + footer_length) a.least,
        le-ltb size_limit (length s) a.most,
        eq-eqb (number_at s (table.magic).at (table.magic).width) table.magic_number a.magic,
        le-ltb (length s) (tail_at l s + footer_length) a.room,
        eq-eqb (covered (kind_in l s) (kinds_in s)) (strings_in s) a.covers,
        eq-eqb (identified (kind_in l s) (kinds_in s)) (identifiers_in s) a.identifiers,
        (overflows_counted_lem l s).passed a.overflows,
        (overflows_numbered_lem l s).passed a.numbered,
        (strings_stored_lem l s).passed a.stored,
        (strings_narrow_lem l s).passed (λ i h w j k. omega (arith, a.narrow i h w j k)),
        (headers_in_lem l s).passed a.header,
        (bodies_in_lem l s).passed a.body,
        (infos_in_lem l s).passed a.info,
        (debug_in_lem l s).passed a.debug,
        (headers_apart_lem l s).passed (λ i h j k. a.apart i j h k),
        (bodies_apart_lem l s).passed (λ i h j k. a.clear i j h k),
      )

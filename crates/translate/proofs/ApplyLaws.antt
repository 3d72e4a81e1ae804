-- What the reader and the look-up leave in lent room is what the next one asks for; and what each way out answers.
use Rattle.std.specs.Prelude.{Err, Result}
use mathlib.Core.Path.{◌≡◌, refl, ap, sym, ◌∙◌}
use mathlib.Core.Bool.{Bool, true, false, not}
use mathlib.Core.List.{List}
use Prim.Native.Nat.{ℕ, ◌+◌, ◌-◌, ◌≤◌, ◌<◌}
use native.Mathlib.Omega.{arith}
use borrow.Author.Tests.{not-true, not-false}
use lib.ListN.{length, get_or, take, drop, length-drop}
use lib.Seq.{take_all, get_or-drop}
use Rattle.refusals.specs.Numbers as refusals
use Rattle.bits.specs.Outcome.{Answers}
use Rattle.format.specs.declared.Layout.{Layout}
use Rattle.format.specs.declared.Mode.{Mode}
use Rattle.image.specs.Sections.{strings_in}
use Rattle.sections.specs.declared.Places.{Places}
use Rattle.sections.specs.Places.{Laid}
use Rattle.sections.proofs.SectionLaws.{sectioned}
use Rattle.utf.specs.Utf8.{utf16}
use Rattle.string_edits.specs.declared.Form.TheVariants.{Marks}
use Rattle.string_edits.specs.Told.{told, values_in}
use Rattle.std.specs.Prelude.{Option, Some, None}
use Rattle.po_pairs.specs.Pairs.{Pair, msgid_of, msgstr_of, Read, outside, pairs, read_file}
use Rattle.po_pairs.specs.Held.{HeldPairs, ChainedPairs, ReadAs}
use Rattle.po_pairs.proofs.PairLaws.{no_pairs}
use Rattle.po_pairs.proofs.ValueLaws.{all_utf8_lem}
use Rattle.po_pairs.proofs.TellLaws.{one_pair_units}
use Rattle.po_targets.specs.Targets.{target_of, all_found}
use Rattle.po_targets.specs.Marks.{id_in, str_in, Different, Entered, mark_of}
use Rattle.string_steps.specs.Steps.{stepwise}
use Rattle.string_steps.specs.Marked.{Marked}
use Rattle.translate.specs.Translate.{applied}
use Rattle.translate.specs.Space.{Lent}
use Rattle.translate.proofs.MarkLaws.{MarkedBy, found_is, values_are, told_pair, told-listed}

-- ---- what the reader answers

-- k pairs were read: those of the file, each in lent room and in the chains
pub record ReadOf (file text ends w : List ℕ) (k : ℕ) : Type 0 where
  pub list : List Pair
  pub is : read_file file ≡ pairs list
  pub count : k ≡ length list
  pub held : HeldPairs text ends list
  pub chained : ChainedPairs text ends (length ends) (length list) w

pub read_of : (file text ends w : List ℕ) (r : Option ℕ) (k : ℕ) → ReadAs (read_file file) r text ends w → r ≡ Some k
    → ReadOf file text ends w k
read_of file text ends w r k = go (read_file file) refl
  where
    same_count : (n : ℕ) → r ≡ Some n → r ≡ Some k → k ≡ n
    same_count n a b = let z : Some n ≡ Some k = sym a ∙ b in cc

    go : (x : Read) → read_file file ≡ x → ReadAs x r text ends w → r ≡ Some k → ReadOf file text ends w k
    go outside e a q = no_pairs k (sym a ∙ q)
    go (pairs ps) e (a, h, c) q = record { list = ps; is = e; count = same_count (length ps) a q; held = h; chained = c }

pub read_outside : (file text ends w : List ℕ) (r : Option ℕ) → ReadAs (read_file file) r text ends w → r ≡ None
    → read_file file ≡ outside
read_outside file text ends w r = go (read_file file) refl
  where
    go : (x : Read) → read_file file ≡ x → ReadAs x r text ends w → r ≡ None → read_file file ≡ outside
    go outside e a q = e
    go (pairs ps) e (a, h, c) q = no_pairs (length ps) (sym q ∙ a)

-- ---- what the look-up asks for

-- spaces that keep their lengths are still just those that are asked for
pub lent_still : (n : ℕ) (file : List ℕ) (t e w t' e' w' : ℕ) → Lent n file t e w → t' ≡ t → e' ≡ e
    → w' ≡ w → Lent n file t' e' w'
lent_still n file t e w t' e' w' l a b c = record {
  low = l.low;
  for_text = a ∙ l.for_text;
  for_ends = b ∙ l.for_ends;
  for_work = c ∙ l.for_work;
}

module _ (n : ℕ) (file text ends w : List ℕ) (k : ℕ) (lends : Lent n file (length text) (length ends) (length w))
    (rd : ReadOf file text ends w k) where
  pub entered : Entered text ends k (length ends) w
  entered = record {
    within = λ j h. rd.held.within j (omega (arith, rd.count));
    few = omega (arith, rd.count, rd.held.many);
    some = omega (arith, lends.for_ends);
    most = omega (arith, lends.for_ends, lends.low);
    chained = rw rd.count rd.chained;
  }

  pub apart : Different text ends k
  apart a b h g q =
      let i : a < length rd.list = omega (arith, rd.count) in
      let j : b < length rd.list = omega (arith, rd.count) in
      one_pair_units file rd.list rd.is a b i j
      (ap utf16 (sym (rd.held.msgids a i)) ∙ q ∙ ap utf16 (rd.held.msgids b j))

-- ---- what the patches ask for

-- the words that are lent, as each of the two leaves them: each string has its mark, behind the chains and the flags
pub record MarkedOf (p : Places) (s file text ends w : List ℕ) (k : ℕ) : Type 0 where
  pub laid : Laid p s
  pub lends : Lent p.strings file (length text) (length ends) (length w)
  pub old : List ℕ
  pub read : ReadOf file text ends old k
  pub mark : (i : ℕ) → i < p.strings
      → get_or w (length ends + length ends + length ends + i) 0
      ≡ mark_of (target_of p.layout s (id_in text ends) (str_in text ends) k i)

module _ (p : Places) (s file text ends w : List ℕ) (k : ℕ) (mo : MarkedOf p s file text ends w k) where
  abbrev ps : List Pair
  ps = mo.read.list

  abbrev from : ℕ
  from = length ends + length ends + length ends

  -- the marks, as the rest of the words
  abbrev marks : List ℕ
  marks = take (length w - from) (drop from w)

  strings : p.strings ≡ strings_in s
  strings = (sectioned p s mo.laid.placed).strings

  pub from_within : from ≤ length w
  from_within = omega (arith, mo.lends.for_work, mo.lends.for_ends)

  marks_are : marks ≡ drop from w
  marks_are = take_all (length w - from) (drop from w) (omega (arith, length-drop from w))

  many : length marks ≡ strings_in s
  many = rw marks_are (length-drop from w ∙ omega (arith, mo.lends.for_work, mo.lends.for_ends, strings))

  marked_by : MarkedBy p.layout s text ends ps marks
  marked_by = record {
    held = mo.read.held;
    long = many;
    mark = λ i h. rw marks_are (get_or-drop from w i 0 ∙ mo.mark i (omega (arith, strings))
        ∙ ap (λ (n : ℕ). mark_of (target_of p.layout s (id_in text ends) (str_in text ends) n i)) mo.read.count);
  }

  pub marked_all : Marked p s marks text ends
  marked_all = record {
    laid = mo.laid;
    listed = told-listed p.layout s text ends ps marks marked_by;
    many = many ∙ sym strings;
    valid = λ id j t.
        let (q, h, e) = told_pair p.layout s text ends ps marks marked_by id j t in
        rw (e, mo.read.held.msgstrs q h) (all_utf8_lem file ps mo.read.is q h).1;
  }

  -- ---- what is answered

  module _ (m : Mode) (out out' : List ℕ) (r : Result ℕ ℕ) where
    found_file : all_found p.layout s (id_in text ends) (str_in text ends) k
        ≡ all_found p.layout s (msgid_of ps) (msgstr_of ps) (length ps)
    found_file =
        ap (all_found p.layout s (id_in text ends) (str_in text ends)) mo.read.count
        ∙ found_is p.layout s text ends ps mo.read.held

    pub stepped : (b : Bool) → b ≡ all_found p.layout s (id_in text ends) (str_in text ends) k → not b ≡ false
        → Answers (stepwise m p.layout s (length out) (values_in (told Marks marks) text ends)) r out out'
        → Answers (applied m p.layout s (length out) (read_file file)) r out out'
    unfolding applied
    stepped b e f a =
        let t : all_found p.layout s (msgid_of ps) (msgstr_of ps) (length ps) ≡ true = sym found_file ∙ sym e ∙ not-false b f in
        rw (mo.read.is, t, ← values_are p.layout s text ends ps marks marked_by) a

  pub absent : (m : Mode) (out : List ℕ) (b : Bool) → b ≡ all_found p.layout s (id_in text ends) (str_in text ends) k
      → not b ≡ true
      → Answers (applied m p.layout s (length out) (read_file file)) (Err refusals.absent) out out
  unfolding applied
  absent m out b e f =
      let t : all_found p.layout s (msgid_of ps) (msgstr_of ps) (length ps) ≡ false
      = sym (found_file m out out (Err 0)) ∙ sym e ∙ not-true b f in
      rw (mo.read.is, t) (refl, refl)

pub unread : (m : Mode) (l : Layout) (s out file : List ℕ) → read_file file ≡ outside
    → Answers (applied m l s (length out) (read_file file)) (Err refusals.file) out out
unfolding applied
unread m l s out file e = rw e (refl, refl)

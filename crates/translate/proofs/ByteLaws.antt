-- Well-formed UTF-8 is bytes; so the values of a file's patches are.
use mathlib.Core.Path.{◌≡◌, sym, ◌∙◌, subst}
use mathlib.Core.Bool.{Bool, true, false}
use mathlib.Core.Logic.{inl, inr}
use mathlib.Core.Option.{some}
use mathlib.Core.List.{List, [], ◌∷◌, ◌++◌}
use Prim.Native.Nat.{ℕ, zero, suc, ◌≤◌, ◌<◌}
use native.Mathlib.Omega.{arith}
use borrow.Author.Tests.{eqb-true, eqb-false, lt-leb, lt-ltb}
use lib.Dec.{eqb, ltb, leb}
use lib.ListN.{length}
use Rattle.bits.specs.Choice.{pick, both}
use Rattle.bits.proofs.TestLaws.{which, below_or, both-none}
use Rattle.bits.proofs.ListLaws.{AllBelow}
use Rattle.format.specs.declared.Layout.{Layout}
use Rattle.format.specs.declared.Mode.{Mode}
use Rattle.image.specs.Sections.{strings_in}
use Rattle.utf.specs.declared.Reading.{Reading}
use Rattle.utf.specs.Utf8.{between, wrong, opens, next_byte, reading_of, is_utf8}
use Rattle.utf.proofs.ReadingLaws.{opens_past, next_wrong, next_opens, next_on, judged_first}
use Rattle.utf.proofs.PieceLaws.{utf8_from, never_wrong}
use Rattle.string_edits.specs.Values.{Values}
use Rattle.string_edits.proofs.TurnLaws.{none-some, turn_along}
use Rattle.patches.specs.Patches.{Step}
use Rattle.patches.specs.Lists.{InBytes, AllInBytes}
use Rattle.patches.specs.Orders.{id_step}
use Rattle.string_steps.specs.Steps.{steps_of}
use Rattle.po_pairs.specs.Pairs.{Pair, msgid_of, msgstr_of, pairs, read_file}
use Rattle.po_pairs.proofs.ValueLaws.{all_utf8_lem}
use Rattle.po_targets.specs.Targets.{target_of}
use Rattle.translate.specs.Translate.{given_by, file_values}
use Rattle.translate.proofs.MarkLaws.{target_most}

-- ---- no byte of UTF-8 is past 0xF4

pick-high : (t : Bool) (p q : Reading) → p.hi ≤ 191 → q.hi ≤ 191 → (pick t p q).hi ≤ 191
pick-high true p q h g = h
pick-high false p q h g = g

pick_most : (t : Bool) (a b : ℕ) → a ≤ 191 → b ≤ 191 → pick t a b ≤ 191
pick_most true a b h g = h
pick_most false a b h g = g

opens-high : (b : ℕ) → (opens b).hi ≤ 191
unfolding opens
opens-high b =
    pick-high (ltb b 0x80) _ _ (omega arith)
    (pick-high (ltb b 0xC2) _ _ (omega arith)
    (pick-high (ltb b 0xE0) _ _ (omega arith)
    (pick-high (ltb b 0xF0) _ _ (pick_most (eqb b 0xED) 0x9F 0xBF (omega arith) (omega arith))
    (pick-high (ltb b 0xF5) _ _ (pick_most (eqb b 0xF4) 0x8F 0xBF (omega arith) (omega arith)) (omega arith)))))

next_high : (r : Reading) (b : ℕ) → (next_byte r b).hi ≤ 191
unfolding next_byte
next_high r b =
    pick-high r.ok _ _
    (pick-high (eqb r.need 0) _ _ (opens-high b) (pick-high (both (leb r.lo b) (leb b r.hi)) _ _ (omega arith) (omega arith)))
    (omega arith)

past_wrong : (r : Reading) (b : ℕ) → r.hi ≤ 191 → 256 ≤ b → next_byte r b ≡ wrong
past_wrong r b h g = elim (which r.ok) [
  | inr t ↦ sym (next_wrong r b t)
  | inl t ↦ elim (which (eqb r.need 0)) [
    | inl z ↦ sym (opens_past b (omega arith) ∙ next_opens r b t (eqb-true r.need 0 z))
    | inr z ↦ sym (next_on r b t (eqb-false r.need 0 z)) ∙ rw (lt-leb b r.hi (omega arith), both-none (leb r.lo b))
  ]
]

bytes_from : (r : Reading) (bs : List ℕ) → r.hi ≤ 191 → utf8_from r bs ≡ true → AllBelow 256 bs
unfolding reading_of
bytes_from r [] h e p = omega arith
bytes_from r (b ∷ bs) h e zero = elim (below_or b 256) [
  | inl g ↦ g
  | inr g ↦ absurd (never_wrong bs (subst (λ (q : Reading). utf8_from q bs ≡ true) (past_wrong r b h g) e))
]
bytes_from r (b ∷ bs) h e (suc p) = bytes_from (next_byte r b) bs (next_high r b) e p

pub utf8_bytes : (bs : List ℕ) → is_utf8 bs ≡ true → AllBelow 256 bs
utf8_bytes bs e = bytes_from between bs (omega arith) (judged_first bs ∙ e)

-- ---- the patches of a file

-- one patch more
all_more : (ps : List Step) (p : Step) → AllInBytes ps → InBytes p.patch → AllInBytes (ps ++ (p ∷ []))
all_more [] p a b = (b, tt)
all_more (q ∷ ps) p a b = (a.0, all_more ps p a.1 b)

steps_bytes : (m : Mode) (room : ℕ) (v : Values) (n : ℕ)
    → ((i : ℕ) → i < n → (value : List ℕ) → v i ≡ some value → AllBelow 256 value) → AllInBytes (steps_of m room v n)
unfolding steps_of
steps_bytes m room v n b =
    turn_along v _ [] (λ (i : ℕ) (ps : List Step). AllInBytes ps) n tt (λ i ps q a. a)
    (λ i value ps g a. all_more ps (id_step m room (record { id = i; value = value })) a (b i g.known value g.gets))

given_bytes : (ps : List Pair) (file : List ℕ) → read_file file ≡ pairs ps → (t : ℕ) → t ≤ length ps → (value : List ℕ)
    → given_by ps t ≡ some value → AllBelow 256 value
given_bytes ps file e zero h value q = absurd (none-some value q)
given_bytes ps file e (suc k) h value q =
    let z : msgstr_of ps k ≡ value = cc in
    rw (← z) (utf8_bytes (msgstr_of ps k) (all_utf8_lem file ps e k (omega arith)).1)

pub patches_bytes : (m : Mode) (l : Layout) (s : List ℕ) (room : ℕ) (file : List ℕ) (ps : List Pair) → read_file file ≡ pairs ps
    → AllInBytes (steps_of m room (file_values l s ps) (strings_in s))
unfolding file_values
patches_bytes m l s room file ps e =
    steps_bytes m room (file_values l s ps) (strings_in s) (λ i h value q.
    given_bytes ps file e (target_of l s (msgid_of ps) (msgstr_of ps) (length ps) i)
    (target_most l s (msgid_of ps) (msgstr_of ps) (length ps) i) value (rw (lt-ltb i (strings_in s) h) at q))

-- The bytes of all old strings and of all new values, as the code sums them, and room enough by these sums.
use Rattle.std.specs.Prelude.{Err, Ok, Result}
use Rattle.std.specs.Result.{is_ok}
use mathlib.Core.Path.{◌≡◌, refl, ap, sym, ◌∙◌}
use mathlib.Core.Bool.{Bool, true, false, not}
use mathlib.Core.Logic.{inl, inr, ◌≢◌}
use mathlib.Core.List.{List}
use Prim.Native.Nat.{ℕ, suc, ◌+◌, ◌-◌, ◌*◌, ◌≤◌, ◌<◌}
use native.Mathlib.Omega.{arith}
use borrow.Author.Tests.{le-ltb, lt-ltb, le-leb, lt-leb}
use lib.Dec.{leb, ltb, eqb}
use lib.ListN.{length}
use Rattle.bits.specs.Choice.{pick, both, judge, sum_below}
use Rattle.bits.specs.Outcome.{passed}
use Rattle.bits.proofs.TestLaws.{below_or, both-none, sum_next}
use Rattle.bits.proofs.ByteLaws.{length-bytes_at}
use Rattle.format.specs.declared.Layout.{Layout}
use Rattle.format.specs.Move.{moved}
use Rattle.footer.specs.Finalize.{size_limit}
use Rattle.image.specs.Sections.{tail_at}
use Rattle.image.specs.Strings.{Str, unit_size, size_of, string_of}
use Rattle.edits.specs.Fit.{fields_fit}
use Rattle.sections.specs.declared.Places.{Places}
use Rattle.sections.specs.Places.{Placed}
use Rattle.sections.proofs.SectionLaws.{Sectioned, sectioned}
use Rattle.string_tables.specs.Strings.{as_place}
use Rattle.string_walk.specs.declared.Cursor.{Cursor}
use Rattle.string_walk.specs.declared.StringRecord.{StringRecord}
use Rattle.string_walk.specs.declared.Visited.{Visited}
use Rattle.string_walk.specs.Places.{Stands, VisitedOf}
use Rattle.string_walk.proofs.RecordLaws.{record_string}
use Rattle.string_edits.specs.Values.{Values}
use Rattle.string_edits.specs.Lists.{value_in}
use Rattle.string_edits.specs.Told.{told, marked, values_in}
use Rattle.string_edits.specs.declared.Form.TheVariants.{Marks}
use Rattle.string_packing.specs.declared.Shape.{Shape}
use Rattle.string_packing.specs.declared.Sizes.{Sizes}
use Rattle.string_packing.specs.Strings.{as_string, Shaped}
use Rattle.string_packing.specs.Pass.{string_most}
use Rattle.string_rebuild.specs.declared.Plan.{Plan}
use Rattle.string_rebuild.specs.Ready.{tail_of, plan_of, plan_refusal}
use Rattle.string_steps.specs.Room.{new_size, old_bytes, new_bytes, store_most, tail_most, is_roomy}
use Rattle.string_steps.specs.Marked.{Marked}

pub sum_none : (f : ℕ → ℕ) → 0 ≡ sum_below 0 f
unfolding sum_below
sum_none f = refl

-- at the end of a loop
pub sum_end : (f : ℕ → ℕ) (i n most sum : ℕ) → i ≡ n → sum ≡ sum_below i f → sum ≤ i * most
    → (sum ≡ sum_below n f) × (sum ≤ n * most)
sum_end f i n most sum e h k = rw (← e) (h, k)

-- ---- the old strings

module _ (p : Places) (s : List ℕ) (pl : Placed p s) where
  record_bytes : (i : ℕ) (r : StringRecord) → Stands p s i r
      → size_of (as_place r.place) ≡ length (string_of p.layout s i).bytes
  record_bytes i r st =
      sym (length-bytes_at s r.start (size_of (as_place r.place)))
      ∙ ap (λ (t : Str). length t.bytes) (record_string p s pl i r st)

  pub old_next : (c : Cursor) (r : Visited) → VisitedOf p s c r → (sum z : ℕ) → z ≡ size_of (as_place r.string.place)
      → sum ≡ old_bytes p.layout s c.id → sum ≤ c.id * size_limit
      → (sum + z ≡ old_bytes p.layout s r.next.id) × (sum + z ≤ r.next.id * size_limit)
  old_next c r v sum z e h k =
      let sc : Sectioned p s = sectioned p s pl in
      let a : z ≡ length (string_of p.layout s c.id).bytes = e ∙ record_bytes c.id r.string v.string in (
        rw (v.id, sum_next (λ i. length (string_of p.layout s i).bytes) c.id) (omega arith),
        omega (arith, v.id, v.string.place.stored),
      )

-- ---- the values

-- that of one mark, by the shape of its value
pub marked-size : (text ends : List ℕ) (mark : ℕ) → mark ≢ 0 → (value : List ℕ) → value ≡ value_in text ends (mark - 1)
    → (x : Shape) → Shaped x (as_string value) → x.count * unit_size x.wide ≡ new_size (marked text ends mark)
marked-size text ends mark z value e x sh =
    let q : mark ≡ suc (mark - 1) = omega (arith, z) in
    sym sh.1 ∙ ap (λ (y : List ℕ). length (as_string y).bytes) e ∙ ap (λ (k : ℕ). new_size (marked text ends k)) (sym q)

pub new_next : (v : Values) (i sum z : ℕ) → z ≡ new_size (v i) → sum ≡ new_bytes v i → sum + z ≡ new_bytes v (i + 1)
new_next v i sum z e h = rw (sum_next (λ j. new_size (v j)) i) (omega arith)

-- ---- room enough

pub not_roomy : (l : Layout) (s : List ℕ) (room : ℕ) (v : Values) → room < length s → false ≡ is_roomy l s room v
unfolding is_roomy
not_roomy l s room v h = rw (lt-leb (length s) room h)

ok_none : (n : ℕ) → is_ok (passed n) ≡ eqb n 0
ok_none n = go (eqb n 0)
  where
    go : (b : Bool) → is_ok {T = Unit {0}} (pick b (Ok tt) (Err n)) ≡ b
    go true = refl
    go false = refl

-- nothing is met, in the order of the definition
met_none : (n room : ℕ) (f : Bool) → eqb (pick (ltb size_limit n) 11 (pick (not f) 12 (pick (ltb room n) 13 0))) 0
    ≡ both (leb n room) (both (leb n size_limit) f)
met_none n room f = elim (below_or size_limit n) [
  | inl h ↦ rw (lt-ltb size_limit n h, lt-leb n size_limit h, both-none)
  | inr h ↦ rw (le-ltb size_limit n h, le-leb n size_limit h) (elim (below_or room n) [
    | inl g ↦ rw (lt-ltb room n g, lt-leb n room g) (short f)
    | inr g ↦ rw (le-ltb room n g, le-leb n room g) (enough f)
  ])
]
  where
    short : (b : Bool) → eqb (pick (not b) 12 13) 0 ≡ false
    short true = refl
    short false = refl

    enough : (b : Bool) → eqb (pick (not b) 12 0) 0 ≡ b
    enough true = refl
    enough false = refl

module _ (p : Places) (s marks text ends : List ℕ) (mk : Marked p s marks text ends) (old new : ℕ)
    (olds : old ≡ old_bytes p.layout s p.strings)
    (news : new ≡ new_bytes (values_in (told Marks marks) text ends) (length marks)) where
  abbrev gets : Values
  gets = values_in (told Marks marks) text ends

  sc : Sectioned p s
  sc = sectioned p s mk.laid.placed

  -- old and new strings, one byte before each, and each in the overflow table
  abbrev most : Sizes
  most = record { storage = old + new + p.strings; overflows = p.strings }

  pub most_low : old ≤ p.strings * size_limit → new ≤ length marks * string_most
      → (p.strings ≤ size_limit) × (old + new + p.strings ≤ size_limit * string_most)
  most_low h k = (omega (arith, sc), omega (arith, sc, mk.many))

  store_is : old + new + p.strings ≡ store_most p.layout s gets
  unfolding store_most
  store_is = rw (olds, news, mk.many, sc.strings)

  tail_most_lem : tail_of p most ≡ tail_most p.layout s gets
  unfolding tail_most
  tail_most_lem = rw (store_is, sc.strings, sc.over_from)

  module _ (plan : Plan) (e : plan ≡ plan_of p (length s) most) where
    pub most_tail : plan.tail ≤ plan.length
    unfolding plan_of
    most_tail = rw e (omega arith)

    plan_tail : plan.tail ≡ tail_most p.layout s gets
    unfolding plan_of
    plan_tail = ap (λ (x : Plan). x.tail) e ∙ tail_most_lem

    plan_length : plan.length ≡ length s - tail_at p.layout s + tail_most p.layout s gets
    unfolding plan_of
    plan_length = ap (λ (x : Plan). x.length) e ∙ rw (tail_most_lem, sc.tail_from)

    pub roomy_is : (room : ℕ) → length s ≤ room → (r : Result (Unit {0}) ℕ) → r ≡ passed (plan_refusal p s plan room)
        → is_ok r ≡ is_roomy p.layout s room gets
    unfolding is_roomy plan_refusal judge
    roomy_is room h r q =
        ap is_ok q ∙ ok_none (plan_refusal p s plan room)
        ∙ met_none plan.length room (fields_fit p.layout s (moved p.tail plan.tail))
        ∙ rw (le-leb (length s) room h, plan_length, plan_tail, sc.tail_from)

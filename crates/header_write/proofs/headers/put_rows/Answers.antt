use mathlib.Core.Path.{◌≡◌, refl, ◌∙◌}
use mathlib.Core.Bool.{true}
use native.Mathlib.Nat.{add-zero}
use native.Mathlib.Omega.{arith}
use lib.ListN.{length}
use Rattle.header_write.specs.Headers.{is_header_word}
use Rattle.header_write.proofs.HeaderLaws.{row_at, word_width, word_fits, place_le, run-next, run_end}
use Rattle.header_write.proofs.headers.put_rows.Goals as goal
use Rattle.header_write.proofs.headers.put_rows.Goals.{After-get}

-- the row of this turn is a header word
word : (c : After-get) → is_header_word c.get.result ≡ true
word c = row_at c.get.result c.args.first (length c.args.values.now) c.loop-i.i c.get.ensures
    c.requires.values_value (omega arith)

pub loop-i-init : goal.loop-i-init
loop-i-init c = (refl, rw (add-zero c.args.first))

pub place-at-requires : goal.place-at-requires
place-at-requires c = omega (arith, word_fits c.get.result (word (goal.at.place-at-requires c).After-get))

pub put_word-requires : goal.put_word-requires
put_word-requires c =
    let f = c.get.result in
    omega (arith, c.place-at.ensures, place_le c.args.layout f, word_fits f (word ((goal.at.put_word-requires c).After-get)))

pub loop-i-preserved : goal.loop-i-preserved
loop-i-preserved c =
    let l = c.loop-i in
    let s = c.args in (
      c.put_word.auto.s
          ∙ l.invariant.0,
      run-next s.layout s.first l.i s.values.now l.buf _ l.invariant.1 c.get.result _
          (record {
            more = omega arith;
            row = c.get.ensures;
            word = word_width c.get.result (word (goal.at.loop-i-preserved c).After-get);
            stored = rw (← c.place-at.ensures) c.put_word.ensures;
          }),
    )

pub shape_of-buf : goal.shape_of-buf
shape_of-buf c = c.loop-i.invariant.0

pub returns : goal.returns
returns c =
    let l = c.loop-i in
    let s = c.args in
    run_end s.layout s.first l.i s.values.now l.buf _ l.invariant.1 (omega arith)

-- Refused where fewer than 4 bytes stand behind the position, and where the sum does not fit; else the sum is what is stored.
use Rattle.std.specs.Prelude.{Some}
use Rattle.std.proofs.lemmas.Result.{err_from_is_err_and}
use native.Mathlib.Omega.{arith}
use mathlib.Core.Path.{◌≡◌, sym, ◌∙◌}
use mir.Facts.{to_z-of_z}
use Rattle.bits.specs.Bytes.{word_at}
use Rattle.records.specs.Sum.{summed, word_bits}
use Rattle.records.proofs.SumLaws.{sum_lt}
use Rattle.header_write.proofs.SlotLaws.{none_refused, some_kept, word_short, word_beyond, word_done}
use Rattle.header_write.proofs.shift_u32_at.Goals as goal
use Rattle.header_write.proofs.shift_u32_at.Goals.{After-add_delta, In_ok-word}

-- the sum that the code made
sum_is : (c : After-add_delta) → let a = c.args in
    c.add_delta.result ≡ summed word_bits a.delta (word_at a.buf.now a.pos)
sum_is c = c.add_delta.ensures ∙ rw (c.word.ensures.0, to_z-of_z c.ranges.delta)

pub returns-then-buf-pos : goal.returns-then-buf-pos
returns-then-buf-pos c = word_short _ _ _ (omega arith)

pub returns-then-buf-pos-lt4 : goal.returns-then-buf-pos-lt4
returns-then-buf-pos-lt4 c = word_short _ _ _ (omega arith)

pub returns-in_err-word : goal.returns-in_err-word
returns-in_err-word c =
    let a = c.args in
    let p = err_from_is_err_and c.from_residual.result c.from_residual.ensures.1 in
    let n = none_refused _ _ _ (sym c.ok_or.ensures.value ∙ c.in_err-word.was) in
    rw (p.1, p.2, n.1)
    (word_beyond a.pos a.delta a.buf.now (omega arith) (sym n.0 ∙ sum_is (goal.at.returns-in_err-word c).After-add_delta))

-- the sum that fits
sum-fits : (c : In_ok-word) → Some c.in_ok-word.word ≡ c.add_delta.result
sum-fits c = sym (some_kept _ _ _ (sym c.ok_or.ensures.value ∙ c.in_ok-word.was))

pub put_exact-requires : goal.put_exact-requires
put_exact-requires c =
    let a = c.args in
    record {
      at_in_bounds = omega arith;
      x_bound = sum_lt word_bits a.delta _ _
          (sym (sum_is (goal.at.put_exact-requires c).After-add_delta) ∙ sym (sum-fits (goal.at.put_exact-requires c).In_ok-word));
    }

pub returns : goal.returns
returns c =
    let a = c.args in
    word_done a.pos a.delta _ a.buf.now _ (omega arith) c.put_exact.ensures.0
    (sum-fits (goal.at.returns c).In_ok-word ∙ sum_is (goal.at.returns c).After-add_delta)

-- The body is spliced in; what lies behind it moves only where the lengths differ.
use lib.ListN.{length}
use Rattle.functions.proofs.AdmitLaws.{readable}
use Rattle.functions.proofs.WriteLaws.{Begun, Spliced, splice-asked, same_size, other_size, may_move}
use Rattle.functions.proofs.put_body.Goals as goal
use Rattle.functions.proofs.put_body.Goals.{After-function_at-f, After-put_spliced}

-- the function is read
begun : (c : After-function_at-f) → let a = c.args in
    Begun a.layout a.image.now a.id a.body.now (length a.out.now) c.function_at-f.result
begun c = record {
  accepted = c.requires;
  is = record { is = c.function_at-f.ensures.0; sized = c.function_at-f.ensures.1 };
}

-- the new body is put in
spliced : (c : After-put_spliced) → let a = c.args in
    Spliced a.layout a.image.now a.id a.body.now (length a.out.now) c.function_at-f.result
    c.put_spliced.new.out
spliced c = record {
  begun = record {
    accepted = c.requires;
    is = record { is = c.function_at-f.ensures.0; sized = c.function_at-f.ensures.1 };
  };
  spliced = c.put_spliced.ensures;
}

pub function_at-f-requires : goal.function_at-f-requires
function_at-f-requires c =
    record {
      readable = readable _ _ c.requires.admitted;
      i_bound = c.requires.known;
    }

pub put_spliced-requires : goal.put_spliced-requires
put_spliced-requires c = splice-asked (begun (goal.at.put_spliced-requires c).After-function_at-f)

pub returns-then-size-f : goal.returns-then-size-f
returns-then-size-f c = same_size (spliced (goal.at.returns-then-size-f c).After-put_spliced) c.if-size-f.true

pub relocate-requires : goal.relocate-requires
relocate-requires c =
    rw c.put_spliced.auto.out (may_move (begun (goal.at.relocate-requires c).After-function_at-f) c.if-size-f.false)

pub returns : goal.returns
returns c = other_size (spliced (goal.at.returns c).After-put_spliced) c.if-size-f.false _ c.relocate.ensures

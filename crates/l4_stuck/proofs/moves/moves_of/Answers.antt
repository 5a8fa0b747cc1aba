use Rattle.std.proofs.Common.{inl, ap, sym, ◌∙◌, arith}
use Rattle.l4_forever.specs.Waits.{is_waiting}
use Rattle.l4_forever.proofs.Grounds.{wait_row}
use Rattle.l4_stuck.specs.Inner.Going.{rows_of}
use Rattle.l4_stuck.proofs.moves.moves_of.Goals as goal

pub loop-init : goal.loop-init
loop-init c = record {
  free = c.in_ok-moves.ensures.free;
  justified = λ m found timed reached are few i w at marked.
      let inside = at.inside in
      inl (ap is_waiting (sym (wait_row m found (rows_of c.args.graph.now)
      c.args.graph.now.edges.items are i c.args.thread w at))
      ∙ c.in_ok-moves.ensures.marked i (omega (arith, inside, few)) marked);
}

pub loop-preserved : goal.loop-preserved
loop-preserved c = record {
  free = λ place is. c.loop.invariant.free place (c.spread.ensures.free place is);
  justified = λ m found timed reached are few.
      c.spread.ensures.justified m found timed reached are
      (c.loop.invariant.justified m found timed reached are few);
}

pub returns-clause-justified : goal.returns-clause-justified
returns-clause-justified c = λ m found timed reached are few.
    c.spread.ensures.justified m found timed reached are
    (c.loop.invariant.justified m found timed reached are few)

use Rattle.std.proofs.Common.{arith}
use Rattle.l4_core.proofs.Noting.{noted_below}
use Rattle.l4_core.proofs.processor.note_all.Goals as goal

pub returns-clause-all : goal.returns-clause-all
returns-clause-all c = λ other own. let within = own.within in c.loop-place.invariant.1 other (omega (arith, within, c.len-place-end.ensures.value, c.loop-place-test.false)) own

pub returns-clause-own : goal.returns-clause-own
returns-clause-own c = λ other there. c.loop-place.invariant.0.within other there

pub loop-place-preserved : goal.loop-place-preserved
loop-place-preserved c = (
  c.note_own.ensures.covers c.loop-place.invariant.0,
  noted_below c.loop-place.duties c.note_own.new.duties c.args.known.now.machine c.args.known.now.cpu c.loop-place.place c.note_own.ensures.still c.note_own.ensures.there c.loop-place.invariant.1,
)

use Rattle.l4_json.proofs.Going.{is_possible, one_more, spelled_here, still_placed}
use Rattle.l4_json.proofs.steps.push_steps.Goals as goal

pub push_step-requires-clause-placed : goal.push_step-requires-clause-placed
push_step-requires-clause-placed c = still_placed c.loop-place.world c.args.machine.now _ c.loop-place.invariant.0 c.loop-place.invariant.1

pub push_step-requires-clause-possible : goal.push_step-requires-clause-possible
push_step-requires-clause-possible c =
    let l = c.loop-place in
    is_possible l.world c.args.machine.now c.args.history.now.steps l.place _ _ l.invariant.0 l.invariant.2.1 c.step.ensures

pub loop-place-preserved : goal.loop-place-preserved
loop-place-preserved c =
    let l = c.loop-place in
    one_more c.args.machine.now c.args.lines.now c.args.history.now.steps l.place _ l.world c.push_step.new.world l.out.items c.push_step.new.out.items _ l.invariant.0 l.invariant.1
    l.invariant.2 l.invariant.3 c.step.ensures c.in_ok-push_step.ensures.taken c.in_ok-push_step.ensures.told
    (spelled_here c.args.history.now.steps l.place _ l.invariant.4 c.step.ensures c.in_ok-push_step.ensures.spelled)

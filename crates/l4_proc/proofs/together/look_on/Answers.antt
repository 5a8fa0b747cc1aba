use Rattle.std.proofs.Common.{◌≡◌, rules, Bool, true, false, not, ◌∙◌, arith, refl}
use denote.Enum.Bare.{same_true}
use Rattle.l4_proc.specs.contracts.stops.Stop.{the_type}
use Rattle.l4_proc.proofs.Joint.{looks_none, looks_more}
use Rattle.l4_proc.proofs.together.look_on.Goals as goal
use Rattle.l4_proc.proofs.together.look_on.Goals.{then-load-gt0, else-load-gt0}

is_true : (b : Bool) → false ≡ not b → b ≡ true
is_true true is = refl
is_true false is = absurd cc

pub loop-init : goal.loop-init
loop-init g c = record { worked = looks_none c.args.processor.now c.requires.idle c.requires.stopped; idle = c.requires.idle; few = omega arith }

pub returns-then-ne-clause-worked : goal.returns-then-ne-clause-worked
returns-then-ne-clause-worked g c =
    let e = c.work-stop.ensures in
    looks_more c.args.processor.now c.loop.processor c.work-stop.new.self c.work-stop.result c.loop.invariant.worked c.loop.invariant.idle
    (record { on = e.on; turned = e.turned; least = e.least; most = e.most; used = e.used; ticks = e.ticks; stopped = e.stopped; nothing = e.nothing; first = e.first; hand = e.hand }) e.stop

pub returns-then-last_looks-eq-LAST_LOOKS-clause-worked : goal.returns-then-last_looks-eq-LAST_LOOKS-clause-worked
returns-then-last_looks-eq-LAST_LOOKS-clause-worked g c =
    let e = c.work-stop.ensures in
    looks_more c.args.processor.now c.loop.processor c.work-stop.new.self c.work-stop.result c.loop.invariant.worked c.loop.invariant.idle
    (record { on = e.on; turned = e.turned; least = e.least; most = e.most; used = e.used; ticks = e.ticks; stopped = e.stopped; nothing = e.nothing; first = e.first; hand = e.hand }) e.stop

pub loop-preserved : goal.loop-preserved
loop-preserved g c =
    let e = c.work-stop.ensures in
    record {
      worked = looks_more c.args.processor.now c.loop.processor c.work-stop.new.self c.work-stop.result c.loop.invariant.worked c.loop.invariant.idle
          (record { on = e.on; turned = e.turned; least = e.least; most = e.most; used = e.used; ticks = e.ticks; stopped = e.stopped; nothing = e.nothing; first = e.first; hand = e.hand }) e.stop;
      idle = e.stop ∙ same_true the_type (search rules) _ _ (is_true _ c.if-ne.ensures);
      few = elim c.if-load-gt0.branch [
        | then-load-gt0 w ↦ (let z = w.last_looks-is in omega arith)
        | else-load-gt0 w ↦ (let z = w.last_looks-is in let ne = c.if-last_looks-eq-LAST_LOOKS.false in let f = c.loop.invariant.few in omega arith)
      ];
    }

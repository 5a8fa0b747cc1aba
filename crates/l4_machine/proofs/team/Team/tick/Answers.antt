use Rattle.std.proofs.Common.{ap, sym, ◌∙◌, subst, arith}
use Rattle.std.specs.Prelude.{slice_get}
use Rattle.std.specs.Vec.{with_items}
use Rattle.std.proofs.lemmas.Result.{on_ok_weaker}
use Rattle.l4_core_model.specs.Schedules.{ticks}
use Rattle.l4_mail.specs.Ports.{AreWhole}
use Rattle.l4_machine.proofs.Founds.{count_is}
use Rattle.l4_machine.proofs.Ticked.{all_come, all_counted, handled_same, more_ticked, ports_same, tick_in_rounds, ticks_come}
use Rattle.l4_machine.proofs.Turned.{can_stamp_here}
use Rattle.l4_machine.proofs.team.Team.tick.Goals as goal

pub tick_all-requires-clause-stamps : goal.tick_all-requires-clause-stamps
tick_all-requires-clause-stamps c =
    let m = c.args.self.now.machine.now in
    let r = c.requires.team.run in
    let ps = c.args.self.now.processors.items in
    let count = count_is m ps r c.requires.team.come in
    let few = c.requires.few in
    λ i p at. can_stamp_here m ps r i p c.requires.team.come (omega arith) (sym (ap (λ qs. slice_get qs i) c.as_mut_slice.ensures.value) ∙ at)

pub returns-clause-team : goal.returns-clause-team
returns-clause-team c =
    let m = c.args.self.now.machine.now in
    let r = c.requires.team.run in
    let olds = c.args.self.now.processors in
    let news = (with_items olds c.tick_all.new.processors).items in
    on_ok_weaker c.tick_all.result
    (λ h.
    let come = all_come olds c.as_mut_slice.result.now c.tick_all.new.processors c.args.deadline c.as_mut_slice.ensures.value c.as_mut_slice.ensures.len h in
    record {
      run = ticks m r;
      come = ticks_come m c.args.deadline olds.items news r c.requires.team.come c.requires.team.whole c.requires.idle.0 c.requires.idle.1 c.requires.first
          c.requires.near come;
      rounds = tick_in_rounds m c.args.self.now.turns olds.items r c.requires.team.rounds c.requires.team.come c.requires.team.whole c.requires.idle.0
          c.requires.idle.1;
      whole = subst AreWhole (sym (ports_same c.args.deadline olds.items news come)) c.requires.team.whole;
      handled = (λ all. handled_same c.args.deadline olds.items news come c.requires.idle.1, λ all. c.requires.team.handled.1 c.requires.idle.1);
    })
    c.tick_all.ensures

pub returns-clause-more : goal.returns-clause-more
returns-clause-more c =
    let olds = c.args.self.now.processors in
    let news = (with_items olds c.tick_all.new.processors).items in
    on_ok_weaker c.tick_all.result
    (λ h. more_ticked c.args.deadline olds.items news c.requires.idle.0 c.requires.first
    (all_come olds c.as_mut_slice.result.now c.tick_all.new.processors c.args.deadline c.as_mut_slice.ensures.value c.as_mut_slice.ensures.len h))
    c.tick_all.ensures

pub returns-clause-fewer : goal.returns-clause-fewer
returns-clause-fewer c =
    let olds = c.args.self.now.processors in
    let news = (with_items olds c.tick_all.new.processors).items in
    on_ok_weaker c.tick_all.result
    (λ h.
    let come = all_come olds c.as_mut_slice.result.now c.tick_all.new.processors c.args.deadline c.as_mut_slice.ensures.value c.as_mut_slice.ensures.len h in
    let most = (all_counted c.args.deadline olds.items news come).1 in
    let count = c.requires.team.come.in_order.for_each in
    omega arith)
    c.tick_all.ensures

use Rattle.std.proofs.Common.{◌∙◌, map, subst, sym}
use Rattle.l4_model.specs.History.{IsHistory}
use Rattle.l4_core_model.specs.Schedules.{replay_entries}
use Rattle.l4_replay.specs.Entries.{entry_from}
use Rattle.l4_replay.specs.Inner.Heard.{heard_in}
use Rattle.l4_replay.specs.Inner.Processors.{stations_of}
use Rattle.l4_replay.proofs.Endings.{are_resting, rests}
use Rattle.l4_machine.proofs.Heard.{heard_of_world}
use Rattle.l4_machine.proofs.Outcomes.{sound}
use Rattle.l4_machine.proofs.schedules.outcome_of_entries.Goals as goal

pub in_world-requires : goal.in_world-requires
in_world-requires c =
    let m = c.args.machine.now in
    (m, (replay_entries m (map entry_from c.args.entries.now), c.in_ok-processors.ensures.run))

pub outcome_of-requires : goal.outcome_of-requires
outcome_of-requires c =
    let m = c.args.machine.now in
    let r = replay_entries m (map entry_from c.args.entries.now) in
    let i = c.in_ok-processors.ensures.run in
    let s = sound m r i.lawful (c.law_core_run.ensures.lawful m r i.lawful i.core_run) in
    subst (IsHistory m) (sym c.in_ok-processors.ensures.history) s.possible

pub returns-clause-ok : goal.returns-clause-ok
returns-clause-ok c =
    let m = c.args.machine.now in
    let r = replay_entries m (map entry_from c.args.entries.now) in
    let i = c.in_ok-processors.ensures.run in
    let s = sound m r i.lawful (c.law_core_run.ensures.lawful m r i.lawful i.core_run) in
    let t = heard_in m r.system.locals (stations_of c.in_ok-processors.field-0.processors) in
    c.in_ok-outcome_of.ensures r t s (c.in_ok-threads.ensures m r i)
    (λ e. heard_of_world m r _ i.lawful i.core_run i.system) c.in_ok-processors.ensures.history
    (c.events.ensures ∙ i.events)
    (λ e. rests m r.system _ i.system (c.ending.ensures.0 e), λ e. c.ending.ensures.1 (are_resting m r.system _ i.system e))

use Rattle.std.proofs.Common.{◌≡◌, ◌⊎◌, ◌+◌, ◌<◌, ◌≤◌, None, List, map, ap, sym, ◌∙◌, subst, arith}
use Rattle.l4_model.specs.Machine.{Machine}
use Rattle.l4_core_model.specs.Schedules.{Entry, replay_entries}
use Rattle.l4_merge.specs.Rounds.{IsInRounds}
use Rattle.l4_replay.specs.Entries.{entries_fault, entry_from}
use Rattle.l4_machine.specs.Gathers.{AreResting}
use Rattle.l4_machine.specs.Outcomes.{IsFoundFor, IsOutcomeOf, compact_findings_of}
use Rattle.l4_machine.specs.Inner.Teams.{count_events}
use Rattle.l4_machine.proofs.Founds.{found}
use Rattle.l4_machine.proofs.Recorded.{are_lawful, is_replayed}
use Rattle.l4_machine.proofs.runs.recorded_turns.Goals as goal

pub returns-clause-ok : goal.returns-clause-ok
returns-clause-ok g c =
    let t = c.run.new.self in
    let e = c.in_ok-run.ensures in
    let here : t.machine.now ≡ c.in_ok-team.team.machine.now = ap (λ machine. machine.now) e.machine in
    let asked : c.in_ok-team.team.turns ≡ c.args.turns = c.in_ok-team.ensures.turns in
    let rounds = subst (λ n. IsInRounds t.machine.now n e.team.run) (e.turns ∙ asked) e.team.rounds in
    let least = subst (λ n. (n ≤ count_events t.processors.items) ⊎ AreResting t.processors.items) asked e.least in
    let few = subst (λ n. count_events t.processors.items < n + c.in_ok-team.team.machine.now.cpus) asked e.fewer in
    let fewer = subst (λ (m : Machine). count_events t.processors.items < c.args.turns + m.cpus) (sym here) few in
    let o = compact_findings_of c.in_ok-outcome.outcome in
    subst (λ (m : Machine). IsFoundFor m c.args.turns o) (here ∙ c.in_ok-team.ensures.machine)
    (found t.machine.now c.args.turns t.processors.items e.team.run o e.team.come rounds e.team.whole least fewer c.in_ok-outcome.ensures)

pub returns-clause-replayed : goal.returns-clause-replayed
returns-clause-replayed g c =
    let t = c.run.new.self in
    let here : t.machine.now ≡ c.args.machine.now = ap (λ machine. machine.now) c.in_ok-run.ensures.machine ∙ c.in_ok-team.ensures.machine in
    let entries : List Entry = map entry_from c.in_ok-entries.entries.items in
    let o = compact_findings_of c.in_ok-outcome.outcome in
    subst (λ (m : Machine). IsOutcomeOf m (replay_entries m entries) o) here
    (is_replayed t.machine.now t.processors.items entries o c.in_ok-entries.ensures c.in_ok-outcome.ensures)

pub returns-clause-lawful : goal.returns-clause-lawful
returns-clause-lawful g c =
    let t = c.run.new.self in
    let e = c.in_ok-run.ensures in
    let there : c.in_ok-team.team.machine.now ≡ c.args.machine.now = c.in_ok-team.ensures.machine in
    let here : t.machine.now ≡ c.args.machine.now = ap (λ machine. machine.now) e.machine ∙ there in
    let few = subst (λ n. count_events t.processors.items < n + c.in_ok-team.team.machine.now.cpus) c.in_ok-team.ensures.turns e.fewer in
    let fewer = subst (λ (m : Machine). count_events t.processors.items < c.args.turns + m.cpus) there few in
    let limit = c.facts.ensures.limit in
    let entries : List Entry = map entry_from c.in_ok-entries.entries.items in
    subst (λ (m : Machine). entries_fault m entries ≡ None) here
    (are_lawful t.machine.now t.processors.items entries (compact_findings_of c.in_ok-outcome.outcome) e.team.come.in_order
    (omega (arith, fewer, limit, c.requires)) c.in_ok-entries.ensures c.in_ok-outcome.ensures)

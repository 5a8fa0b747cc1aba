use Rattle.std.proofs.Common.{◌≡◌, ◌⊎◌, ◌+◌, ◌<◌, ◌≤◌, ap, sym, ◌∙◌, subst}
use Rattle.std.proofs.lemmas.Result.{IfOk-weaker}
use Rattle.l4_model.specs.Machine.{Machine}
use Rattle.l4_merge.specs.Rounds.{IsInRounds}
use Rattle.l4_machine.specs.Gathers.{AreResting}
use Rattle.l4_machine.specs.Outcomes.{IsFoundFor, compact_findings_of}
use Rattle.l4_machine.specs.Inner.Teams.{count_events}
use Rattle.l4_machine.proofs.Founds.{found}
use Rattle.l4_machine.proofs.runs.outcome_of_turns.Goals as goal

pub returns : goal.returns
returns g c =
    let t = c.run.new.self in
    let e = c.in_ok-run.ensures in
    let here : t.machine.now ≡ c.in_ok-team.team.machine.now = ap (λ machine. machine.now) e.machine in
    let asked : c.in_ok-team.team.turns ≡ c.args.turns = c.in_ok-team.ensures.turns in
    let rounds = subst (λ n. IsInRounds t.machine.now n e.team.run) (e.turns ∙ asked) e.team.rounds in
    let least = subst (λ n. (n ≤ count_events t.processors.items) ⊎ AreResting t.processors.items) asked e.least in
    let few = subst (λ n. count_events t.processors.items < n + c.in_ok-team.team.machine.now.cpus) asked e.fewer in
    let fewer = subst (λ (m : Machine). count_events t.processors.items < c.args.turns + m.cpus) (sym here) few in
    IfOk-weaker c.into_outcome.result _ _
    (λ o is. subst (λ (m : Machine). IsFoundFor m c.args.turns (compact_findings_of o)) (here ∙ c.in_ok-team.ensures.machine)
    (found t.machine.now c.args.turns t.processors.items e.team.run (compact_findings_of o) e.team.come rounds e.team.whole least fewer is))
    c.into_outcome.ensures

use Rattle.std.proofs.Common.{◌≡◌, None, length, map, subst, arith}
use Rattle.std.proofs.lemmas.List.{length-map}
use Rattle.l4_core_model.specs.Schedules.{replay_entries}
use Rattle.l4_replay.specs.Entries.{entry_from, first_stranger}
use Rattle.l4_replay.specs.UnderWay.{IsRun}
use Rattle.l4_rounds.proofs.Faults.{no_fault}
use Rattle.l4_rounds.proofs.rest.walk_behind.Goals as goal

pub returns-clause-ok : goal.returns-clause-ok
returns-clause-ok c =
    let replay = c.in_ok-replay.replay in
    let is = c.in_ok-replay.ensures in
    subst (λ m. IsRun m (replay_entries m (map entry_from c.args.entries.now)) replay.walk) is.machine
    (subst (λ es. IsRun replay.machine.now (replay_entries replay.machine.now es) replay.walk) is.entries is.replay.run)

pub returns-clause-lawful : goal.returns-clause-lawful
returns-clause-lawful c =
    let es = map entry_from c.args.entries.now in
    let is = c.in_ok-replay.ensures in
    let count = length-map c.args.entries.now entry_from in
    no_fault c.args.machine.now es (omega (arith, count, c.if-entries-gt-MOST_EVENTS.false))
    (subst (λ m. first_stranger m 1 es ≡ None) is.machine
    (subst (λ es. first_stranger c.in_ok-replay.replay.machine.now 1 es ≡ None) is.entries is.replay.lawful))

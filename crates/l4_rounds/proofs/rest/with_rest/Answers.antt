use Rattle.std.proofs.Common.{◌≡◌, Bor, length, ap, sym, ◌∙◌, arith}
use Rattle.std.proofs.lemmas.List.{length-map}
use Rattle.l4_model.specs.Machine.{Machine}
use Rattle.l4_replay.specs.Entries.{entry_from, first_stranger}
use Rattle.l4_rounds.specs.Inner.Replays.{entries_of}
use Rattle.l4_rounds.proofs.Faults.{all_few, in_range, no_fault}
use Rattle.l4_rounds.proofs.rest.with_rest.Goals as goal

pub returns-clause-all : goal.returns-clause-all
returns-clause-all c =
    let replay = c.in_ok-replay.replay in
    let on = c.in_ok-go_on.ensures in
    let here = c.in_ok-replay.ensures.machine in
    let cpus = ap (λ (m : Machine). m.cpus) here in
    let same = ap (λ (m : Bor Machine). m.now) on.machine ∙ here in
    let within = in_range (length c.args.entries.now) c.args.turns (sym c.if-is_out_of_range.ensures) in
    let given : length (entries_of replay) ≡ length c.args.entries.now =
    ap length c.in_ok-replay.ensures.entries ∙ length-map c.args.entries.now entry_from in
    let count = within.1 in
    no_fault c.args.machine.now (entries_of c.go_on.new.self)
    (all_few replay.machine.now (entries_of replay) (entries_of c.go_on.new.self) c.args.turns
    (omega (arith, cpus, c.facts.ensures.some))
    (omega (arith, cpus, c.facts.ensures.limit))
    within.0 (omega (arith, given, count)) on.entries)
    (ap (λ m. first_stranger m 1 (entries_of c.go_on.new.self)) (sym same) ∙ on.replay.lawful)

use Rattle.std.proofs.Common.{◌≡◌, ◌<◌, ◌≤◌, length, map, ap, sym, inr, ◌∙◌, arith}
use Rattle.std.proofs.lemmas.List.{length-append, length-map, map_push}
use Rattle.l4_replay.specs.Entries.{entry_from}
use Rattle.l4_schedules.specs.Items.{read_items}
use Rattle.l4_schedules.proofs.NextTurns.{turn_read, turn_missed}
use Rattle.l4_schedules.proofs.items.read_turns.Goals as goal

pub returns-then-cpu-cpus-clause-err : goal.returns-then-cpu-cpus-clause-err
returns-then-cpu-cpus-clause-err c =
    let m = c.args.machine.now in
    let old = c.turns.entries.items in
    let above : m.cpus ≤ c.in-Some.cpu = grind (arith, c.if-cpu-cpus.true, c.cpus.ensures.value) in
    let sized : c.len.result ≡ length (map entry_from old) = grind (arith, c.len.ensures, c.turns.entries.ok.0, length-map old entry_from) in
    inr (sym c.turns.invariant.whole
    ∙ turn_missed m (map entry_from old) c.in-Some.cpu c.turns.items c.next_turn.new.self c.in-Some.ensures.0 c.in-Some.ensures.1 c.len.result sized above)

pub turns-preserved : goal.turns-preserved
turns-preserved c =
    let m = c.args.machine.now in
    let old = c.turns.entries.items in
    let new = c.push.new.entries.items in
    let rest = c.next_turn.new.self in
    let below : c.in-Some.cpu < m.cpus = grind (arith, c.if-cpu-cpus.false, c.cpus.ensures.value) in
    let grown = c.in_ok-push.ensures in
    let read = turn_read m (map entry_from old) c.in-Some.cpu c.turns.items rest c.in-Some.ensures.0 c.in-Some.ensures.1 below in
    let lengths = ap length c.in-Some.ensures.1 in
    let longer = ap length grown ∙ length-append old _ in
    record {
      whole = ap (λ es. read_items m (map entry_from es) rest) grown ∙ ap (λ es. read_items m es rest) (map_push entry_from old _) ∙ sym read ∙ c.turns.invariant.whole;
      counted = omega (arith, c.turns.invariant.counted, lengths, longer);
      fewer = omega (arith, c.turns.invariant.fewer, lengths);
    }

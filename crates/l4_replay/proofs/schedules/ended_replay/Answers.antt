use Rattle.std.proofs.Common.{◌+◌, ◌++◌, ◌∙◌, ap, append-nil, arith, inr, map, refl, sym}
use Rattle.l4_core_model.specs.Runs.{told}
use Rattle.l4_core.specs.EventBuffers.{EventBuffer}
use Rattle.l4_history.specs.Inner.Rows.{Told}
use Rattle.l4_replay.specs.Entries.{entry_from}
use Rattle.l4_replay.specs.Inner.Processors.{under_way}
use Rattle.l4_replay.specs.declared.entries.Entry.TheVariants.{Turn}
use Rattle.l4_replay.proofs.Replays.{entry_at, lawful-next, replaying_next, replaying_start, stranger_here}
use Rattle.l4_replay.proofs.schedules.ended_replay.Goals as goal

pub loop-place-init : goal.loop-place-init
loop-place-init c = record {
  come = replaying_start c.args.machine.now (map entry_from c.args.entries.now)
      (under_way c.in_ok-processors.processors) _ c.in_ok-processors.ensures.run
      (ap (λ (b : EventBuffer). b.before ++ b.steps) c.new-buffer.ensures ∙ append-nil _
      ∙ ap (λ (h : Told). h.steps) c.new-2.ensures);
  lawful = refl;
}

pub returns-then-not-is_of-clause-err : goal.returns-then-not-is_of-clause-err
returns-then-not-is_of-clause-err c =
    inr (stranger_here c.args.machine.now c.args.entries.now c.loop-place.place (Turn 0) c.requires
    c.loop-place-test.true (sym c.if-not-is_of.ensures) c.loop-place.invariant.lawful)

pub go_on-requires-clause-run : goal.go_on-requires-clause-run
go_on-requires-clause-run c =
    let i = c.loop-place.invariant.come in
    (c.args.machine.now, (i.run, i.is))

pub go_on-requires-clause-few : goal.go_on-requires-clause-few
go_on-requires-clause-few c =
    let i = c.loop-place.invariant.come in
    omega (arith, i.is.events, i.count)

pub loop-place-preserved : goal.loop-place-preserved
loop-place-preserved c =
    let m = c.args.machine.now in
    let entries = map entry_from c.args.entries.now in
    let place = c.loop-place.place in
    let at = entry_at c.args.entries.now place (Turn 0) c.loop-place-test.true in
    record {
      come = replaying_next m entries _ _ _ _ place _ c.loop-place.buffer c.go_on.new.buffer at
          c.loop-place.invariant.come refl c.in_ok-go_on.ensures.goes c.in_ok-go_on.ensures.told refl;
      lawful = lawful-next m entries place _ at (sym c.if-not-is_of.ensures) c.loop-place.invariant.lawful;
    }

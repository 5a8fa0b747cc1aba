use Rattle.std.proofs.Common.{◌≡◌, ◌+◌, List, drop, inr, length, map, refl, subst, sym, ap, ◌∙◌, arith}
use Rattle.std.specs.Prelude.{IfSome, slice_index_or}
use Rattle.std.proofs.Math.Seq.{drop-length}
use Rattle.std.proofs.lemmas.List.{length-map}
use Rattle.l4_model.specs.Machine.{Machine}
use Rattle.l4_model.specs.Steps.{Step}
use Rattle.l4_core_model.specs.Runs.{Run, told}
use Rattle.l4_replay.specs.Entries.{entry_from, first_stranger, is_entry}
use Rattle.l4_replay.specs.declared.entries.Entry.TheVariants.{Turn}
use Rattle.l4_replay.proofs.Replays.{entry_at, lawful-next, stranger_here}
use Rattle.l4_machine.specs.Outcomes.{IsOutcomeOf}
use Rattle.l4_told.specs.Told.{findings_with}
use Rattle.l4_told.proofs.Telling.{left_is, untold_within}
use Rattle.l4_told.proofs.Entries.{replaying_end, replaying_next, replaying_start}
use Rattle.l4_told.proofs.told.told_replay.Goals as goal

pub loop-place-init : goal.loop-place-init
loop-place-init g c = record {
  come = replaying_start c.args.machine.now (map entry_from c.args.entries.now)
      (λ steps. g.L.Listener.hears c.args.listener.now steps c.args.listener.now)
      c.in_ok-replay.replay c.in_ok-replay.ensures (g.met.L.Listener.heard_none c.args.listener.now);
  lawful = refl;
}

pub returns-then-not-is_of-clause-err : goal.returns-then-not-is_of-clause-err
returns-then-not-is_of-clause-err g c =
    inr (stranger_here c.args.machine.now c.args.entries.now c.loop-place.place (Turn 0) c.requires
    c.loop-place-test.true
    (sym c.if-not-is_of.ensures) c.loop-place.invariant.lawful)

pub take-requires-clause-run : goal.take-requires-clause-run
take-requires-clause-run g c =
    let is = c.loop-place.invariant.come in (c.args.machine.now, is.run, is.before, is.come)

pub take-requires-clause-few : goal.take-requires-clause-few
take-requires-clause-few g c =
    let is = c.loop-place.invariant.come in
    omega (arith, is.come.run.events, is.count, c.loop-place-test.true, c.requires)

pub take-requires-clause-lawful : goal.take-requires-clause-lawful
take-requires-clause-lawful g c =
    ap (λ (m : Machine). is_entry m (entry_from (slice_index_or c.args.entries.now c.loop-place.place (Turn 0))))
    c.loop-place.invariant.come.come.run.machine
    ∙ sym c.if-not-is_of.ensures

pub loop-place-preserved : goal.loop-place-preserved
loop-place-preserved g c =
    let m = c.args.machine.now in
    let entries = map entry_from c.args.entries.now in
    let place = c.loop-place.place in
    let at = entry_at c.args.entries.now place (Turn 0) c.loop-place-test.true in
    record {
      come = replaying_next m entries place _
          (λ steps. g.L.Listener.hears c.args.listener.now steps c.loop-place.listener)
          (λ steps. g.L.Listener.hears c.loop-place.listener steps c.take.new.listener)
          (λ steps. g.L.Listener.hears c.args.listener.now steps c.take.new.listener)
          c.loop-place.replay c.take.new.self at c.loop-place.invariant.come c.in_ok-take.ensures
          (λ xs ys one two. g.met.L.Listener.heard_both c.args.listener.now c.loop-place.listener
          c.take.new.listener xs ys one two);
      lawful = lawful-next m entries place _ at (sym c.if-not-is_of.ensures) c.loop-place.invariant.lawful;
    }

pub tell_left-requires : goal.tell_left-requires
tell_left-requires g c =
    let is = c.loop-place.invariant.come in
    untold_within c.args.machine.now (told is.run.events) is.before c.loop-place.replay.kept is.come.telling

pub into_final_state-requires : goal.into_final_state-requires
into_final_state-requires g c =
    let is = c.loop-place.invariant.come in (c.args.machine.now, is.run, is.before, is.come)

pub returns-clause-told : goal.returns-clause-told
returns-clause-told g c =
    let m = c.args.machine.now in
    let entries = map entry_from c.args.entries.now in
    let is = c.loop-place.invariant.come in
    let over = c.loop-place-test.false in
    let within = c.loop-place.auto.place-end in
    let size = length-map c.args.entries.now entry_from in
    let all : c.loop-place.place ≡ length entries = omega (arith, over, within, size) in
    let same = replaying_end m entries c.loop-place.place (λ steps. g.L.Listener.hears c.args.listener.now steps
    c.loop-place.listener) c.loop-place.replay is all in
    subst (λ (r : Run). g.L.Listener.hears c.args.listener.now (told r.events) c.tell_left.new.listener) same
    (subst (λ (steps : List Step). g.L.Listener.hears c.args.listener.now steps c.tell_left.new.listener)
    (sym is.come.telling.told_are)
    (g.met.L.Listener.heard_both c.args.listener.now c.loop-place.listener
    c.tell_left.new.listener is.before is.come.telling.left is.heard
    (subst (λ (steps : List Step). g.L.Listener.hears c.loop-place.listener steps c.tell_left.new.listener)
    (left_is m (told is.run.events) is.before c.loop-place.replay.kept is.come.telling) c.in_ok-tell_left.ensures)))

pub returns-clause-ok : goal.returns-clause-ok
returns-clause-ok g c =
    let m = c.args.machine.now in
    let entries = map entry_from c.args.entries.now in
    let is = c.loop-place.invariant.come in
    let over = c.loop-place-test.false in
    let within = c.loop-place.auto.place-end in
    let size = length-map c.args.entries.now entry_from in
    let all : c.loop-place.place ≡ length entries = omega (arith, over, within, size) in
    let same = replaying_end m entries c.loop-place.place (λ steps. g.L.Listener.hears c.args.listener.now steps
    c.loop-place.listener) c.loop-place.replay is all in
    subst (λ (r : Run). IfSome c.in_ok-into_final_state.field-0 (λ s. IsOutcomeOf m r (findings_with (told r.events) s)))
    same (c.in_ok-into_final_state.ensures m is.run is.before is.come)

pub returns-clause-lawful : goal.returns-clause-lawful
returns-clause-lawful g c =
    let entries = map entry_from c.args.entries.now in
    let over = c.loop-place-test.false in
    let within = c.loop-place.auto.place-end in
    let size = length-map c.args.entries.now entry_from in
    let all : c.loop-place.place ≡ length entries = omega (arith, over, within, size) in
    c.loop-place.invariant.lawful
    ∙ ap (first_stranger c.args.machine.now (c.loop-place.place + 1)) (ap (λ n. drop n entries) all
    ∙ drop-length entries)

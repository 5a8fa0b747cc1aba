use Rattle.std.proofs.Common.{◌≡◌, ◌++◌, ◌∷◌, [], Bor, length, map, take, inr, refl, ap, sym, ◌∙◌, arith}
use Rattle.std.specs.Prelude.{slice_index_or}
use Rattle.std.proofs.lemmas.List.{length-map, length-take-le, take_all}
use Rattle.l4_model.specs.Machine.{Machine}
use Rattle.l4_replay.specs.declared.entries.Entry.TheVariants.{Turn}
use Rattle.l4_replay.specs.Entries.{entry_from, is_entry}
use Rattle.l4_replay.proofs.Replays.{entry_at, lawful-next, stranger_here}
use Rattle.l4_rounds.specs.Inner.Replays.{entries_of}
use Rattle.l4_rounds.proofs.Faults.{next_taken}
use Rattle.l4_rounds.proofs.rest.replayed.Goals as goal

pub loop-place-init : goal.loop-place-init
loop-place-init c = record {
  replay = c.in_ok-replay.ensures.replay;
  machine = c.in_ok-replay.ensures.machine;
  entries = c.in_ok-replay.ensures.entries;
  lawful = refl;
}

pub returns-then-not-is_of-clause-err : goal.returns-then-not-is_of-clause-err
returns-then-not-is_of-clause-err c =
    inr (stranger_here c.args.machine.now c.args.entries.now c.loop-place.place (Turn 0)
    (omega (arith, c.requires)) c.loop-place-test.true (sym c.if-not-is_of.ensures)
    c.loop-place.invariant.lawful)

pub take-requires-clause-few : goal.take-requires-clause-few
take-requires-clause-few c =
    let replay = c.loop-place.replay in
    let all = map entry_from c.args.entries.now in
    let size = length-map replay.entries.items entry_from in
    let count = length-map c.args.entries.now entry_from in
    let so_far : length (entries_of replay) ≡ length (take c.loop-place.place all) =
    ap length c.loop-place.invariant.entries in
    let few = length-take-le c.loop-place.place all (omega (arith, count, c.loop-place-test.true)) in
    omega (arith, size, so_far, few, c.loop-place-test.true, c.requires)

pub take-requires-clause-lawful : goal.take-requires-clause-lawful
take-requires-clause-lawful c =
    ap (λ (m : Machine). is_entry m (entry_from (slice_index_or c.args.entries.now c.loop-place.place (Turn 0))))
    c.loop-place.invariant.machine
    ∙ sym c.if-not-is_of.ensures

pub loop-place-preserved : goal.loop-place-preserved
loop-place-preserved c =
    let entries = c.args.entries.now in
    let place = c.loop-place.place in
    let e = entry_from (slice_index_or entries place (Turn 0)) in
    let at = entry_at entries place (Turn 0) c.loop-place-test.true in
    record {
      replay = c.in_ok-take.ensures.replay;
      machine = ap (λ (m : Bor Machine). m.now) c.in_ok-take.ensures.machine ∙ c.loop-place.invariant.machine;
      entries = c.in_ok-take.ensures.entries
          ∙ ap (λ es. es ++ e ∷ []) c.loop-place.invariant.entries
          ∙ next_taken entries place (Turn 0) c.loop-place-test.true;
      lawful = lawful-next c.args.machine.now (map entry_from entries) place e at
          (sym c.if-not-is_of.ensures) c.loop-place.invariant.lawful;
    }

pub returns-clause-entries : goal.returns-clause-entries
returns-clause-entries c =
    let all = map entry_from c.args.entries.now in
    let count = length-map c.args.entries.now entry_from in
    c.loop-place.invariant.entries
    ∙ take_all c.loop-place.place all (omega (arith, count, c.loop-place-test.false))

use Rattle.std.proofs.Common.{◌+◌, ◌∷◌, [], map, refl, subst, sym, ap, ◌∙◌, arith}
use Rattle.std.proofs.lemmas.List.{map-append}
use Rattle.std.specs.Prelude.{IsSome}
use Rattle.l4_model.specs.Machine.{Machine}
use Rattle.l4_explore.specs.Search.{seen_at}
use Rattle.l4_forever.specs.Inner.Graph.{AreReached}
use Rattle.l4_futures.proofs.Kept.{state_led}
use Rattle.l4_futures.specs.Choices.{world_after}
use Rattle.l4_outlooks.specs.Inner.Foreseen.{IsLed}
use Rattle.l4_stuck.specs.Inner.Going.{IsLeft}
use Rattle.l4_stuck.proofs.Placing.{place_more, AreBuilt}
use Rattle.l4_stuck.proofs.graph.graph_of.Goals as goal

pub outlook-requires-clause-leads : goal.outlook-requires-clause-leads
outlook-requires-clause-leads c =
    let m = c.args.machine.now in
    let seen = seen_at c.args.found.now c.loop-place.place in
    let led = state_led m seen.schedule seen.state
    (c.requires.reached c.loop-place.place (omega (arith, c.loop-place-test.true, c.len-place-end.ensures.value))) in
    subst (λ (n : Machine). IsSome (world_after n c.deref.result.now)) (sym c.loop-place.invariant.same)
    (subst (λ es. IsSome (world_after m es)) (sym (c.deref.ensures.value ∙ c.in_ok-entries.ensures))
    (subst IsSome (sym led.1) refl))

pub add_edges-requires-clause-reached : goal.add_edges-requires-clause-reached
add_edges-requires-clause-reached c =
    subst (λ (n : Machine). AreReached n c.args.found.now)
    (sym (c.in_ok-outlook.ensures.led.machine ∙ c.loop-place.invariant.same)) c.requires.reached

pub loop-place-preserved : goal.loop-place-preserved
loop-place-preserved c =
    let m = c.args.machine.now in
    let found = c.args.found.now in
    let place = c.loop-place.place in
    let o = c.in_ok-outlook.outlook in
    let row = c.in_ok-waits.field-0 in
    let same = c.in_ok-outlook.ensures.led.machine ∙ c.loop-place.invariant.same in
    let led = subst (λ n. IsLed n c.deref.result.now o) c.loop-place.invariant.same
    c.in_ok-outlook.ensures.led in
    record {
      built =
          subst (λ rows. AreBuilt m found rows c.add_edges.new.edges.items (place + 1))
          (sym (ap (map (λ r. r.items)) c.in_ok-push.ensures.items
          ∙ map-append (λ r. r.items) c.loop-place.waits.items (row ∷ [])))
          (place_more m found (map (λ r. r.items) c.loop-place.waits.items) row.items
          c.loop-place.edges.items c.add_edges.new.edges.items place o.world
          (record {
            inside = omega (arith, c.loop-place-test.true, c.len-place-end.ensures.value);
            leads = ap (world_after m) (sym (c.deref.ensures.value ∙ c.in_ok-entries.ensures))
                ∙ led.leads;
          })
          c.in_ok-waits.ensures
          (subst (λ n. IsLeft n found place o.world c.loop-place.edges.items
          c.add_edges.new.edges.items) same c.in_ok-add_edges.ensures)
          c.loop-place.invariant.built);
      same = c.outlook.ensures.same ∙ c.loop-place.invariant.same;
    }

use Rattle.std.proofs.Common.{ℕ, ◌<◌, Option, length, ap, ◌∙◌, subst, sym}
use Rattle.l4_model.specs.Machine.{Machine}
use Rattle.l4_script.specs.Machines.{last_thread, with_last_script}
use Rattle.l4_script.specs.Second.Texts.{Target, placed_at, found_place}
use Rattle.l4_script.proofs.Placing.{one_placed, some_left}
use Rattle.l4_script.proofs.text.second.reading.place_all.Goals as goal

pub loop-target-preserved : goal.loop-target-preserved
loop-target-preserved c =
    let m : Machine = c.loop-target.machine in
    let labels = c.args.labels.now in
    let t : Target = c.target-item.result in
    let at = c.target.inside.at in
    let is = c.place_last.ensures
    ∙ ap (λ (place : Option ℕ). with_last_script (placed_at at place (last_thread m).script) m) c.found_place.ensures
    ∙ ap (λ (x : Target). with_last_script (placed_at x.at (found_place labels x.place) (last_thread m).script) m) c.target.view_is in
    record {
      some = subst (λ (x : Machine). 0 < length x.threads) (sym is) (some_left (placed_at t.at (found_place labels t.place) (last_thread m).script) m c.loop-target.invariant.some);
      whole = one_placed labels c.args.targets.now c.loop-target.target-index t m c.place_last.new.self _ c.loop-target-test.true c.target-item.is c.loop-target.invariant.some is c.loop-target.invariant.whole;
    }

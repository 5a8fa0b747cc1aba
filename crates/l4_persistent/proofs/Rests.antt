-- What a search that goes on by persistent sets has found are all states at rest.
use Rattle.std.proofs.Common.{◌≡◌, ℕ, Bool, Some, List, [], ◌∷◌, length, refl, ap, sym, ◌∙◌, subst, arith}
use Rattle.l4_model.specs.Machine.{Machine}
use Rattle.l4_model.proofs.Chains.{bind_then, some_is}
use Rattle.l4_core_model.specs.Runs.{System, Action, happens, Run, IsMachine, core_run, opening_run, opening_system, then_event}
use Rattle.l4_explore.specs.Search.{Seen, seen_at, IsExplored}
use Rattle.l4_explore.specs.Inner.Ends.{IsFoundIn, AreAllEnds}
use Rattle.l4_explore.proofs.Nearing.{all_ends}
use Rattle.l4_states.specs.Choices.{state_in, state_after, AreLeastTicks, IsLeastRun}
use Rattle.l4_states.specs.Listed.{IsListed}
use Rattle.l4_states.proofs.Following.{state_led}
use Rattle.l4_states.proofs.Chosen.{least_run}
use Rattle.l4_persistent.specs.Persistent.{Leads, Done, Then}
use Rattle.l4_persistent.specs.Rests.{ComesToRest, AreRestsListed}
use Rattle.l4_persistent.specs.Inner.Ends.{MayRest, AreOfSet}
use Rattle.l4_persistent.proofs.Ends.{kept, same_state, shifted_state}

-- A run whose ticks go to least deadlines leads where it does.
leads_there : (m : Machine) (es : List Action) (r t : Run) → core_run m r es ≡ Some t → AreLeastTicks m r es →
    Leads m r.system es t.system
leads_there m [] r t is ticks = subst (λ (t : Run). Leads m r.system [] t.system) (some_is r t is) Done
leads_there m (e ∷ es) r t is ticks =
    bind_then (happens m r.system e) _ t is λ h at rest.
    Then h (record { happens = at; least = ticks.0 }) (leads_there m es (then_event r h) t rest (ticks.1 h at))

-- From the opening it may come to rest.
may_rest : (m : Machine) (events : ℕ) (g : System) → ComesToRest m events g →
    MayRest m (state_in m (opening_system m)) events (state_in m g)
may_rest m events g c = record {
  before = 0;
  system = opening_system m;
  reached = least_run m [] (opening_system m) refl;
  is = refl;
  events = c.run.actions;
  as_many = c.run.count;
  last = g;
  leads = subst (Leads m (opening_system m) c.run.actions) c.run.system
      (leads_there m c.run.actions (opening_run m) c.run.run c.run.is c.run.ticks);
  rest = c.rest;
  soon = λ cpu. omega (arith, c.soon cpu);
  ends = refl;
}

module _ (m : Machine) (machine : IsMachine m) (found : List Seen) (depth : ℕ) (is_whole : Bool)
    (ex : IsExplored (state_after m) (AreOfSet m) found depth is_whole) where
  ends : AreAllEnds (MayRest m) (state_in m (opening_system m)) found depth is_whole
  ends = all_ends (state_after m) (AreOfSet m) (MayRest m) found depth is_whole ex (kept m machine)
      (state_in m (opening_system m)) refl

  listed : (g : System) (events : ℕ) → IsLeastRun m events g → IsFoundIn found (state_in m g) events →
      IsListed m found g events
  listed g events r f =
      let led = state_led m (seen_at found f.place).schedule (seen_at found f.place).state
      (ex.all.reached f.place f.inside) in
      record {
        place = f.place;
        inside = f.inside;
        system = led.0;
        leads = led.1;
        similar = shifted_state m machine (length (seen_at found f.place).schedule) events led.0 g
            (least_run m (seen_at found f.place).schedule led.0 led.1) r (led.2 ∙ f.is);
        short = f.short;
      }

  pub rests_listed : AreRestsListed m found depth is_whole
  rests_listed = record {
    complete = λ g events c few. listed g events c.run (ends.complete events (state_in m g)
        (may_rest m events g c) few);
    whole = λ w g events c. listed g events c.run (ends.whole w events (state_in m g) (may_rest m events g c));
    shortest = λ i h g events inside leads c similar.
        let s = (seen_at found i).schedule in
        let led = state_led m s (seen_at found i).state (ex.all.reached i inside) in
        let same : h ≡ led.0 = some_is h led.0 (sym leads ∙ led.1) in
        let state : state_in m g ≡ (seen_at found i).state =
        sym (same_state m machine (length s) events h g (least_run m s h leads) c.run similar)
        ∙ ap (state_in m) same ∙ led.2 in
        ends.shortest i events inside
        (subst (MayRest m (state_in m (opening_system m)) events) state (may_rest m events g c));
  }

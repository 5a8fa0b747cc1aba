-- The transitions of a core run, in its order.
use Rattle.std.proofs.Common.{◌≡◌, ℕ, Option, Some, None, List, [], ◌∷◌, ◌++◌, map, refl, ap, sym, ◌∙◌, subst, append_assoc}
use Rattle.std.specs.Prelude.{slice_get}
use Rattle.std.specs.Option.{option_map}
use Rattle.std.proofs.lemmas.List.{append-nil}
use Rattle.l4_model.specs.Machine.{Machine}
use Rattle.l4_model.proofs.Chains.{bind_then, some_is}
use Rattle.l4_core_model.specs.Letters.{Letter}
use Rattle.l4_core_model.specs.Local.{Local}
use Rattle.l4_core_model.specs.Acts.{Work}
use Rattle.l4_core_model.specs.Runs.{System, letters, Action, Handles, Turns, Ticks, Happened, done, happens, Run, then_event, core_run}
use Rattle.l4_merge.specs.Transitions.{LocalEvent, Handled, Turned, Ticked, work_of, Transition, told_by, Does}
use Rattle.l4_merge.specs.LocalTraces.{Begins}
use Rattle.l4_merge.proofs.OneDeed.{given, IsGiven, done_by}
use Rattle.l4_merge.proofs.Ahead.{AreAhead, ahead_before}

-- What happens is a processor's transition.
pub record IsDeed (m : Machine) (g : System) (h : Happened) : Type 0 where
  pub transition : Transition
  pub local : Local
  pub at : slice_get g.locals transition.cpu ≡ Some local
  pub does : Does m transition.cpu local transition
  pub first : IsGiven transition.cpu transition.event g
  pub is : done_by transition g ≡ h

is_transition : (m : Machine) (g : System) (h : Happened) (cpu : ℕ) (event : LocalEvent) (l : Local) → slice_get g.locals cpu ≡ Some l → IsGiven cpu event g →
    option_map (done cpu (given cpu event g)) (work_of m cpu l event) ≡ Some h → IsDeed m g h
is_transition m g h cpu event l at first is = by (work_of m cpu l event) refl is
  where
    by : (o : Option Work) → work_of m cpu l event ≡ o → option_map (done cpu (given cpu event g)) o ≡ Some h → IsDeed m g h
    by None works is = absurd cc
    by (Some x) works is = record {
      transition = record { cpu = cpu; event = event; work = x };
      local = l;
      at = at;
      does = record { own = refl; work = works };
      first = first;
      is = some_is (done cpu (given cpu event g) x) h is;
    }

-- A letter that stands first begins the list.
first_of : (ls : List Letter) (letter : Letter) → slice_get ls 0 ≡ Some letter → Begins (letter ∷ []) ls
first_of [] letter h = absurd cc
first_of (l ∷ ls) letter h = record { rest = ls; is = ap (λ l. l ∷ ls) (some_is l letter h) }

pub transition_of : (m : Machine) (g : System) (e : Action) (h : Happened) → happens m g e ≡ Some h → IsDeed m g h
transition_of m g (Handles cpu from) h is =
    bind_then (slice_get g.locals cpu) _ h is λ l at is.
    bind_then (slice_get (letters g.mail from cpu) 0) _ h is λ letter first is.
    is_transition m g h cpu (Handled from letter) l at (first_of (letters g.mail from cpu) letter first) is
transition_of m g (Turns cpu) h is =
    bind_then (slice_get g.locals cpu) _ h is λ l at is.
    is_transition m g h cpu Turned l at tt is
transition_of m g (Ticks cpu clock) h is =
    bind_then (slice_get g.locals cpu) _ h is λ l at is.
    is_transition m g h cpu (Ticked clock) l at tt is

-- A core run's events are told by transitions that were to be done at its beginning, and have led to its end.
pub record HasDeeds (m : Machine) (before after : Run) : Type 0 where
  pub transitions : List Transition
  pub events : after.events ≡ before.events ++ map told_by transitions
  pub ahead : AreAhead m before.system transitions after.system.locals (letters after.system.mail)

pub has_transitions : (m : Machine) (es : List Action) (before after : Run) → core_run m before es ≡ Some after → HasDeeds m before after
has_transitions m [] before after is =
    subst (HasDeeds m before) (some_is before after is) (record {
      transitions = [];
      events = sym (append-nil before.events);
      ahead = record {
        size = refl;
        lead = λ cpu l at. record { end = l; at = at; lead = refl };
        mail = λ from to. append-nil (letters before.system.mail from to);
        within = tt;
        stamps = tt;
      };
    })
has_transitions m (e ∷ es) before after is =
    bind_then (happens m before.system e) _ after is λ h may is.
    let g = before.system in
    let of = transition_of m g e h may in
    let d = of.transition in
    let rest : HasDeeds m (then_event before (done_by d g)) after =
    subst (λ h. HasDeeds m (then_event before h) after) (sym of.is) (has_transitions m es (then_event before h) after is) in
    record {
      transitions = d ∷ rest.transitions;
      events = rest.events ∙ append_assoc before.events (told_by d ∷ []) (map told_by rest.transitions);
      ahead = ahead_before m g d rest.transitions after.system.locals (letters after.system.mail) of.local of.at of.does of.first rest.ahead;
    }

-- How far clocks go on.
use Rattle.std.proofs.Common.{◌≡◌, ℕ, ◌<◌, ◌≤◌, Bool, true, false, cond, Option, Some, None, List, [], ◌∷◌, refl, ap, sym, ◌∙◌, subst, arith}
use Rattle.std.specs.Prelude.{slice_get, ◌==◌}
use Rattle.std.specs.Option.{option_map}
use Rattle.std.proofs.lemmas.Bool.{eqb-true, ltb-true}
use Rattle.l4_model.specs.Words.{clock_limit}
use Rattle.l4_model.specs.Machine.{Machine}
use Rattle.l4_model.proofs.Chains.{bind_then}
use Rattle.l4_core_model.specs.Local.{Local}
use Rattle.l4_core_model.specs.Acts.{Work}
use Rattle.l4_core_model.specs.Turns.{advance}
use Rattle.l4_core_model.specs.Runs.{System, Action, Handles, Turns, Ticks, Happened, happens, done}
use Rattle.l4_core_model.proofs.Apart.{apart}
use Rattle.l4_refines.proofs.Events.{advance_then}
use Rattle.l4_merge.specs.Transitions.{LocalEvent, Handled, Turned, Ticked, Transition, is_turn, told_by, happened_by, letters_with, posted_by, handled_by, work_of, action_of, Does}
use Rattle.l4_merge.specs.LocalTraces.{LocalTrace, empty_past}
use Rattle.l4_merge.proofs.ClocksOfEvents.{turned_clock}
use Rattle.l4_merge.proofs.OneDeed.{done_by, own_local_then, other_local_then}
use Rattle.l4_persistent.specs.Persistent.{Leads, Done, Then}
use Rattle.l4_persistent.specs.Rests.{clock_in, clock_at}
use Rattle.l4_persistent.proofs.Swaps.{deed_of}

-- A turn keeps the clock.
turn_keeps : (m : Machine) (cpu : ℕ) (l : Local) (event : LocalEvent) (x : Work) → is_turn event ≡ true →
    work_of m cpu l event ≡ Some x →
    x.local.clock ≡ l.clock
turn_keeps m cpu l event x turns is = turned_clock m cpu (empty_past l) after (record {
  worked = record {
    transitions = one ∷ [];
    are = record {
      lead = (record { own = refl; work = is }, refl);
      events = refl;
      actions = refl;
      posted = λ to. refl;
      handled = λ from. refl;
    };
  };
  turns = (turns, tt);
})
  where
    one : Transition
    one = record { cpu = cpu; event = event; work = x }

    after : LocalTrace
    after = record {
      events = told_by one ∷ [];
      actions = happened_by one ∷ [];
      posted = λ to. letters_with to (posted_by (one ∷ []));
      handled = λ from. letters_with from (handled_by (one ∷ []));
      local = x.local;
    }

-- The clock that an event leaves a processor.
abbrev pub clock_behind : Action → System → (cpu : ℕ) → ℕ
clock_behind (Handles c from) g cpu = clock_at g cpu
clock_behind (Turns c) g cpu = clock_at g cpu
clock_behind (Ticks c clock) g cpu = cond (c == cpu) clock (clock_at g cpu)

-- A tick goes on.
abbrev pub GoesUp : Action → System → Type 0
GoesUp (Handles c from) g = Unit {0}
GoesUp (Turns c) g = Unit {0}
GoesUp (Ticks c clock) g = clock_at g c < clock

pub record HasClocks (g : System) (a : Action) (h : Happened) : Type 0 where
  pub clocks : (cpu : ℕ) → clock_at h.system cpu ≡ clock_behind a g cpu
  pub up : GoesUp a g

module _ (m : Machine) (g : System) (d : Transition) (l : Local) (at : slice_get g.locals d.cpu ≡ Some l) where
  -- What becomes of the clock of the processor, and of all others
  by_cpu : (cpu : ℕ) → ((d.cpu == cpu) ≡ true → clock_at (done_by d g).system cpu ≡ d.work.local.clock)
      × ((d.cpu == cpu) ≡ false → clock_at (done_by d g).system cpu ≡ clock_at g cpu)
  by_cpu cpu = (
    λ same. ap clock_in (own_local_then d g cpu l at (eqb-true d.cpu cpu same)),
    λ other. ap clock_in (other_local_then d g cpu (apart d.cpu cpu other)),
  )

  turned : d.work.local.clock ≡ l.clock → (cpu : ℕ) → clock_at (done_by d g).system cpu ≡ clock_at g cpu
  turned same cpu = by (d.cpu == cpu) refl
    where
      by : (b : Bool) → (d.cpu == cpu) ≡ b → clock_at (done_by d g).system cpu ≡ clock_at g cpu
      by true is = (by_cpu cpu).0 is ∙ same ∙ ap clock_in (sym at) ∙ ap (clock_at g) (eqb-true d.cpu cpu is)
      by false is = (by_cpu cpu).1 is

  ticked : (clock : ℕ) → d.work.local.clock ≡ clock → (cpu : ℕ) →
      clock_at (done_by d g).system cpu ≡ cond (d.cpu == cpu) clock (clock_at g cpu)
  ticked clock same cpu = by (d.cpu == cpu) refl
    where
      by : (b : Bool) → (d.cpu == cpu) ≡ b → clock_at (done_by d g).system cpu ≡ cond b clock (clock_at g cpu)
      by true is = (by_cpu cpu).0 is ∙ same
      by false is = (by_cpu cpu).1 is

deed_clocks : (m : Machine) (g : System) (d : Transition) (l : Local) → slice_get g.locals d.cpu ≡ Some l →
    Does m d.cpu l d →
    HasClocks g (action_of d.cpu d.event) (done_by d g)
deed_clocks m g d l at does = by d.event does.work
  where
    by : (event : LocalEvent) → work_of m d.cpu l event ≡ Some d.work →
        HasClocks g (action_of d.cpu event) (done_by d g)
    by (Handled from letter) is = record {
      clocks = turned m g d l at
          (turn_keeps m d.cpu l (Handled from letter) d.work refl is);
      up = tt;
    }
    by Turned is = record { clocks = turned m g d l at (turn_keeps m d.cpu l Turned d.work refl is); up = tt }
    by (Ticked clock) is =
        let went : (d.work.local.clock ≡ clock) × (l.clock < clock) =
        advance_then m d.cpu clock l d.work (λ (x : Work). (x.local.clock ≡ clock) × (l.clock < clock)) is
        (λ above below. (refl, ltb-true l.clock clock above)) in
        let here : clock_at g d.cpu ≡ l.clock = ap clock_in at in
        record { clocks = ticked m g d l at clock went.0; up = omega (arith, went.1, here) }

pub has_clocks : (m : Machine) (g : System) (a : Action) (h : Happened) → happens m g a ≡ Some h → HasClocks g a h
has_clocks m g a h is =
    let of = deed_of m g a h is in
    subst (λ (a : Action). HasClocks g a h) of.action
    (subst (HasClocks g (action_of of.transition.cpu of.transition.event)) of.is
    (deed_clocks m g of.transition of.local of.at of.does))

-- So no clock goes back.

pub rises : (m : Machine) (g : System) (a : Action) (h : Happened) → happens m g a ≡ Some h → (cpu : ℕ) →
    clock_at g cpu ≤ clock_at h.system cpu
rises m g a h is cpu = by a (has_clocks m g a h is)
  where
    by : (a : Action) → HasClocks g a h → clock_at g cpu ≤ clock_at h.system cpu
    by (Handles c from) k = omega (arith, k.clocks cpu)
    by (Turns c) k = omega (arith, k.clocks cpu)
    by (Ticks c clock) k = at (c == cpu) refl (k.clocks cpu)
      where
        at : (b : Bool) → (c == cpu) ≡ b → clock_at h.system cpu ≡ cond b clock (clock_at g cpu) →
            clock_at g cpu ≤ clock_at h.system cpu
        at true same now = let one : clock_at g c ≡ clock_at g cpu = ap (clock_at g) (eqb-true c cpu same) in omega
            (arith, now, one, k.up)
        at false other now = omega (arith, now)

pub all_rise : (m : Machine) (es : List Action) (g h : System) → Leads m g es h → (cpu : ℕ) →
    clock_at g cpu ≤ clock_at h cpu
all_rise m [] g h Done cpu = omega arith
all_rise m (a ∷ es) g h (Then x goes rest) cpu = omega (
  arith,
  rises m g a x goes.happens cpu,
  all_rise m es x.system h rest cpu,
)

-- What a tick goes to is a clock.
pub ticked_below : (m : Machine) (g : System) (cpu clock : ℕ) (h : Happened) → happens m g (Ticks cpu clock) ≡ Some h →
    clock < clock_limit
ticked_below m g cpu clock h is =
    bind_then (slice_get g.locals cpu) _ h is λ l at is.
    worked l (advance m cpu clock l) refl is
  where
    worked : (l : Local) (o : Option Work) → advance m cpu clock l ≡ o → option_map (done cpu g) o ≡ Some h →
        clock < clock_limit
    worked l None advanced is = cc
    worked l (Some x) advanced is = advance_then m cpu clock l x (λ x. clock < clock_limit) advanced
        (λ above below. ltb-true clock clock_limit below)

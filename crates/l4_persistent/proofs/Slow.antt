-- Between two ticks of a processor it does something else: in each of its events a clock goes on by at most half of the
-- longest period.
use Rattle.std.proofs.Common.{◌≡◌, ℕ, zero, suc, ◌+◌, ◌*◌, ◌/◌, ◌%◌, ◌<◌, ◌≤◌, Bool, true, false, cond, ◌==◌, nat_lt, Option, Some, None, List, [], ◌∷◌, map, refl, ap, sym, subst, ◌∙◌, arith}
use Rattle.std.specs.Prelude.{slice_get}
use Rattle.std.specs.Option.{option_map}
use Rattle.std.specs.List.{AllByRecursion}
use Rattle.std.proofs.lemmas.Bool.{le-ltb}
use Rattle.l4_model.specs.Words.{period_limit}
use Rattle.l4_model.specs.Machine.{Machine}
use Rattle.l4_model.specs.World.{changed}
use Rattle.l4_model.specs.Conditions.{◌>>=◌}
use Rattle.l4_model.proofs.Chains.{some_is, bind_then}
use Rattle.l4_core_model.specs.Local.{Local, opening_local}
use Rattle.l4_core_model.specs.Acts.{Work}
use Rattle.l4_core_model.specs.Turns.{advance, turn}
use Rattle.l4_core_model.specs.Mail.{handle}
use Rattle.l4_core_model.specs.Runs.{Action, Handles, Turns, Ticks, Happened, System, done, happens, letters, opening_system, processors, taken}
use Rattle.l4_core_model.specs.Schedules.{least_deadline, CoreOf, LetterOf, TickOf}
use Rattle.l4_refines.proofs.Events.{advance_then}
use Rattle.l4_merge.specs.Transitions.{Handled, LocalEvent, Transition, Turned, handled_by, happened_by, is_turn, letters_with, posted_by, told_by, work_of}
use Rattle.l4_merge.specs.LocalTraces.{LocalTrace, empty_past}
use Rattle.l4_merge.proofs.ClocksOfEvents.{turned_clock}
use Rattle.l4_states.specs.Choices.{IsNear, after_entry, choice}

-- A deadline that is due has to be dealt with before the next tick.
abbrev pub slack : (clock : ℕ) → List (ℕ × ℕ) → ℕ
slack clock [] = 0
slack clock (e ∷ es) = cond (nat_lt clock e.0) 0 period_limit

abbrev pub IsSlow : (events : ℕ) → Local → Type 0
IsSlow events l = l.clock + l.clock ≤ events * period_limit + slack l.clock l.lists.armed

abbrev pub AreSlow : (events : ℕ) → List Local → Type 0
AreSlow events ls = AllByRecursion (IsSlow events) ls

slack_most : (clock : ℕ) (armed : List (ℕ × ℕ)) → slack clock armed ≤ period_limit
slack_most clock [] = omega arith
slack_most clock (e ∷ es) = by (nat_lt clock e.0)
  where
    by : (b : Bool) → cond b 0 period_limit ≤ period_limit
    by true = omega arith
    by false = omega arith

pub slow_opening : (m : Machine) → AreSlow 0 (opening_system m).locals
slow_opening m = by (processors m)
  where
    by : (cpus : List ℕ) → AreSlow 0 (map (opening_local m) cpus)
    by [] = tt
    by (cpu ∷ cpus) = (omega arith, by cpus)

slow_later : (events : ℕ) (ls : List Local) → AreSlow events ls → AreSlow (events + 1) ls
slow_later events [] slow = tt
slow_later events (l ∷ ls) slow = (omega (arith, slow.0), slow_later events ls slow.1)

slow_changed : (events : ℕ) (x : Local) (ls : List Local) (cpu : ℕ) → IsSlow events x →
    AreSlow events ls → AreSlow events (changed (λ l. x) ls cpu)
slow_changed events x [] cpu one slow = tt
slow_changed events x (l ∷ ls) zero one slow = (one, slow.1)
slow_changed events x (l ∷ ls) (suc cpu) one slow = (slow.0, slow_changed events x ls cpu one slow.1)

slow_at : (events : ℕ) (ls : List Local) (cpu : ℕ) (l : Local) → AreSlow events ls →
    slice_get ls cpu ≡ Some l → IsSlow events l
slow_at events [] cpu l slow at = cc
slow_at events (x ∷ ls) zero l slow at = subst (IsSlow events) (some_is x l at) slow.0
slow_at events (x ∷ ls) (suc cpu) l slow at = slow_at events ls cpu l slow.1 at

-- No clock has gone on by more.
pub slow_clock : (events : ℕ) (ls : List Local) (cpu : ℕ) (l : Local) → AreSlow events ls →
    slice_get ls cpu ≡ Some l → l.clock + l.clock ≤ (events + 1) * period_limit
slow_clock events ls cpu l slow at =
    let one = slow_at events ls cpu l slow at in omega (arith, one, slack_most l.clock l.lists.armed)

-- A turn keeps the clock.
turn_keeps : (m : Machine) (cpu : ℕ) (l : Local) (event : LocalEvent) (x : Work) →
    is_turn event ≡ true → work_of m cpu l event ≡ Some x → x.local.clock ≡ l.clock
turn_keeps m cpu l event x turns is = turned_clock m cpu (empty_past l) after (record {
  worked = record {
    transitions = one ∷ [];
    are = record {
      lead = (record { own = refl; work = is }, refl);
      events = refl;
      actions = refl;
      posted = λ to. refl;
      handled = λ from. refl;
    };
  };
  turns = (turns, tt);
})
  where
    one : Transition
    one = record { cpu = cpu; event = event; work = x }

    after : LocalTrace
    after = record {
      events = told_by one ∷ [];
      actions = happened_by one ∷ [];
      posted = λ to. letters_with to (posted_by (one ∷ []));
      handled = λ from. letters_with from (handled_by (one ∷ []));
      local = x.local;
    }

-- After an event of a processor all clocks are slow if that of the processor is.
slow_done : (events cpu : ℕ) (g : System) (o : Option Work) (h : Happened) →
    option_map (done cpu g) o ≡ Some h → ((x : Work) → o ≡ Some x → IsSlow events x.local) →
    AreSlow events g.locals → AreSlow events h.system.locals
slow_done events cpu g None h is each slow = cc
slow_done events cpu g (Some x) h is each slow =
    subst (λ (k : Happened). AreSlow events k.system.locals) (some_is (done cpu g x) h is)
    (slow_changed events x.local g.locals cpu (each x refl) slow)

module _ (m : Machine) (g : System) (events : ℕ) (slow : AreSlow events g.locals) where
  later : AreSlow (events + 1) g.locals
  later = slow_later events g.locals slow

  kept : (cpu : ℕ) (l : Local) (x : Work) → slice_get g.locals cpu ≡ Some l →
      x.local.clock ≡ l.clock → IsSlow (events + 1) x.local
  kept cpu l x at same =
      let clock = slow_clock events g.locals cpu l slow at in omega (arith, clock, same)

  handled_slow : (cpu from : ℕ) (h : Happened) → happens m g (Handles cpu from) ≡ Some h →
      AreSlow (events + 1) h.system.locals
  handled_slow cpu from h is =
      bind_then (slice_get g.locals cpu) _ h is λ l at is.
      bind_then (slice_get (letters g.mail from cpu) 0) _ h is λ letter first is.
      slow_done (events + 1) cpu (taken from cpu g) (handle m cpu l letter) h is
      (λ x worked. kept cpu l x at (turn_keeps m cpu l (Handled from letter) x refl worked)) later

  turned_slow : (cpu : ℕ) (h : Happened) → happens m g (Turns cpu) ≡ Some h →
      AreSlow (events + 1) h.system.locals
  turned_slow cpu h is =
      bind_then (slice_get g.locals cpu) _ h is λ l at is.
      slow_done (events + 1) cpu g (turn m cpu l) h is
      (λ x worked. kept cpu l x at (turn_keeps m cpu l Turned x refl worked)) later

  -- Behind a tick the least deadline is due, and before it it was not.
  ticked : (clock to : ℕ) (armed : List (ℕ × ℕ)) → clock + clock ≤ events * period_limit + slack clock armed →
      option_map (λ e. e.0) (slice_get armed 0) ≡ Some to → nat_lt clock to ≡ true →
      to < clock + period_limit → to + to ≤ (events + 1) * period_limit + slack to armed
  ticked clock to [] low first above far = cc
  ticked clock to (e ∷ es) low first above far =
      let is : e.0 ≡ to = some_is e.0 to first in
      let before : slack clock (e ∷ es) ≡ 0 =
      ap (λ n. cond (nat_lt clock n) 0 period_limit) is ∙ ap (λ b. cond b 0 period_limit) above in
      let behind : slack to (e ∷ es) ≡ period_limit =
      ap (λ n. cond (nat_lt to n) 0 period_limit) is
      ∙ ap (λ b. cond b 0 period_limit) (le-ltb to to (omega arith)) in
      omega (arith, low, before, behind, far)

  ticked_slow : (cpu to : ℕ) (h : Happened) → least_deadline g cpu ≡ Some to → IsNear g cpu →
      happens m g (Ticks cpu to) ≡ Some h → AreSlow (events + 1) h.system.locals
  ticked_slow cpu to h least near is =
      bind_then (slice_get g.locals cpu) _ h is λ l at is.
      slow_done (events + 1) cpu g (advance m cpu to l) h is
      (λ x worked. advance_then m cpu to l x (λ y. IsSlow (events + 1) y.local) worked
      (λ above below.
      ticked l.clock to l.lists.armed (slow_at events g.locals cpu l slow at)
      (sym (ap (λ (o : Option Local). o >>= λ l. option_map (λ e. e.0) (slice_get l.lists.armed 0)) at) ∙ least)
      above (near l to at least))) later

  -- The state after an event
  led_slow : (action : Action) (next : System) →
      ((h : Happened) → happens m g action ≡ Some h → AreSlow (events + 1) h.system.locals) →
      option_map (λ h. h.system) (happens m g action) ≡ Some next →
      AreSlow (events + 1) next.locals
  led_slow action next each is = by (happens m g action) refl is
    where
      by : (o : Option Happened) → happens m g action ≡ o →
          option_map (λ h. h.system) o ≡ Some next → AreSlow (events + 1) next.locals
      by None at is = cc
      by (Some h) at is =
          subst (λ (k : System). AreSlow (events + 1) k.locals) (some_is h.system next is) (each h at)

  tick_slow : (cpu : ℕ) (next : System) → IsNear g cpu → after_entry m g (TickOf cpu) ≡ Some next →
      AreSlow (events + 1) next.locals
  tick_slow cpu next near is = by (least_deadline g cpu) refl is
    where
      by : (o : Option ℕ) → least_deadline g cpu ≡ o →
          (option_map (Ticks cpu) o >>= λ e. option_map (λ h. h.system) (happens m g e)) ≡ Some next →
          AreSlow (events + 1) next.locals
      by None at is = cc
      by (Some to) at is =
          led_slow (Ticks cpu to) next (λ h there. ticked_slow cpu to h at near there) is

  -- One choice more
  pub slow_next : (number : ℕ) (next : System) → IsNear g (number / (m.cpus + 2)) →
      after_entry m g (choice m number) ≡ Some next → AreSlow (events + 1) next.locals
  slow_next number next near = by (nat_lt k m.cpus) (k == m.cpus)
    where
      cpu : ℕ
      cpu = number / (m.cpus + 2)

      k : ℕ
      k = number % (m.cpus + 2)

      by : (own core : Bool) →
          after_entry m g (cond own (LetterOf cpu k) (cond core (CoreOf cpu) (TickOf cpu)))
          ≡ Some next → AreSlow (events + 1) next.locals
      by true core is = led_slow (Handles cpu k) next (handled_slow cpu k) is
      by false true is = led_slow (Turns cpu) next (turned_slow cpu) is
      by false false is = tick_slow cpu next near is

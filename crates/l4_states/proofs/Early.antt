-- After so few events no clock is near the limit of clocks.
use Rattle.std.proofs.Common.{◌≡◌, ℕ, zero, suc, ◌+◌, ◌*◌, ◌/◌, ◌%◌, ◌<◌, ◌≤◌, Bool, true, false, cond, ◌==◌, nat_lt, Option, Some, None, List, [], ◌∷◌, length, map, refl, subst, arith}
use Rattle.std.specs.Prelude.{slice_get}
use Rattle.std.specs.Option.{option_map}
use Rattle.std.specs.List.{AllByRecursion}
use Rattle.std.proofs.lemmas.Option.{slice_get_within}
use Rattle.l4_model.specs.Words.{period_limit}
use Rattle.l4_model.specs.Machine.{Machine}
use Rattle.l4_model.specs.World.{changed}
use Rattle.l4_model.specs.Conditions.{◌>>=◌}
use Rattle.l4_model.proofs.Chains.{some_is, bind_then}
use Rattle.l4_core_model.specs.Local.{Local, opening_local}
use Rattle.l4_core_model.specs.Acts.{Work}
use Rattle.l4_core_model.specs.Turns.{advance, turn}
use Rattle.l4_core_model.specs.Mail.{handle}
use Rattle.l4_core_model.specs.Runs.{Action, Handles, Turns, Ticks, Happened, System, done, happens, letters, opening_system, processors, taken}
use Rattle.l4_core_model.specs.Schedules.{least_deadline, CoreOf, LetterOf, TickOf}
use Rattle.l4_refines.proofs.Events.{advance_then}
use Rattle.l4_merge.specs.Transitions.{Handled, LocalEvent, Transition, Turned, handled_by, happened_by, is_turn, letters_with, posted_by, told_by, work_of}
use Rattle.l4_merge.specs.LocalTraces.{LocalTrace, empty_past}
use Rattle.l4_merge.proofs.ClocksOfEvents.{turned_clock}
use Rattle.l4_explore.specs.Tries.{deepest}
use Rattle.l4_states.specs.Choices.{IsEarly, IsNear, after_entry, choice}

-- Each event brings a clock on by less than the longest period.
abbrev pub AreLow : (events : ℕ) → List Local → Type 0
AreLow events ls = AllByRecursion (λ l. l.clock ≤ events * period_limit) ls

pub low_opening : (m : Machine) → AreLow 0 (opening_system m).locals
low_opening m = by (processors m)
  where
    by : (cpus : List ℕ) → AreLow 0 (map (opening_local m) cpus)
    by [] = tt
    by (cpu ∷ cpus) = (omega arith, by cpus)

low_later : (events : ℕ) (ls : List Local) → AreLow events ls → AreLow (events + 1) ls
low_later events [] low = tt
low_later events (l ∷ ls) low = (omega (arith, low.0), low_later events ls low.1)

low_changed : (events : ℕ) (x : Local) (ls : List Local) (cpu : ℕ) →
    x.clock ≤ events * period_limit → AreLow events ls →
    AreLow events (changed (λ l. x) ls cpu)
low_changed events x [] cpu le low = tt
low_changed events x (l ∷ ls) zero le low = (le, low.1)
low_changed events x (l ∷ ls) (suc cpu) le low = (low.0, low_changed events x ls cpu le low.1)

low_at : (events : ℕ) (ls : List Local) (cpu : ℕ) (l : Local) → AreLow events ls →
    slice_get ls cpu ≡ Some l → l.clock ≤ events * period_limit
low_at events [] cpu l low at = cc
low_at events (x ∷ ls) zero l low at =
    subst (λ (k : Local). k.clock ≤ events * period_limit) (some_is x l at) low.0
low_at events (x ∷ ls) (suc cpu) l low at = low_at events ls cpu l low.1 at

-- A turn keeps the clock.
turn_keeps : (m : Machine) (cpu : ℕ) (l : Local) (event : LocalEvent) (x : Work) →
    is_turn event ≡ true → work_of m cpu l event ≡ Some x → x.local.clock ≡ l.clock
turn_keeps m cpu l event x turns is = turned_clock m cpu (empty_past l) after (record {
  worked = record {
    transitions = one ∷ [];
    are = record {
      lead = (record { own = refl; work = is }, refl);
      events = refl;
      actions = refl;
      posted = λ to. refl;
      handled = λ from. refl;
    };
  };
  turns = (turns, tt);
})
  where
    one : Transition
    one = record { cpu = cpu; event = event; work = x }

    after : LocalTrace
    after = record {
      events = told_by one ∷ [];
      actions = happened_by one ∷ [];
      posted = λ to. letters_with to (posted_by (one ∷ []));
      handled = λ from. letters_with from (handled_by (one ∷ []));
      local = x.local;
    }

-- After an event of a processor all clocks are low if that of the processor is.
low_done : (events cpu : ℕ) (g : System) (o : Option Work) (h : Happened) →
    option_map (done cpu g) o ≡ Some h →
    ((x : Work) → o ≡ Some x → x.local.clock ≤ events * period_limit) → AreLow events g.locals →
    AreLow events h.system.locals
low_done events cpu g None h is each low = cc
low_done events cpu g (Some x) h is each low =
    subst (λ (k : Happened). AreLow events k.system.locals) (some_is (done cpu g x) h is)
    (low_changed events x.local g.locals cpu (each x refl) low)

module _ (m : Machine) (g : System) (events : ℕ) (low : AreLow events g.locals) where
  later : AreLow (events + 1) g.locals
  later = low_later events g.locals low

  kept : (cpu : ℕ) (l : Local) (x : Work) → slice_get g.locals cpu ≡ Some l →
      x.local.clock ≡ l.clock → x.local.clock ≤ (events + 1) * period_limit
  kept cpu l x at same = let le = low_at events g.locals cpu l low at in omega (arith, le, same)

  handled_low : (cpu from : ℕ) (h : Happened) → happens m g (Handles cpu from) ≡ Some h →
      AreLow (events + 1) h.system.locals
  handled_low cpu from h is =
      bind_then (slice_get g.locals cpu) _ h is λ l at is.
      bind_then (slice_get (letters g.mail from cpu) 0) _ h is λ letter first is.
      low_done (events + 1) cpu (taken from cpu g) (handle m cpu l letter) h is
      (λ x worked. kept cpu l x at (turn_keeps m cpu l (Handled from letter) x refl worked)) later

  turned_low : (cpu : ℕ) (h : Happened) → happens m g (Turns cpu) ≡ Some h →
      AreLow (events + 1) h.system.locals
  turned_low cpu h is =
      bind_then (slice_get g.locals cpu) _ h is λ l at is.
      low_done (events + 1) cpu g (turn m cpu l) h is
      (λ x worked. kept cpu l x at (turn_keeps m cpu l Turned x refl worked)) later

  ticked_low : (cpu to : ℕ) (h : Happened) → least_deadline g cpu ≡ Some to → IsNear g cpu →
      happens m g (Ticks cpu to) ≡ Some h → AreLow (events + 1) h.system.locals
  ticked_low cpu to h least near is =
      bind_then (slice_get g.locals cpu) _ h is λ l at is.
      low_done (events + 1) cpu g (advance m cpu to l) h is
      (λ x worked. advance_then m cpu to l x (λ y. y.local.clock ≤ (events + 1) * period_limit) worked
      (λ above below.
      let le = low_at events g.locals cpu l low at in
      let far = near l to at least in
      omega (arith, le, far))) later

  -- The state after an event
  led_low : (action : Action) (next : System) →
      ((h : Happened) → happens m g action ≡ Some h → AreLow (events + 1) h.system.locals) →
      option_map (λ h. h.system) (happens m g action) ≡ Some next →
      AreLow (events + 1) next.locals
  led_low action next each is = by (happens m g action) refl is
    where
      by : (o : Option Happened) → happens m g action ≡ o →
          option_map (λ h. h.system) o ≡ Some next → AreLow (events + 1) next.locals
      by None at is = cc
      by (Some h) at is =
          subst (λ (k : System). AreLow (events + 1) k.locals) (some_is h.system next is) (each h at)

  tick_low : (cpu : ℕ) (next : System) → IsNear g cpu → after_entry m g (TickOf cpu) ≡ Some next →
      AreLow (events + 1) next.locals
  tick_low cpu next near is = by (least_deadline g cpu) refl is
    where
      by : (o : Option ℕ) → least_deadline g cpu ≡ o →
          (option_map (Ticks cpu) o >>= λ e. option_map (λ h. h.system) (happens m g e)) ≡ Some next →
          AreLow (events + 1) next.locals
      by None at is = cc
      by (Some to) at is =
          led_low (Ticks cpu to) next (λ h there. ticked_low cpu to h at near there) is

  -- One choice more
  pub low_next : (number : ℕ) (next : System) → IsNear g (number / (m.cpus + 2)) →
      after_entry m g (choice m number) ≡ Some next → AreLow (events + 1) next.locals
  low_next number next near = by (nat_lt k m.cpus) (k == m.cpus)
    where
      cpu : ℕ
      cpu = number / (m.cpus + 2)

      k : ℕ
      k = number % (m.cpus + 2)

      by : (own core : Bool) →
          after_entry m g (cond own (LetterOf cpu k) (cond core (CoreOf cpu) (TickOf cpu)))
          ≡ Some next → AreLow (events + 1) next.locals
      by true core is = led_low (Handles cpu k) next (handled_low cpu k) is
      by false true is = led_low (Turns cpu) next (turned_low cpu) is
      by false false is = tick_low cpu next near is

  pub is_early : events < deepest → length g.locals ≡ m.cpus →
      ((cpu : ℕ) → cpu < m.cpus → IsNear g cpu) → IsEarly g
  is_early few size near cpu deadline least =
      bind_then (slice_get g.locals cpu) _ deadline least λ l at first.
      let le = low_at events g.locals cpu l low at in
      let inside = slice_get_within g.locals cpu l at in
      let far = near cpu (omega (arith, inside, size)) l deadline at least in
      omega (arith, few, le, far)

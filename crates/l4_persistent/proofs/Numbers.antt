-- Events whose ticks go to least deadlines are choices, and the reverse.
use Rattle.std.proofs.Common.{◌≡◌, ℕ, ◌+◌, ◌*◌, ◌/◌, ◌%◌, ◌<◌, ◌≤◌, Bool, true, false, cond, ◌==◌, nat_lt, ◌⊎◌, inl, inr, Option, Some, None, List, [], ◌∷◌, ◌++◌, refl, ap, sym, ◌∙◌, arith}
use Rattle.std.specs.Prelude.{slice_get}
use Rattle.std.specs.Option.{option_map}
use Rattle.std.proofs.lemmas.Bool.{cases_lt, lt-ltb, le-ltb, eq-eqb, eqb-true}
use Rattle.std.proofs.lemmas.Nat.{div-mul-add, mod-mul-add}
use Rattle.l4_model.specs.Machine.{Machine}
use Rattle.l4_model.specs.Conditions.{◌>>=◌}
use Rattle.l4_model.proofs.Chains.{some_is, bind_then}
use Rattle.l4_core_model.specs.Letters.{Letter}
use Rattle.l4_core_model.specs.Runs.{System, letters, Action, Handles, Turns, Ticks, Happened, happens, opening_system}
use Rattle.l4_core_model.specs.Schedules.{least_deadline, TickOf, LetterOf, CoreOf, entry_event}
use Rattle.l4_explore.specs.Tries.{State}
use Rattle.l4_states.specs.Choices.{choice_of, choice, after_entry, after_choices, state_in, state_after}
use Rattle.l4_states.proofs.Following.{after-append}
use Rattle.l4_states.proofs.Reached.{IsWithin}
use Rattle.l4_persistent.specs.Persistent.{cpu_of, Goes}
use Rattle.l4_persistent.specs.Rests.{processor_of}

-- An event has a number

letter_choice : (cpus cpu from : ℕ) → from < cpus → choice_of cpus cpu from ≡ LetterOf cpu from
letter_choice cpus cpu from lt =
    ap (λ b. cond b (LetterOf cpu from) (cond (from == cpus) (CoreOf cpu) (TickOf cpu))) (lt-ltb from cpus lt)

core_choice : (cpus cpu : ℕ) → choice_of cpus cpu cpus ≡ CoreOf cpu
core_choice cpus cpu =
    ap (λ b. cond b (LetterOf cpu cpus) (cond (cpus == cpus) (CoreOf cpu) (TickOf cpu)))
    (le-ltb cpus cpus (omega arith))
    ∙ ap (λ b. cond b (CoreOf cpu) (TickOf cpu)) (eq-eqb cpus cpus refl)

tick_choice : (cpus cpu : ℕ) → choice_of cpus cpu (cpus + 1) ≡ TickOf cpu
tick_choice cpus cpu =
    ap (λ b. cond b (LetterOf cpu (cpus + 1)) (cond ((cpus + 1) == cpus) (CoreOf cpu) (TickOf cpu)))
    (le-ltb (cpus + 1) cpus (omega arith))
    ∙ ap (λ b. cond b (CoreOf cpu) (TickOf cpu)) (other ((cpus + 1) == cpus) refl)
  where
    other : (b : Bool) → ((cpus + 1) == cpus) ≡ b → ((cpus + 1) == cpus) ≡ false
    other true e = absurd (let same = eqb-true (cpus + 1) cpus e in omega arith)
    other false e = e

pub record IsNumbered (m : Machine) (g : System) (a : Action) (h : Happened) : Type 0 where
  pub number : ℕ
  pub processor : processor_of m number ≡ cpu_of a
  pub leads : after_entry m g (choice m number) ≡ Some h.system

pub numbered : (m : Machine) (g : System) (a : Action) (h : Happened) → IsWithin m g → Goes m g a h → IsNumbered m g a h
numbered m g a h within goes = by a goes
  where
    at : (a : Action) (cpu k : ℕ) → k < m.cpus + 2 → cpu ≡ cpu_of a →
        entry_event m g (choice_of m.cpus cpu k) ≡ Some a → happens m g a ≡ Some h → IsNumbered m g a h
    at a cpu k lt own event is = record {
      number = cpu * (m.cpus + 2) + k;
      processor = div-mul-add cpu (m.cpus + 2) k lt ∙ own;
      leads =
          ap (λ c. after_entry m g (choice_of m.cpus c ((cpu * (m.cpus + 2) + k) % (m.cpus + 2))))
          (div-mul-add cpu (m.cpus + 2) k lt)
          ∙ ap (λ n. after_entry m g (choice_of m.cpus cpu n)) (mod-mul-add cpu (m.cpus + 2) k lt)
          ∙ ap (λ (o : Option Action). o >>= λ e. option_map (λ x. x.system) (happens m g e)) event
          ∙ ap (option_map (λ (x : Happened). x.system)) is;
    }

    by : (a : Action) → Goes m g a h → IsNumbered m g a h
    by (Handles cpu from) goes =
        let below : from < m.cpus = below_one (cases_lt from m.cpus) in
        at (Handles cpu from) cpu from (omega (arith, below)) refl
        (ap (entry_event m g) (letter_choice m.cpus cpu from below)) goes.happens
      where
        below_one : (from < m.cpus) ⊎ (m.cpus ≤ from) → from < m.cpus
        below_one (inl l) = l
        below_one (inr le) = absurd
            (bind_then (slice_get g.locals cpu) _ h goes.happens λ l there is.
            bind_then (slice_get (letters g.mail from cpu) 0) _ h is λ letter first is.
            let none = ap (λ (ls : List Letter). slice_get ls 0) (within.from from cpu le) in cc)
    by (Turns cpu) goes = at (Turns cpu) cpu m.cpus (omega arith) refl
        (ap (entry_event m g) (core_choice m.cpus cpu)) goes.happens
    by (Ticks cpu clock) goes =
        at (Ticks cpu clock) cpu (m.cpus + 1) (omega arith) refl
        (ap (entry_event m g) (tick_choice m.cpus cpu) ∙ ap (option_map (Ticks cpu)) goes.least) goes.happens

-- A number has an event

pub record IsEvent (m : Machine) (g : System) (number : ℕ) (k : System) : Type 0 where
  pub event : Action
  pub processor : cpu_of event ≡ processor_of m number
  pub behind : Happened
  pub goes : Goes m g event behind
  pub system : behind.system ≡ k

mapped : (o : Option Happened) (k : System) → option_map (λ (x : Happened). x.system) o ≡ Some k →
    (x : Happened) × ((o ≡ Some x) × (x.system ≡ k))
mapped None k is = cc
mapped (Some x) k is = (x, (refl, some_is x.system k is))

pub event_of : (m : Machine) (g : System) (number : ℕ) (k : System) → after_entry m g (choice m number) ≡ Some k →
    IsEvent m g number k
event_of m g number k is = by (nat_lt at m.cpus) (at == m.cpus) is
  where
    cpu : ℕ
    cpu = number / (m.cpus + 2)

    at : ℕ
    at = number % (m.cpus + 2)

    by : (own core : Bool) → after_entry m g (cond own (LetterOf cpu at) (cond core (CoreOf cpu) (TickOf cpu)))
        ≡ Some k → IsEvent m g number k
    by true core is =
        let x = mapped (happens m g (Handles cpu at)) k is in
        record {
          event = Handles cpu at;
          processor = refl;
          behind = x.0;
          goes = record { happens = x.1.0; least = tt };
          system = x.1.1;
        }
    by false true is =
        let x = mapped (happens m g (Turns cpu)) k is in
        record {
          event = Turns cpu;
          processor = refl;
          behind = x.0;
          goes = record { happens = x.1.0; least = tt };
          system = x.1.1;
        }
    by false false is = ticks (least_deadline g cpu) refl is
      where
        ticks : (o : Option ℕ) → least_deadline g cpu ≡ o →
            (option_map (Ticks cpu) o >>= λ e. option_map (λ (x : Happened). x.system) (happens m g e)) ≡ Some k →
            IsEvent m g number k
        ticks None least is = cc
        ticks (Some clock) least is =
            let x = mapped (happens m g (Ticks cpu clock)) k is in
            record {
              event = Ticks cpu clock;
              processor = refl;
              behind = x.0;
              goes = record { happens = x.1.0; least = least };
              system = x.1.1;
            }

-- One more entry of a schedule

pub one_entry : (m : Machine) (s : List ℕ) (g k : System) (number : ℕ) → after_choices m (opening_system m) s ≡ Some g →
    after_entry m g (choice m number) ≡ Some k →
    state_after m (s ++ number ∷ []) ≡ Some (state_in m k)
one_entry m s g k number leads is =
    ap (option_map (state_in m)) (after-append m (opening_system m) s number
    ∙ ap (λ (o : Option System). o >>= λ h. after_entry m h (choice m number)) leads ∙ is)

pub entry_leads : (m : Machine) (s : List ℕ) (g : System) (number : ℕ) (a : State) →
    after_choices m (opening_system m) s ≡ Some g →
    state_after m (s ++ number ∷ []) ≡ Some a → (k : System)
    × ((after_entry m g (choice m number) ≡ Some k) × (state_in m k ≡ a))
entry_leads m s g number a leads is =
    by (after_entry m g (choice m number)) refl
    (ap (option_map (state_in m)) (sym (after-append m (opening_system m) s number
    ∙ ap (λ (o : Option System). o >>= λ h. after_entry m h (choice m number)) leads)) ∙ is)
  where
    by : (o : Option System) → after_entry m g (choice m number) ≡ o → option_map (state_in m) o ≡ Some a →
        (k : System) × ((after_entry m g (choice m number) ≡ Some k) × (state_in m k ≡ a))
    by None at is = cc
    by (Some k) at is = (k, (at, some_is (state_in m k) a is))

-- A core run whose ticks go to least deadlines is a list of choices, and the reverse.
use Rattle.std.proofs.Common.{◌≡◌, ℕ, suc, ◌+◌, ◌*◌, ◌/◌, ◌%◌, ◌<◌, ◌≤◌, Bool, true, false, cond, ◌==◌, nat_lt, ◌⊎◌, inl, inr, Option, Some, None, List, [], ◌∷◌, length, refl, ap, sym, subst, ◌∙◌, arith}
use Rattle.std.specs.Prelude.{slice_get}
use Rattle.std.specs.Option.{option_map}
use Rattle.std.proofs.lemmas.Bool.{cases_lt, lt-ltb, le-ltb, eq-eqb, eqb-true}
use Rattle.std.proofs.lemmas.Nat.{div-mul-add, mod-mul-add}
use Rattle.l4_model.specs.Machine.{Machine}
use Rattle.l4_model.specs.Conditions.{◌>>=◌}
use Rattle.l4_model.proofs.Chains.{some_is, bind_then}
use Rattle.l4_core_model.specs.Letters.{Letter}
use Rattle.l4_core_model.specs.Runs.{System, letters, Action, Handles, Turns, Ticks, Happened, happens, Run, core_run, opening_run, opening_system, then_event}
use Rattle.l4_core_model.specs.Schedules.{least_deadline, TickOf, LetterOf, CoreOf, entry_event}
use Rattle.l4_states.specs.Choices.{choice_of, choice, after_entry, after_choices, IsLeastTick, AreLeastTicks, IsLeastRun}
use Rattle.l4_states.proofs.Reached.{IsBounded, opening_bounded, handles_at, turns_at, ticks_at, from_below}

-- What happens is a choice, and the state after it is within bounds.
record IsChoice (m : Machine) (g : System) (e : Action) (h : Happened) : Type 0 where
  pub cpu : ℕ
  pub k : ℕ
  pub small : k < m.cpus + 2
  pub event : entry_event m g (choice_of m.cpus cpu k) ≡ Some e
  pub bounded : IsBounded m h.system

letter_choice : (cpus cpu from : ℕ) → from < cpus → choice_of cpus cpu from ≡ LetterOf cpu from
letter_choice cpus cpu from lt =
    ap (λ b. cond b (LetterOf cpu from) (cond (from == cpus) (CoreOf cpu) (TickOf cpu)))
    (lt-ltb from cpus lt)

core_choice : (cpus cpu : ℕ) → choice_of cpus cpu cpus ≡ CoreOf cpu
core_choice cpus cpu =
    ap (λ b. cond b (LetterOf cpu cpus) (cond (cpus == cpus) (CoreOf cpu) (TickOf cpu)))
    (le-ltb cpus cpus (omega arith))
    ∙ ap (λ b. cond b (CoreOf cpu) (TickOf cpu)) (eq-eqb cpus cpus refl)

tick_choice : (cpus cpu : ℕ) → choice_of cpus cpu (cpus + 1) ≡ TickOf cpu
tick_choice cpus cpu =
    ap (λ b. cond b (LetterOf cpu (cpus + 1)) (cond ((cpus + 1) == cpus) (CoreOf cpu) (TickOf cpu)))
    (le-ltb (cpus + 1) cpus (omega arith))
    ∙ ap (λ b. cond b (CoreOf cpu) (TickOf cpu)) (other ((cpus + 1) == cpus) refl)
  where
    other : (b : Bool) → ((cpus + 1) == cpus) ≡ b → ((cpus + 1) == cpus) ≡ false
    other true e = absurd (let same = eqb-true (cpus + 1) cpus e in omega arith)
    other false e = e

is_choice : (m : Machine) (g : System) (e : Action) (h : Happened) → IsBounded m g →
    happens m g e ≡ Some h → IsLeastTick g e → IsChoice m g e h
is_choice m g (Handles cpu from) h b is tick =
    let a = handles_at m g cpu from h b is in
    let below : from < m.cpus = below_one (cases_lt from m.cpus) in
    record {
      cpu = cpu;
      k = from;
      small = omega (arith, below);
      event = ap (entry_event m g) (letter_choice m.cpus cpu from below);
      bounded = a.bounded;
    }
  where
    below_one : (from < m.cpus) ⊎ (m.cpus ≤ from) → from < m.cpus
    below_one (inl l) = l
    below_one (inr le) = absurd
        (bind_then (slice_get g.locals cpu) _ h is λ l there is.
        bind_then (slice_get (letters g.mail from cpu) 0) _ h is λ letter first is.
        let none = ap (λ (ls : List Letter). slice_get ls 0)
        (from_below m.cpus from cpu g.mail b.mail le) in cc)
is_choice m g (Turns cpu) h b is tick =
    let a = turns_at m g cpu h b is in
    record {
      cpu = cpu;
      k = m.cpus;
      small = omega arith;
      event =
          ap (entry_event m g) (core_choice m.cpus cpu);
      bounded = a.bounded;
    }
is_choice m g (Ticks cpu clock) h b is tick =
    let a = ticks_at m g cpu clock h b is in
    record {
      cpu = cpu;
      k = m.cpus + 1;
      small = omega arith;
      event = ap (entry_event m g) (tick_choice m.cpus cpu) ∙ ap (option_map (Ticks cpu)) tick;
      bounded = a.bounded;
    }

-- A choice has a number.
numbered : (m : Machine) (cpu k : ℕ) → k < m.cpus + 2 →
    choice m (cpu * (m.cpus + 2) + k) ≡ choice_of m.cpus cpu k
numbered m cpu k lt =
    ap (λ c. choice_of m.cpus c ((cpu * (m.cpus + 2) + k) % (m.cpus + 2)))
    (div-mul-add cpu (m.cpus + 2) k lt)
    ∙ ap (choice_of m.cpus cpu) (mod-mul-add cpu (m.cpus + 2) k lt)

chosen_next : (m : Machine) (g : System) (e : Action) (h : Happened) (c : IsChoice m g e h) →
    happens m g e ≡ Some h →
    after_entry m g (choice m (c.cpu * (m.cpus + 2) + c.k)) ≡ Some h.system
chosen_next m g e h c is =
    ap (after_entry m g) (numbered m c.cpu c.k c.small)
    ∙ ap (λ (o : Option Action). o >>= λ e. option_map (λ x. x.system) (happens m g e)) c.event
    ∙ ap (option_map (λ (x : Happened). x.system)) is

-- The choices of a run, and their number.
pub record AreChosen (m : Machine) (g h : System) (count : ℕ) : Type 0 where
  pub schedule : List ℕ
  pub leads : after_choices m g schedule ≡ Some h
  pub long : length schedule ≡ count

onward : (m : Machine) (es : List Action) (r t : Run) → IsBounded m r.system →
    core_run m r es ≡ Some t → AreLeastTicks m r es →
    AreChosen m r.system t.system (length es)
onward m [] r t b is ticks =
    record { schedule = []; leads = ap (option_map (λ (u : Run). u.system)) is; long = refl }
onward m (e ∷ es) r t b is ticks =
    bind_then (happens m r.system e) _ t is λ h at rest.
    let c = is_choice m r.system e h b at ticks.0 in
    let o = onward m es (then_event r h) t c.bounded rest (ticks.1 h at) in
    record {
      schedule = (c.cpu * (m.cpus + 2) + c.k) ∷ o.schedule;
      leads = ap (λ (p : Option System). p >>= λ k. after_choices m k o.schedule)
          (chosen_next m r.system e h c at) ∙ o.leads;
      long = ap suc o.long;
    }

pub are_chosen : (m : Machine) (events : ℕ) (g : System) → IsLeastRun m events g →
    AreChosen m (opening_system m) g events
are_chosen m events g r =
    let o = onward m r.actions (opening_run m) r.run (opening_bounded m) r.is r.ticks in
    record {
      schedule = o.schedule;
      leads = o.leads ∙ ap (λ (k : System). Some k) r.system;
      long =
          o.long ∙ r.count;
    }

-- The other way round: each choice is an event whose tick goes to the least deadline.

choice_event : (m : Machine) (g : System) (cpu k : ℕ) (e : Action) →
    entry_event m g (choice_of m.cpus cpu k) ≡ Some e → IsLeastTick g e
choice_event m g cpu k e h = by (nat_lt k m.cpus) (k == m.cpus) h
  where
    by : (b c : Bool) → entry_event m g (cond b (LetterOf cpu k) (cond c (CoreOf cpu) (TickOf cpu)))
        ≡ Some e → IsLeastTick g e
    by true c h = subst (IsLeastTick g) (some_is (Handles cpu k) e h) tt
    by false true h = subst (IsLeastTick g) (some_is (Turns cpu) e h) tt
    by false false h = at (least_deadline g cpu) refl h
      where
        at : (o : Option ℕ) → least_deadline g cpu ≡ o → option_map (Ticks cpu) o ≡ Some e →
            IsLeastTick g e
        at None is h = cc
        at (Some clock) is h = subst (IsLeastTick g) (some_is (Ticks cpu clock) e h) is

pub record GoesLeast (m : Machine) (r : Run) (g : System) (s : List ℕ) : Type 0 where
  pub actions : List Action
  pub run : Run
  pub is : core_run m r actions ≡ Some run
  pub ticks : AreLeastTicks m r actions
  pub system : run.system ≡ g
  pub count : length actions ≡ length s

goes_least : (m : Machine) (s : List ℕ) (r : Run) (g : System) →
    after_choices m r.system s ≡ Some g → GoesLeast m r g s
goes_least m [] r g h =
    record {
      actions = [];
      run = r;
      is = refl;
      ticks = tt;
      system = some_is r.system g h;
      count =
          refl;
    }
goes_least m (e ∷ s) r g h =
    bind_then (after_entry m r.system (choice m e)) _ g h λ k is more.
    bind_then (entry_event m r.system (choice m e)) _ k is λ action from then.
    one_more k action from more (happens m r.system action) refl then
    (λ x same. goes_least m s (then_event r x) g
    (ap (λ (j : System). after_choices m j s) same ∙ more))
  where
    one_more : (k : System) (action : Action) →
        entry_event m r.system (choice m e) ≡ Some action → after_choices m k s ≡ Some g →
        (o : Option Happened) → happens m r.system action ≡ o →
        option_map (λ x. x.system) o ≡ Some k →
        ((x : Happened) → x.system ≡ k → GoesLeast m (then_event r x) g s) → GoesLeast m r g (e ∷ s)
    one_more k action from more None at is rest = cc
    one_more k action from more (Some x) at is rest =
        let goes = rest x (some_is x.system k is) in
        record {
          actions = action ∷ goes.actions;
          run = goes.run;
          is = ap (λ (o : Option Happened). o >>= λ h. core_run m (then_event r h) goes.actions)
              at ∙ goes.is;
          ticks = (
            choice_event m r.system (e / (m.cpus + 2)) (e % (m.cpus + 2)) action from,
            λ h there.
                subst (λ (y : Happened). AreLeastTicks m (then_event r y) goes.actions)
                (some_is x h (sym at ∙ there)) goes.ticks,
          );
          system = goes.system;
          count = ap suc goes.count;
        }

pub least_run : (m : Machine) (s : List ℕ) (g : System) →
    after_choices m (opening_system m) s ≡ Some g → IsLeastRun m (length s) g
least_run m s g h =
    let r = goes_least m s (opening_run m) g h in
    record {
      actions = r.actions;
      run = r.run;
      is = r.is;
      ticks = r.ticks;
      system =
          r.system;
      count = r.count;
    }

-- The choices of a persistent set are enough for each end.
use Rattle.std.proofs.Common.{◌≡◌, ℕ, zero, suc, ◌+◌, ◌<◌, ◌≤◌, inl, inr, Bool, true, false, Option, Some, None, List, [], ◌∷◌, ◌++◌, map, length, refl, ap, sym, ◌∙◌, subst, arith}
use Rattle.std.specs.Prelude.{slice_get, ◌==◌, ◌&&◌, not, is_some}
use Rattle.std.specs.Option.{option_map}
use Rattle.std.specs.List.{list_all, range_with_len}
use Rattle.std.proofs.lemmas.Bool.{eqb-true, and_parts}
use Rattle.std.proofs.lemmas.Option.{slice_get_within}
use Rattle.l4_model.specs.Machine.{Machine}
use Rattle.l4_model.specs.Conditions.{◌>>=◌}
use Rattle.l4_model.proofs.Chains.{some_is, bind_then}
use Rattle.l4_core_model.specs.Letters.{Letter}
use Rattle.l4_core_model.specs.Local.{Local}
use Rattle.l4_core_model.specs.Turns.{Choice, choice as core_choice, is_busy, does_choice, opened}
use Rattle.l4_core_model.specs.Runs.{System, Action, Handles, Turns, Ticks, Happened, happens, done, letters, Run, IsMachine, then_event, core_run, opening_run, processors, is_empty, local_at_rest, at_rest}
use Rattle.l4_core_model.proofs.Apart.{apart}
use Rattle.l4_refines.proofs.Rest.Idle.{none_posted}
use Rattle.l4_bisimilar.specs.Shifted.{IsShifted}
use Rattle.l4_bisimilar.proofs.Numbers.{pared_contents}
use Rattle.l4_bisimilar.proofs.Times.{bare_local, are_shifted}
use Rattle.l4_explore.specs.Tries.{State, Next}
use Rattle.l4_explore.specs.Search.{Seen}
use Rattle.l4_explore.specs.Inner.Ends.{IsNearer, AreKept}
use Rattle.l4_states.specs.Choices.{state_in, IsLeastTick, AreLeastTicks, IsLeastRun}
use Rattle.l4_states.proofs.Reached.{run_within, IsWithin}
use Rattle.l4_states.proofs.Following.{code_similar, similar_state, at_rest_similar}
use Rattle.l4_states.proofs.Chosen.{are_chosen, least_run}
use Rattle.l4_persistent.specs.Persistent.{cpu_of, AreSame, Goes, Leads, Done, Then, AreIdle}
use Rattle.l4_persistent.specs.Inner.Ends.{everybody, CanGoOn, MayRest, AreOfSet}
use Rattle.l4_persistent.specs.Rests.{horizon, clock_in, clock_at}
use Rattle.l4_persistent.proofs.Sets.{begins_inside}
use Rattle.l4_persistent.proofs.Silent.{goes_append}
use Rattle.l4_persistent.proofs.Clocks.{rises}
use Rattle.l4_persistent.proofs.Numbers.{numbered, event_of, one_entry, entry_leads}
use Rattle.l4_persistent.proofs.Followed.{AreFollowed, follow_all}

-- At rest nothing can happen.

at_each : (p : ℕ → Bool) (a n i : ℕ) → list_all p (range_with_len a n) ≡ true → a ≤ i → i < a + n → p i ≡ true
at_each p a zero i h le lt = absurd (omega arith)
at_each p a (suc n) i h le lt =
    by (i == a) refl (and_parts (p a) (list_all p (range_with_len (a + 1) n)) h)
    (λ t below. at_each p (a + 1) n i t below (omega arith))
  where
    by : (b : Bool) → (i == a) ≡ b → (p a ≡ true) × (list_all p (range_with_len (a + 1) n) ≡ true) →
        (list_all p (range_with_len (a + 1) n) ≡ true → a + 1 ≤ i → p i ≡ true) → p i ≡ true
    by true is t rest = ap p (eqb-true i a is) ∙ t.0
    by false is t rest = let ne = apart i a is in rest t.1 (omega arith)

pub rest_idle : (m : Machine) (g : System) → IsWithin m g → at_rest m g ≡ true → (a : Action) (h : Happened) →
    Goes m g a h → ⊥
rest_idle m g within rest a h goes = by a goes.happens goes.least
  where
    -- What its processor has
    resting : (cpu : ℕ) (l : Local) → slice_get g.locals cpu ≡ Some l →
        (not (is_busy m cpu l) && is_empty l.lists.armed) ≡ true
    resting cpu l at =
        let all = (and_parts (list_all (local_at_rest m g) (processors m)) (is_empty g.mail) rest).0 in
        let lt : cpu < m.cpus = omega (arith, slice_get_within g.locals cpu l at, within.locals) in
        let here : local_at_rest m g cpu ≡ true = at_each (local_at_rest m g) 0 m.cpus cpu all (omega arith)
        (omega arith) in
        let same : local_at_rest m g cpu ≡ (not (is_busy m cpu l) && is_empty l.lists.armed) = rw at refl in
        sym same ∙ here

    by : (a : Action) → happens m g a ≡ Some h → IsLeastTick g a → ⊥
    by (Handles cpu from) is least =
        bind_then (slice_get g.locals cpu) _ h is λ l at is.
        bind_then (slice_get (letters g.mail from cpu) 0) _ h is λ letter first is.
        let none : letters g.mail from cpu ≡ [] = ap (λ ps. letters ps from cpu) (none_posted m g rest) in
        let empty = ap (λ (ls : List Letter). slice_get ls 0) none in
        cc
    by (Turns cpu) is least =
        bind_then (slice_get g.locals cpu) _ h is λ l at is.
        idle l (core_choice m cpu l) refl (and_parts (not (is_busy m cpu l)) (is_empty l.lists.armed)
        (resting cpu l at)).0 is
      where
        idle : (l : Local) (o : Option Choice) → core_choice m cpu l ≡ o → not (is_busy m cpu l) ≡ true →
            option_map (done cpu g) (option_map (λ c. does_choice m cpu c (opened 0 l)) o) ≡ Some h → ⊥
        idle l None at rests is = cc
        idle l (Some c) at rests is = let busy : is_busy m cpu l ≡ true = ap (λ o. is_some o) at in cc
    by (Ticks cpu clock) is least =
        bind_then (slice_get g.locals cpu) _ clock least λ l at first.
        none l.lists.armed (and_parts (not (is_busy m cpu l)) (is_empty l.lists.armed) (resting cpu l at)).1 first
      where
        none : (es : List (ℕ × ℕ)) → is_empty es ≡ true → option_map (λ (e : ℕ × ℕ). e.0) (slice_get es 0)
            ≡ Some clock → ⊥
        none [] empty first = cc
        none (e ∷ es) empty first = cc

-- A longer run

ticks_append : (m : Machine) (es : List Action) (r t : Run) (a : Action) → core_run m r es ≡ Some t →
    AreLeastTicks m r es → IsLeastTick t.system a → AreLeastTicks m r (es ++ a ∷ [])
ticks_append m [] r t a is ticks least =
    let same = some_is r t is in
    (subst (λ (r : Run). IsLeastTick r.system a) (sym same) least, λ h at. tt)
ticks_append m (e ∷ es) r t a is ticks least = (
  ticks.0,
  λ h at.
      ticks_append m es (then_event r h) t a (sym (ap (λ (o : Option Happened). o >>= λ h. core_run m
      (then_event r h) es) at) ∙ is) (ticks.1 h at) least,
)

length_last : (es : List Action) (a : Action) → length (es ++ a ∷ []) ≡ length es + 1
length_last [] a = refl
length_last (e ∷ es) a = omega (arith, length_last es a)

least_next : (m : Machine) (events : ℕ) (g : System) (a : Action) (h : Happened) → IsLeastRun m events g →
    Goes m g a h → IsLeastRun m (events + 1) h.system
least_next m events g a h r goes =
    let at : Goes m r.run.system a h = subst (λ g. Goes m g a h) (sym r.system) goes in
    record {
      actions = r.actions ++ a ∷ [];
      run = then_event r.run h;
      is = goes_append m r.actions (opening_run m) r.run a h r.is at.happens;
      ticks = ticks_append m r.actions (opening_run m) r.run a r.is r.ticks at.least;
      system = refl;
      count = length_last r.actions a ∙ ap (λ n. n + 1) r.count;
    }

least_more : (m : Machine) (es : List Action) (events : ℕ) (g h : System) → IsLeastRun m events g → Leads m g es h →
    (n : ℕ) × IsLeastRun m n h
least_more m [] events g h r Done = (events, r)
least_more m (a ∷ es) events g h r (Then x goes rest) = least_more m es (events + 1) x.system h
    (least_next m events g a x r goes) rest

-- States

same_shifted : (g h : System) → AreSame g h → IsShifted g h
same_shifted g h same = are_shifted g h (record {
  locals = ap (map bare_local) same.locals;
  mail = λ from to. ap pared_contents (same.mail from to);
})

in_choices : (m : Machine) (choices : List Next) (place : ℕ) (n : Next) (more : ℕ) (end : State) →
    slice_get choices place ≡ Some n → MayRest m n.state more end →
    IsNearer (MayRest m) choices more end
in_choices m [] place n more end at e = cc
in_choices m (x ∷ xs) zero n more end at e = inl (subst (λ (n : Next). MayRest m n.state more end)
    (sym (some_is x n at)) e)
in_choices m (x ∷ xs) (suc place) n more end at e = inr (in_choices m xs place n more end at e)

module _ (m : Machine) (machine : IsMachine m) where
  pub same_state : (a b : ℕ) (g h : System) → IsLeastRun m a g → IsLeastRun m b h → IsShifted g h →
      state_in m g ≡ state_in m h
  same_state a b g h in_g in_h shifted =
      let c = are_chosen m a g in_g in
      let d = are_chosen m b h in_h in
      similar_state m machine c.schedule d.schedule g h c.leads d.leads shifted

  pub shifted_state : (a b : ℕ) (g h : System) → IsLeastRun m a g → IsLeastRun m b h → state_in m g ≡ state_in m h →
      IsShifted g h
  shifted_state a b g h in_g in_h same =
      let c = are_chosen m a g in_g in
      let d = are_chosen m b h in_h in
      code_similar m machine c.schedule d.schedule g h c.leads d.leads (ap (λ (s : State). s.code) same)

  within : (events : ℕ) (g : System) → IsLeastRun m events g → IsWithin m g
  within events g r = subst (IsWithin m) r.system (run_within m r.actions r.run machine r.is)

  here : (state end : State) → MayRest m state 0 end → state ≡ end
  here state end e = sym e.is ∙ ap (state_in m) (none e.system e.last e.events e.as_many e.leads) ∙ e.ends
    where
      none : (g h : System) (es : List Action) → length es ≡ 0 → Leads m g es h → g ≡ h
      none g h [] size Done = refl
      none g h (a ∷ es) size leads = absurd (omega (arith, size))

  nearer : (before : List Seen) (seen : Seen) (choices : List Next) → AreOfSet m before seen choices →
      (more : ℕ) (end : State) →
      MayRest m seen.state (more + 1) end → IsNearer (MayRest m) choices more end
  nearer before seen choices o more end e =
      by (o.some (can followed.events followed.leads followed.as_many))
    where
      in_o : IsLeastRun m (length seen.schedule) o.system
      in_o = least_run m seen.schedule o.system o.leads

      similar : IsShifted e.system o.system
      similar = shifted_state e.before (length seen.schedule) e.system o.system e.reached in_o (e.is ∙ sym o.is)

      bound : ℕ → ℕ
      bound cpu = clock_at o.system cpu + horizon

      followed : AreFollowed m machine e.events e.last o.system (λ cpu. clock_at o.system cpu + horizon)
      followed =
          let run_e = e.reached.run in
          let run_o = in_o.run in
          subst (λ (g : System). AreFollowed m machine e.events e.last g
          (λ cpu. clock_at o.system cpu + horizon)) in_o.system
          (follow_all m machine e.events run_e run_o e.last (λ cpu. clock_at o.system cpu + horizon) (
            e.reached.actions,
            e.reached.is,
          ) (in_o.actions, in_o.is)
          (subst (λ (g : System). IsShifted g run_o.system) (sym e.reached.system)
          (subst (IsShifted e.system) (sym in_o.system) similar))
          (subst (λ (g : System). Leads m g e.events e.last) (sym e.reached.system) e.leads)
          (λ cpu. omega (arith, o.early cpu))
          (λ cpu.
          let at_e : clock_at run_e.system cpu ≡ clock_at e.system cpu = ap (λ g. clock_at g cpu) e.reached.system in
          let at_o : clock_at run_o.system cpu ≡ clock_at o.system cpu = ap (λ g. clock_at g cpu) in_o.system in
          omega (arith, e.soon cpu, at_e, at_o)))

      -- An event of the set begins a run to that end.
      begun : (a : Action) (x : Happened) → o.set (cpu_of a) ≡ true → Goes m o.system a x →
          IsNearer (MayRest m) choices more end
      begun a x inside goes =
          let f = followed in
          let rests : at_rest m f.end ≡ true = sym (at_rest_similar m e.last f.end f.shifted) ∙ e.rest in
          let in_f = least_more m f.events (length seen.schedule) o.system f.end in_o f.leads in
          let idle : AreIdle m f.end o.set = λ b y inside goes. rest_idle m f.end
          (within in_f.0 f.end in_f.1) rests b y goes in
          let i = begins_inside m o.system o.set a x f.events f.end o.persistent inside goes f.leads idle in
          let n = numbered m o.system i.first i.after (within (length seen.schedule) o.system in_o) i.goes in
          let offered = o.all n.number (state_in m i.after.system) (ap o.set n.processor ∙ i.inside)
          (one_entry m seen.schedule o.system i.after.system n.number o.leads n.leads) in
          let in_after = least_next m (length seen.schedule) o.system i.first i.after in_o i.goes in
          let in_last = least_more m i.rest (length seen.schedule + 1) i.after.system i.last in_after i.leads in
          let in_e = least_more m e.events e.before e.system e.last e.reached e.leads in
          let ends : state_in m i.last ≡ state_in m e.last =
          sym (same_state in_f.0 in_last.0 f.end i.last in_f.1 in_last.1 (same_shifted f.end i.last i.same))
          ∙ sym (same_state in_e.0 in_f.0 e.last f.end in_e.1 in_f.1 f.shifted) in
          in_choices m choices offered.place (record {
            entry = n.number;
            state = state_in m i.after.system;
          }) more end offered.is (record {
            before = length seen.schedule + 1;
            system = i.after.system;
            reached = in_after;
            is = refl;
            events = i.rest;
            as_many = omega (arith, e.as_many, f.as_many, i.long);
            last = i.last;
            leads = i.leads;
            rest = ap (λ (s : State). s.is_end) ends ∙ e.rest;
            soon = λ cpu.
                let same : clock_at f.end cpu ≡ clock_at i.last cpu =
                ap (λ (ls : List Local). clock_in (slice_get ls cpu)) i.same.locals in
                omega (arith, f.soon cpu, same, rises m o.system i.first i.after i.goes.happens cpu);
            ends = ends ∙ e.ends;
          })

      -- Some choice can be made, as an event is left.
      can : (es : List Action) → Leads m o.system es followed.end → length e.events ≡ length es →
          CanGoOn m seen.schedule everybody
      can [] leads size = absurd (omega (arith, size, e.as_many))
      can (a ∷ es) (Then x goes rest) size =
          let n = numbered m o.system a x (within (length seen.schedule) o.system in_o) goes in
          record {
            number = n.number;
            inside = refl;
            state = state_in m x.system;
            leads = one_entry m seen.schedule o.system x.system n.number o.leads n.leads;
          }

      by : CanGoOn m seen.schedule o.set → IsNearer (MayRest m) choices more end
      by can =
          let led = entry_leads m seen.schedule o.system can.number can.state o.leads can.leads in
          let event = event_of m o.system can.number led.0 led.1.0 in
          begun event.event event.behind (ap o.set event.processor ∙ can.inside) event.goes

  pub kept : AreKept (MayRest m) (AreOfSet m)
  kept = record {
    here = here;
    nearer = λ before seen choices o more end e. nearer before seen choices o more end e;
  }

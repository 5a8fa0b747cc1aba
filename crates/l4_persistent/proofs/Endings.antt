-- Of the states that a search by persistent sets has looked at, those at rest are all endings.
use Rattle.std.proofs.Common.{◌≡◌, ℕ, zero, suc, ◌+◌, ◌<◌, ◌≤◌, Bool, true, ◌⊎◌, inl, inr, Some, List, [], ◌∷◌, ◌++◌, length, map, refl, ap, sym, subst, ◌∙◌, arith}
use Rattle.std.specs.Prelude.{slice_get}
use Rattle.std.specs.Option.{option_map}
use Rattle.std.specs.List.{AllByRecursion}
use Rattle.std.proofs.lemmas.List.{length-append, length-map}
use Rattle.l4_model.specs.Machine.{Machine}
use Rattle.l4_model.proofs.Chains.{some_is}
use Rattle.l4_core_model.specs.Runs.{System, IsMachine, opening_run, opening_system, at_rest}
use Rattle.l4_core_model.specs.Schedules.{Entry}
use Rattle.l4_bisimilar.specs.Shifted.{IsShifted}
use Rattle.l4_explore.specs.Tries.{State}
use Rattle.l4_explore.specs.Search.{Seen, seen_at, unseen, IsCut, IsExplored, IsFound}
use Rattle.l4_explore.proofs.Orders.{not_after_length}
use Rattle.l4_states.specs.Choices.{after_choices, choice, state_in, state_after, IsLeastRun}
use Rattle.l4_states.specs.Endings.{ends_of, entries_of, IsAmong, led}
use Rattle.l4_states.specs.Listed.{IsListed}
use Rattle.l4_states.proofs.Chosen.{least_run}
use Rattle.l4_states.proofs.Endings.{all_ends, all_places, all_unlike, among, AreUnlike, IsReplayed, replayed}
use Rattle.l4_states.proofs.Following.{at_rest_similar, code_similar, state_led, similar_state}
use Rattle.l4_persistent.specs.Endings.{AreAllEndings, AreEndings, AreLookedAt, IsCutOff, IsEnding, IsGoneOn, IsPossible, LeadsThere}
use Rattle.l4_persistent.specs.Inner.Ends.{AreOfSet, CanGoOn}
use Rattle.l4_persistent.specs.Rests.{AreRestsListed}

module _ (m : Machine) (found : List Seen) (depth : ℕ) (is_whole : Bool)
    (looked : AreLookedAt m found depth is_whole) (rests : AreRestsListed m found depth is_whole) where
  -- The replay of a found schedule
  replay : (i : ℕ) (inside : i < length found) →
      IsReplayed m (opening_run m) (looked.led i inside).system (seen_at found i).schedule
  replay i inside =
      let l = looked.led i inside in
      replayed m (seen_at found i).schedule (opening_run m) l.system l.leads

  led_is : (i : ℕ) (inside : i < length found) →
      led m (entries_of m (seen_at found i).schedule) ≡ (looked.led i inside).system
  led_is i inside = let r = replay i inside in r.system

  is_ending : (i : ℕ) → i < length found → (seen_at found i).state.is_end ≡ true →
      IsEnding m (entries_of m (seen_at found i).schedule)
  is_ending i inside is =
      let s = (seen_at found i).schedule in
      let l = looked.led i inside in
      let r = replay i inside in
      let long = length-map s (choice m) in
      record {
        run = subst (λ (n : ℕ). IsLeastRun m n (led m (entries_of m s))) (sym long)
            (subst (IsLeastRun m (length s)) (sym (led_is i inside)) l.run);
        events = omega (arith, r.count, long);
        rest = ap (at_rest m) (led_is i inside) ∙ sym l.is_end ∙ is;
        shortest = λ g events run similar.
            omega (
              arith,
              long,
              rests.shortest i l.system g events inside l.leads run
                  (subst (λ (k : System). IsShifted k g) (led_is i inside) similar),
            );
      }

  listed_among : (g : System) (events : ℕ) → at_rest m g ≡ true → IsListed m found g events →
      IsAmong m (map (entries_of m) (ends_of found)) g
  listed_among g events rest l =
      let s = looked.led l.place l.inside in
      let same = some_is l.system s.system (sym l.leads ∙ s.leads) in
      let similar = subst (λ (k : System). IsShifted k g) same l.similar in
      among m found g l.place l.inside
      (s.is_end ∙ at_rest_similar m s.system g similar ∙ rest)
      (subst (λ (k : System). IsShifted k g) (sym (led_is l.place l.inside)) similar)

  unlike : (i j : ℕ) → i < j → j < length found → AreUnlike m (seen_at found i) (seen_at found j)
  unlike i j less inside =
      let below : i < length found = omega (arith, less, inside) in
      let x = looked.led i below in
      let y = looked.led j inside in (
        λ similar.
            let same = looked.once i j x.system y.system below inside x.leads y.leads
            (subst (λ (k : System). IsShifted k y.system) (led_is i below)
            (subst (IsShifted (led m (entries_of m (seen_at found i).schedule))) (led_is j inside)
            similar)) in
            omega (arith, less, same),
        not_after_length (seen_at found i).schedule (seen_at found j).schedule
            (inr (looked.rising i j less inside)),
      )

  pub of_found : AreAllEndings m (map (entries_of m) (ends_of found)) depth is_whole
  of_found = record {
    sound = all_ends m (IsEnding m) found
        (all_places (λ s. s.state.is_end ≡ true → IsEnding m (entries_of m s.schedule)) unseen
        found (λ i l. is_ending i l));
    complete = λ g events c short. listed_among g events c.rest (rests.complete g events c short);
    whole = λ w g events c. listed_among g events c.rest (rests.whole w g events c);
    apart = all_unlike m found unlike;
  }

pub all_endings : (m : Machine) (endings : List (List Entry)) (states asked most depth : ℕ)
    (is_whole : Bool) → AreEndings m endings states asked most depth is_whole →
    AreAllEndings m endings depth is_whole
all_endings m endings states asked most depth is_whole e =
    subst (λ (es : List (List Entry)). AreAllEndings m es depth is_whole) (sym e.endings_are)
    (of_found m e.found depth is_whole e.looked e.rests)

-- What a search has looked at

at_place : {A : Type 0} (P : A → Type 0) (xs : List A) (i : ℕ) (x : A) → AllByRecursion P xs →
    slice_get xs i ≡ Some x → P x
at_place P [] i x all at = cc
at_place P (y ∷ ys) zero x all at = subst P (some_is y x at) all.0
at_place P (y ∷ ys) (suc i) x all at = at_place P ys i x all.1 at

module _ (m : Machine) (machine : IsMachine m) (found : List Seen) (depth : ℕ) (is_whole : Bool)
    (ex : IsExplored (state_after m) (AreOfSet m) found depth is_whole) where
  -- Where a found schedule leads, with its state
  record LeadsTo (seen : Seen) : Type 0 where
    there : LeadsThere m seen
    is : state_in m there.system ≡ seen.state

  leads_to : (i : ℕ) → i < length found → LeadsTo (seen_at found i)
  leads_to i inside =
      let s = (seen_at found i).schedule in
      let l = state_led m s (seen_at found i).state (ex.all.reached i inside) in
      record {
        there = record {
          system = l.0;
          leads = l.1;
          run = least_run m s l.0 l.1;
          is_end = ap (λ (a : State). a.is_end) (sym l.2);
        };
        is = l.2;
      }

  -- Where a state is found, a state that is similar is listed.
  listed : (t : List ℕ) (h : System) (events : ℕ) → after_choices m (opening_system m) t ≡ Some h →
      length t ≤ events → IsFound found (state_in m h) t → IsListed m found h events
  listed t h events leads long f =
      let l = leads_to f.place f.inside in
      record {
        place = f.place;
        inside = f.inside;
        system = l.there.system;
        leads = l.there.leads;
        similar = code_similar m machine (seen_at found f.place).schedule t l.there.system h
            l.there.leads leads (ap (λ (a : State). a.code) (l.is ∙ f.is));
        short = omega (arith, not_after_length (seen_at found f.place).schedule t f.early, long);
      }

  can_go : (s : List ℕ) (set : ℕ → Bool) → CanGoOn m s set → IsPossible m s set
  can_go s set c =
      let l = state_led m (s ++ c.number ∷ []) c.state c.leads in
      record { number = c.number; inside = c.inside; system = l.0; leads = l.1 }

  goes_on : (i : ℕ) → i < length found →
      ((length (seen_at found i).schedule < depth) ⊎ (is_whole ≡ true)) →
      IsGoneOn m found (seen_at found i)
  goes_on i inside when =
      let gone = ex.gone_on i inside when in
      let o = gone.offered in
      let s = (seen_at found i).schedule in
      record {
        system = o.system;
        leads = o.leads;
        set = o.set;
        persistent = o.persistent;
        some = λ p. can_go s o.set (o.some (record {
          number = p.number;
          inside = refl;
          state = state_in m p.system;
          leads = ap (option_map (state_in m)) p.leads;
        }));
        all = λ number h in_set leads.
            let offered = o.all number (state_in m h) in_set (ap (option_map (state_in m)) leads) in
            listed (s ++ number ∷ []) h (length s + 1) leads
            (omega (arith, length-append s (number ∷ [])))
            (at_place (λ n. IsFound found n.state (s ++ n.entry ∷ [])) gone.choices offered.place
            (record { entry = number; state = state_in m h }) gone.all_met offered.is);
      }

  same_place : (i j : ℕ) (g h : System) → i < length found → j < length found →
      after_choices m (opening_system m) (seen_at found i).schedule ≡ Some g →
      after_choices m (opening_system m) (seen_at found j).schedule ≡ Some h → IsShifted g h → i ≡ j
  same_place i j g h a b at_g at_h similar =
      let x = leads_to i a in
      let y = leads_to j b in
      let is_x = some_is x.there.system g (sym x.there.leads ∙ at_g) in
      let is_y = some_is y.there.system h (sym y.there.leads ∙ at_h) in
      let state = similar_state m machine (seen_at found i).schedule (seen_at found j).schedule g h
      at_g at_h similar in
      ex.all.once i j a b (ap (λ (c : State). c.code)
      (sym x.is ∙ ap (state_in m) is_x ∙ state ∙ sym (ap (state_in m) is_y) ∙ y.is))

  pub looked_at : AreLookedAt m found depth is_whole
  looked_at = record {
    opening = listed [] (opening_system m) 0 refl (omega arith)
        (ex.all.opening (state_in m (opening_system m)) refl);
    led = λ i inside. let l = leads_to i inside in l.there;
    gone_on = goes_on;
    once = same_place;
    rising = ex.all.rising;
  }

  -- One more state is similar to none that was found.
  pub cut_off : (asked most : ℕ) → IsCut (state_after m) (AreOfSet m) found asked most depth →
      IsCutOff m found asked most depth
  cut_off asked most (inl d) = inl d
  cut_off asked most (inr c) =
      let s = (seen_at found c.place).schedule ++ c.stopped.one_more.entry ∷ [] in
      let led = state_led m s c.stopped.one_more.state c.stopped.leads in
      inr (record {
        shallow = c.shallow;
        full = c.full;
        one_more = record {
          system = led.0;
          run = subst (λ (n : ℕ). IsLeastRun m n led.0)
              (length-append (seen_at found c.place).schedule (c.stopped.one_more.entry ∷ [])
              ∙ ap (λ n. n + 1) c.far) (least_run m s led.0 led.1);
          new = λ i g inside leads similar.
              let state = similar_state m machine (seen_at found i).schedule s g led.0 leads led.1
              similar in
              let l = leads_to i inside in
              let same = some_is l.there.system g (sym l.there.leads ∙ leads) in
              c.stopped.new i inside
              (ap (λ (a : State). a.code) (sym l.is ∙ ap (state_in m) same ∙ state ∙ led.2));
        };
      })

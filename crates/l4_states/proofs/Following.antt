-- Lists of choices are schedules as a search needs them.
use Rattle.std.proofs.Common.{◌≡◌, ℕ, suc, ◌+◌, ◌-◌, ◌/◌, ◌%◌, ◌<◌, Bool, true, false, cond, ◌&&◌, not, ◌==◌, nat_lt, Option, Some, None, List, [], ◌∷◌, ◌++◌, length, map, refl, ap, subst, sym, ◌∙◌}
use Rattle.std.specs.Prelude.{slice_get, is_some}
use Rattle.std.specs.Option.{option_map}
use Rattle.std.specs.List.{list_all}
use Rattle.std.proofs.lemmas.Bool.{ltb-true}
use Rattle.l4_model.specs.Words.{clock_limit}
use Rattle.l4_model.specs.Machine.{Machine}
use Rattle.l4_model.specs.Conditions.{◌>>=◌}
use Rattle.l4_model.proofs.Chains.{some_is, bind_then}
use Rattle.l4_core_model.specs.Local.{Local}
use Rattle.l4_core_model.specs.Acts.{Work}
use Rattle.l4_core_model.specs.Turns.{advance, choice as core_choice, does_choice, opened, turn, is_busy}
use Rattle.l4_core_model.specs.Runs.{System, Posted, letters, Action, Handles, Turns, Ticks, Happened, happens, done, Run, IsMachine, core_run, opening_run, opening_system, processors, then_event, is_empty, local_at_rest, at_rest}
use Rattle.l4_core_model.specs.Schedules.{least_deadline, Entry, TickOf, LetterOf, CoreOf, entry_event}
use Rattle.l4_core_model.proofs.Changed.{same_nat}
use Rattle.l4_refines.proofs.Events.{advance_then}
use Rattle.l4_explore.specs.Tries.{State, AreSchedules, StandsForAll}
use Rattle.l4_bisimilar.proofs.Numbers.{pared_contents}
use Rattle.l4_bisimilar.specs.Shifted.{AreShifted, IsShifted, ahead}
use Rattle.l4_bisimilar.proofs.Times.{AreWorks, IsLike, are_bare, are_like, bare_local, handles_shifted, same_local, ticks_shifted, turn_like, turns_shifted}
use Rattle.l4_states.specs.Inner.Codes.{code_of}
use Rattle.l4_states.specs.Choices.{choice, after_entry, after_choices, state_in, state_after, IsEarly, IsReached, LeadsEarly}
use Rattle.l4_states.proofs.Systems.{are_coded}

-- A processor of both

both_locals : (P : Type 0) (g h : System) (cpu : ℕ) → IsShifted g h → (l : Local) →
    slice_get g.locals cpu ≡ Some l →
    ((k : Local) → slice_get h.locals cpu ≡ Some k → IsLike l k → P) → P
both_locals P g h cpu shifted l at then =
    by (slice_get h.locals cpu) refl
    (ap (option_map bare_local) (sym at) ∙ same_local g h cpu (are_bare g h shifted))
  where
    by : (p : Option Local) → slice_get h.locals cpu ≡ p →
        option_map bare_local (Some l) ≡ option_map bare_local p → P
    by None is e = cc
    by (Some k) is e = then k is (are_like l k (some_is (bare_local l) (bare_local k) e))

-- What happens in one state happens in the other.
record Follows (m : Machine) (h : System) (e : Entry) (a : System) : Type 0 where
  system : System
  is : after_entry m h e ≡ Some system
  shifted : IsShifted a system

-- An event of both
followed : (m : Machine) (g h : System) (e : Entry) (there here : Action) (a : System) →
    entry_event m h e ≡ Some here → AreShifted (happens m g there) (happens m h here) →
    option_map (λ x. x.system) (happens m g there) ≡ Some a → Follows m h e a
followed m g h e there here a event shifted is =
    by (happens m g there) (happens m h here) shifted is refl
  where
    by : (x y : Option Happened) → AreShifted x y → option_map (λ x. x.system) x ≡ Some a →
        happens m h here ≡ y → Follows m h e a
    by None y same is at = cc
    by (Some x) None same is at = absurd same
    by (Some x) (Some y) same is at = record {
      system = y.system;
      is =
          ap (λ (o : Option Action). o >>= λ e. option_map (λ x. x.system) (happens m h e)) event
          ∙ ap (option_map (λ (z : Happened). z.system)) at;
      shifted = subst (λ (k : System). IsShifted k y.system) (some_is x.system a is) same.system;
    }

-- A letter that is handled, in states that core runs lead to
letter_followed : (m : Machine) (g h : System) (cpu from : ℕ) (a : System) → IsMachine m →
    IsReached m g → IsReached m h → IsShifted g h → after_entry m g (LetterOf cpu from) ≡ Some a →
    Follows m h (LetterOf cpu from) a
letter_followed m g h cpu from a machine in_g in_h shifted is =
    followed m g h (LetterOf cpu from) (Handles cpu from) (Handles cpu from) a refl both is
  where
    both : AreShifted (happens m g (Handles cpu from)) (happens m h (Handles cpu from))
    both =
        subst (λ (k : System). AreShifted (happens m k (Handles cpu from))
        (happens m h (Handles cpu from))) in_g.system
        (subst (λ (k : System). AreShifted (happens m in_g.run.system (Handles cpu from))
        (happens m k (Handles cpu from))) in_h.system
        (handles_shifted m in_g.run in_h.run cpu from machine (in_g.actions, in_g.is)
        (in_h.actions, in_h.is)
        (subst (λ (k : System). IsShifted k in_h.run.system) (sym in_g.system)
        (subst (IsShifted g) (sym in_h.system) shifted))))

-- Deadlines are as far ahead in both.
record IsAlsoArmed (g h : System) (cpu deadline : ℕ) : Type 0 where
  then : ℕ
  is : least_deadline h cpu ≡ Some then
  by : (l k : Local) → slice_get g.locals cpu ≡ Some l → slice_get h.locals cpu ≡ Some k →
      deadline - l.clock ≡ then - k.clock

also_armed : (g h : System) (cpu deadline : ℕ) → IsShifted g h →
    least_deadline g cpu ≡ Some deadline → IsAlsoArmed g h cpu deadline
also_armed g h cpu deadline shifted is =
    bind_then (slice_get g.locals cpu) _ deadline is λ l at first.
    both_locals (IsAlsoArmed g h cpu deadline) g h cpu shifted l at λ k there like.
    firsts l k at there l.lists.armed k.lists.armed refl first like.armed
  where
    firsts : (l k : Local) → slice_get g.locals cpu ≡ Some l → slice_get h.locals cpu ≡ Some k →
        (xs ys : List (ℕ × ℕ)) → k.lists.armed ≡ ys →
        option_map (λ e. e.0) (slice_get xs 0) ≡ Some deadline →
        map (ahead l.clock) xs ≡ map (ahead k.clock) ys → IsAlsoArmed g h cpu deadline
    firsts l k at there [] ys same first like = cc
    firsts l k at there (x ∷ xs) [] same first like = cc
    firsts l k at there (x ∷ xs) (y ∷ ys) same first like =
        let one : ahead l.clock x ≡ ahead k.clock y = cc in
        let far : x.0 - l.clock ≡ y.0 - k.clock = ap (λ (e : ℕ × ℕ). e.0) one in
        let least : x.0 ≡ deadline = some_is x.0 deadline first in
        record {
          then = y.0;
          is =
              ap (λ (o : Option Local).
              o >>= λ n. option_map (λ e. e.0) (slice_get n.lists.armed 0)) there
              ∙ ap (λ (es : List (ℕ × ℕ)). option_map (λ e. e.0) (slice_get es 0)) same;
          by = λ n o at_n at_o.
              let left : l ≡ n = some_is l n (sym at ∙ at_n) in
              let right : k ≡ o = some_is k o (sym there ∙ at_o) in
              ap (λ d. d - n.clock) (sym least) ∙ ap (λ (p : Local). x.0 - p.clock) (sym left)
              ∙ far ∙ ap (λ (p : Local). y.0 - p.clock) right;
        }

-- What a tick went to is a clock.
pub ticked_below : (m : Machine) (g : System) (cpu to : ℕ) (a : System) →
    option_map (λ x. x.system) (happens m g (Ticks cpu to)) ≡ Some a → to < clock_limit
ticked_below m g cpu to a is = by (happens m g (Ticks cpu to)) refl is
  where
    by : (o : Option Happened) → happens m g (Ticks cpu to) ≡ o →
        option_map (λ x. x.system) o ≡ Some a → to < clock_limit
    by None at is = cc
    by (Some x) at is =
        bind_then (slice_get g.locals cpu) _ x at λ l there done_is.
        worked l (advance m cpu to l) refl done_is
      where
        worked : (l : Local) (o : Option Work) → advance m cpu to l ≡ o →
            option_map (done cpu g) o ≡ Some x → to < clock_limit
        worked l None advanced is = cc
        worked l (Some w) advanced is =
            advance_then m cpu to l w (λ v. to < clock_limit) advanced
            (λ above below. ltb-true to clock_limit below)

tick_followed : (m : Machine) (g h : System) (cpu : ℕ) (a : System) → IsShifted g h → IsEarly h →
    after_entry m g (TickOf cpu) ≡ Some a → Follows m h (TickOf cpu) a
tick_followed m g h cpu a shifted early is = by (least_deadline g cpu) refl is
  where
    by : (o : Option ℕ) → least_deadline g cpu ≡ o →
        (option_map (Ticks cpu) o >>= λ e. option_map (λ x. x.system) (happens m g e)) ≡ Some a →
        Follows m h (TickOf cpu) a
    by None at is = cc
    by (Some deadline) at is =
        let also = also_armed g h cpu deadline shifted at in
        followed m g h (TickOf cpu) (Ticks cpu deadline) (Ticks cpu also.then) a
        (ap (option_map (Ticks cpu)) also.is)
        (ticks_shifted m g h cpu deadline also.then shifted
        (record {
          by = also.by;
          first = ticked_below m g cpu deadline a is;
          second = early cpu also.then also.is;
        })) is

-- A choice that can be made in one can be made in the other.
followed_choice : (m : Machine) (g h : System) (number : ℕ) (a : System) → IsMachine m →
    IsReached m g → IsReached m h → IsShifted g h → IsEarly h →
    after_entry m g (choice m number) ≡ Some a → Follows m h (choice m number) a
followed_choice m g h number a machine in_g in_h shifted early =
    by (nat_lt k m.cpus) (k == m.cpus)
  where
    cpu : ℕ
    cpu = number / (m.cpus + 2)

    k : ℕ
    k = number % (m.cpus + 2)

    by : (own core : Bool) →
        after_entry m g (cond own (LetterOf cpu k) (cond core (CoreOf cpu) (TickOf cpu))) ≡ Some a →
        Follows m h (cond own (LetterOf cpu k) (cond core (CoreOf cpu) (TickOf cpu))) a
    by true core is = letter_followed m g h cpu k a machine in_g in_h shifted is
    by false true is =
        followed m g h (CoreOf cpu) (Turns cpu) (Turns cpu) a refl (turns_shifted m g h cpu shifted) is
    by false false is = tick_followed m g h cpu a shifted early is

-- Similar states are at rest alike.

is_some_map : {A B : Type 0} (f : A → B) (o : Option A) → is_some (option_map f o) ≡ is_some o
is_some_map f None = refl
is_some_map f (Some x) = refl

pub busy_like : (m : Machine) (cpu : ℕ) (l k : Local) → IsLike l k → is_busy m cpu l ≡ is_busy m cpu k
busy_like m cpu l k like =
    sym (is_some_map (λ c. does_choice m cpu c (opened 0 l)) (core_choice m cpu l))
    ∙ both (turn m cpu l) (turn m cpu k) (turn_like m cpu l k like)
    ∙ is_some_map (λ c. does_choice m cpu c (opened 0 k)) (core_choice m cpu k)
  where
    both : (x y : Option Work) → AreWorks x y → is_some x ≡ is_some y
    both None None same = refl
    both (Some x) (Some y) same = refl
    both None (Some y) same = absurd same
    both (Some x) None same = absurd same

pub none_armed : (c d : ℕ) (xs ys : List (ℕ × ℕ)) → map (ahead c) xs ≡ map (ahead d) ys →
    is_empty xs ≡ is_empty ys
none_armed c d [] [] e = refl
none_armed c d (x ∷ xs) (y ∷ ys) e = refl
none_armed c d [] (y ∷ ys) e = cc
none_armed c d (x ∷ xs) [] e = cc

rest_similar : (m : Machine) (g h : System) → IsShifted g h → (cpu : ℕ) →
    local_at_rest m g cpu ≡ local_at_rest m h cpu
rest_similar m g h shifted cpu =
    by (slice_get g.locals cpu) (slice_get h.locals cpu) (same_local g h cpu (are_bare g h shifted))
  where
    resting : Option Local → Bool
    resting None = true
    resting (Some l) = not (is_busy m cpu l) && is_empty l.lists.armed

    by : (o p : Option Local) → option_map bare_local o ≡ option_map bare_local p →
        resting o ≡ resting p
    by None None e = refl
    by (Some l) (Some n) e =
        let like = are_like l n (some_is (bare_local l) (bare_local n) e) in
        rw (
          busy_like m cpu l n like,
          none_armed l.clock n.clock l.lists.armed n.lists.armed like.armed,
        ) refl
    by None (Some n) e = cc
    by (Some l) None e = cc

all_same : (p q : ℕ → Bool) → ((k : ℕ) → p k ≡ q k) → (ks : List ℕ) → list_all p ks ≡ list_all q ks
all_same p q same [] = refl
all_same p q same (k ∷ ks) = rw (same k, all_same p q same ks) refl

letter_there : (p : Posted) (ps : List Posted) →
    is_empty (pared_contents (letters (p ∷ ps) p.from p.to)) ≡ false
letter_there p ps = rw (same_nat p.from, same_nat p.to) refl

no_mail_similar : (g h : System) → IsShifted g h → is_empty g.mail ≡ is_empty h.mail
no_mail_similar g h similar = by g.mail h.mail (are_bare g h similar).mail
  where
    by : (ps qs : List Posted) →
        ((from to : ℕ) → pared_contents (letters ps from to) ≡ pared_contents (letters qs from to)) →
        is_empty ps ≡ is_empty qs
    by [] [] e = refl
    by (p ∷ ps) (q ∷ qs) e = refl
    by [] (q ∷ qs) e = let there = ap is_empty (e q.from q.to) ∙ letter_there q qs in cc
    by (p ∷ ps) [] e = let there = ap is_empty (sym (e p.from p.to)) ∙ letter_there p ps in cc

pub at_rest_similar : (m : Machine) (g h : System) → IsShifted g h → at_rest m g ≡ at_rest m h
at_rest_similar m g h similar =
    rw (
      all_same (local_at_rest m g) (local_at_rest m h) (rest_similar m g h similar) (processors m),
      no_mail_similar g h similar,
    ) refl

-- One more entry.

bind-unit : {A : Type 0} (o : Option A) → (o >>= λ x. Some x) ≡ o
bind-unit None = refl
bind-unit (Some x) = refl

pub after-append : (m : Machine) (g : System) (s : List ℕ) (e : ℕ) →
    after_choices m g (s ++ e ∷ []) ≡ (after_choices m g s >>= λ h. after_entry m h (choice m e))
after-append m g [] e = bind-unit (after_entry m g (choice m e))
after-append m g (x ∷ s) e = by (after_entry m g (choice m x)) (λ h. after-append m h s e)
  where
    by : (o : Option System) →
        ((h : System) → after_choices m h (s ++ e ∷ [])
        ≡ (after_choices m h s >>= λ k. after_entry m k (choice m e))) →
        (o >>= λ h. after_choices m h (s ++ e ∷ []))
        ≡ ((o >>= λ h. after_choices m h s) >>= λ h. after_entry m h (choice m e))
    by None rest = refl
    by (Some h) rest = rest h

-- Where choices lead, a core run of as many events leads.

pub record GoesOn (m : Machine) (r : Run) (g : System) (s : List ℕ) : Type 0 where
  pub actions : List Action
  pub run : Run
  pub is : core_run m r actions ≡ Some run
  pub system : run.system ≡ g
  pub count : length actions ≡ length s

pub goes_on : (m : Machine) (s : List ℕ) (r : Run) (g : System) →
    after_choices m r.system s ≡ Some g → GoesOn m r g s
goes_on m [] r g h = record {
  actions = [];
  run = r;
  is = refl;
  system =
      some_is r.system g h;
  count = refl;
}
goes_on m (e ∷ s) r g h =
    bind_then (after_entry m r.system (choice m e)) _ g h λ k is more.
    bind_then (entry_event m r.system (choice m e)) _ k is λ action _ then.
    one_more k action more (happens m r.system action) refl then
    (λ x same. goes_on m s (then_event r x) g
    (ap (λ (j : System). after_choices m j s) same ∙ more))
  where
    one_more : (k : System) (action : Action) → after_choices m k s ≡ Some g →
        (o : Option Happened) → happens m r.system action ≡ o →
        option_map (λ x. x.system) o ≡ Some k →
        ((x : Happened) → x.system ≡ k → GoesOn m (then_event r x) g s) → GoesOn m r g (e ∷ s)
    one_more k action more None at is rest = cc
    one_more k action more (Some x) at is rest =
        let goes = rest x (some_is x.system k is) in
        record {
          actions = action ∷ goes.actions;
          run = goes.run;
          is = ap (λ (o : Option Happened). o >>= λ h. core_run m (then_event r h) goes.actions)
              at ∙ goes.is;
          system = goes.system;
          count = ap suc goes.count;
        }

pub has_reached : (m : Machine) (s : List ℕ) (g : System) →
    after_choices m (opening_system m) s ≡ Some g → IsReached m g
has_reached m s g h =
    let r = goes_on m s (opening_run m) g h in
    record { actions = r.actions; run = r.run; is = r.is; system = r.system }

-- States

pub state_led : (m : Machine) (s : List ℕ) (a : State) → state_after m s ≡ Some a →
    (g : System) × (after_choices m (opening_system m) s ≡ Some g) × (state_in m g ≡ a)
state_led m s a h = by (after_choices m (opening_system m) s) refl h
  where
    by : (o : Option System) → after_choices m (opening_system m) s ≡ o →
        option_map (state_in m) o ≡ Some a →
        (g : System) × (after_choices m (opening_system m) s ≡ Some g) × (state_in m g ≡ a)
    by None is h = cc
    by (Some g) is h = (g, is, some_is (state_in m g) a h)

module _ (m : Machine) (machine : IsMachine m) where
  -- One code, then similar, then one state.
  pub code_similar : (s t : List ℕ) (g h : System) → after_choices m (opening_system m) s ≡ Some g →
      after_choices m (opening_system m) t ≡ Some h →
      code_of m g ≡ code_of m h → IsShifted g h
  code_similar s t g h at_g at_h e =
      (are_coded m machine g h (has_reached m s g at_g) (has_reached m t h at_h)).0 e

  pub similar_state : (s t : List ℕ) (g h : System) → after_choices m (opening_system m) s ≡ Some g →
      after_choices m (opening_system m) t ≡ Some h →
      IsShifted g h → state_in m g ≡ state_in m h
  similar_state s t g h at_g at_h similar =
      let code = (are_coded m machine g h (has_reached m s g at_g) (has_reached m t h at_h)).1 similar
      in
      let rest = at_rest_similar m g h similar in
      λ i. record { code = code i; is_end = rest i }

  pub stands_for_all : (t : List ℕ) → LeadsEarly m t → StandsForAll (state_after m) t
  stands_for_all t early s e a same leads =
      by (after_choices m (opening_system m) s) (after_choices m (opening_system m) t) refl refl
    where
      on : (s : List ℕ) (g : System) → after_choices m (opening_system m) s ≡ Some g →
          after_choices m (opening_system m) (s ++ e ∷ []) ≡ after_entry m g (choice m e)
      on s g at = after-append m (opening_system m) s e
          ∙ ap (λ (o : Option System). o >>= λ h. after_entry m h (choice m e)) at

      both : (g h : System) → after_choices m (opening_system m) s ≡ Some g →
          after_choices m (opening_system m) t ≡ Some h →
          state_after m (t ++ e ∷ []) ≡ Some a
      both g h at_g at_h =
          let one = some_is (state_in m g) (state_in m h)
          (sym (ap (option_map (state_in m)) at_g) ∙ same ∙ ap (option_map (state_in m)) at_h) in
          let shifted = code_similar s t g h at_g at_h (ap (λ (c : State). c.code) one) in
          let led = state_led m (s ++ e ∷ []) a leads in
          let next = followed_choice m g h e led.0 machine (has_reached m s g at_g)
          (has_reached m t h at_h) shifted (early h at_h) (sym (on s g at_g) ∙ led.1) in
          let there = on t h at_h ∙ next.is in
          ap (option_map (state_in m)) there
          ∙ ap (λ (c : State). Some c)
          (sym (similar_state (s ++ e ∷ []) (t ++ e ∷ []) led.0 next.system led.1 there next.shifted)
          ∙ led.2)

      by : (x y : Option System) → after_choices m (opening_system m) s ≡ x →
          after_choices m (opening_system m) t ≡ y → state_after m (t ++ e ∷ []) ≡ Some a
      by (Some g) (Some h) at_g at_h = both g h at_g at_h
      by None y at_g at_h =
          let no = ap (option_map (state_in m)) (after-append m (opening_system m) s e
          ∙ ap (λ (o : Option System). o >>= λ h. after_entry m h (choice m e)) at_g) in cc
      by (Some g) None at_g at_h =
          let yes = ap (option_map (state_in m)) at_g in
          let no = ap (option_map (state_in m)) at_h in cc

  stays_none : (s : List ℕ) (e : ℕ) → state_after m s ≡ None → state_after m (s ++ e ∷ []) ≡ None
  stays_none s e h = by (after_choices m (opening_system m) s) refl h
    where
      by : (o : Option System) → after_choices m (opening_system m) s ≡ o →
          option_map (state_in m) o ≡ None → state_after m (s ++ e ∷ []) ≡ None
      by None is h =
          ap (option_map (state_in m))
          (after-append m (opening_system m) s e
          ∙ ap (λ (o : Option System). o >>= λ h. after_entry m h (choice m e)) is)
      by (Some g) is h = cc

  coded : (s t : List ℕ) (a b : State) → state_after m s ≡ Some a → state_after m t ≡ Some b →
      a.code ≡ b.code → a ≡ b
  coded s t a b u v e =
      let g = state_led m s a u in
      let h = state_led m t b v in
      let code = ap (λ (c : State). c.code) g.2 ∙ e ∙ sym (ap (λ (c : State). c.code) h.2) in
      sym g.2 ∙ similar_state s t g.0 h.0 g.1 h.1 (code_similar s t g.0 h.0 g.1 h.1 code) ∙ h.2

  pub are_schedules : AreSchedules (state_after m)
  are_schedules = record { begins = stays_none; coded = coded }

-- Where rounds end before their turns are used up, nothing is left.
use Rattle.std.proofs.Common.{◌≡◌, ℕ, zero, suc, ◌+◌, ◌<◌, ◌≤◌, Bool, true, false, cond, not, Option, Some, None, List, [], ◌∷◌, ◌++◌, map, get_or, inl, inr, refl, ap, sym, ◌∙◌, subst, arith, length-append}
use Rattle.std.specs.Prelude.{◌⊎◌, nat_le, nat_lt, slice_get, is_some, IsSomeAnd}
use Rattle.std.specs.List.{AllByRecursion, list_all, range_with_len}
use Rattle.std.specs.Option.{option_map}
use Rattle.std.proofs.lemmas.Bool.{and_from}
use Rattle.std.proofs.lemmas.Bool.Decides.{nat_tests}
use Rattle.std.proofs.lemmas.Option.{slice_get-get_or}
use Rattle.l4_model.specs.Machine.{Machine}
use Rattle.l4_model.specs.Words.{clock_limit}
use Rattle.l4_model.specs.Conditions.{◌>>=◌}
use Rattle.l4_core_model.specs.Letters.{Letter}
use Rattle.l4_core_model.specs.Local.{Local, opening_local}
use Rattle.l4_core_model.specs.Mail.{handle}
use Rattle.l4_core_model.specs.Plain.{due_block}
use Rattle.l4_core_model.specs.Turns.{ByDue, advance, choice, first_some, is_busy, turn}
use Rattle.l4_core_model.specs.Runs.{Action, Ticks, Happened, IsMachine, System, at_rest, done, happens, core_run, is_empty, letters, local_at_rest, opening_run, processors, taken, then_event, Run}
use Rattle.l4_core_model.specs.Schedules.{or_stays, attempts, attempts_all, earliest, earliest_of, earliest_deadline, first_poster, least_deadline, next_turn, turn_of, turns_in_order, round, ticks, ticks_to, turns_of, has_gone_on, rounds}
use Rattle.l4_core_model.specs.Laws.{IsCoreRun}
use Rattle.l4_merge.specs.Rounds.{is_idle, local_is_idle}
use Rattle.l4_merge.proofs.CoreRuns.{core_run-append}
use Rattle.l4_merge.proofs.Processors.{all_processors}
use Rattle.l4_merge.proofs.Rest.{no_mail}
use Rattle.l4_refines.specs.Laws.{LettersAreLawful}
use Rattle.l4_states.proofs.Reached.{IsWithin, run_within}
use Rattle.l4_rounds.specs.ThenRest.{in_rounds}
use Rattle.l4_rounds.specs.Ended.{HasEnded, IsOutOfTime}
use Rattle.l4_rounds.proofs.Rounds.{next_round}

-- Core runs go on as core runs

module _ (m : Machine) where
  tried_run : (r : Run) (e : Action) → IsCoreRun m r → IsCoreRun m (attempts m r e)
  tried_run r e ran = by (happens m r.system e) refl
    where
      by : (o : Option Happened) → happens m r.system e ≡ o → IsCoreRun m (or_stays r o)
      by None is = ran
      by (Some h) is =
          let one : core_run m r (e ∷ []) ≡ Some (then_event r h) = rw is refl in
          (ran.0 ++ e ∷ [], core_run-append m ran.0 (e ∷ []) (opening_run m) r (then_event r h) ran.1 one)

  all_tried_run : (es : List Action) (r : Run) → IsCoreRun m r → IsCoreRun m (attempts_all m r es)
  all_tried_run [] r ran = ran
  all_tried_run (e ∷ es) r ran = all_tried_run es (attempts m r e) (tried_run r e ran)

  turns_run : (cpus : List ℕ) (r : Run) → IsCoreRun m r → IsCoreRun m (turns_in_order m r cpus)
  turns_run [] r ran = ran
  turns_run (cpu ∷ cpus) r ran =
      let e : Action = next_turn m r.system cpu in
      turns_run cpus (attempts m r e) (tried_run r e ran)

  ticks_run : (r : Run) → IsCoreRun m r → IsCoreRun m (ticks m r)
  ticks_run r ran = by (earliest_deadline m r.system)
    where
      by : (o : Option ℕ) → IsCoreRun m (ticks_to m r o)
      by None = ran
      by (Some clock) = all_tried_run (map (λ cpu. Ticks cpu clock) (processors m)) r ran

  round_run : (r : Run) → IsCoreRun m r → IsCoreRun m (next_round m r)
  round_run r ran = by (has_gone_on r (round m r)) (turns_run (processors m) r ran)
    where
      by : (b : Bool) → IsCoreRun m (round m r) →
          IsCoreRun m (cond b (round m r) (ticks m (round m r)))
      by true there = there
      by false there = ticks_run (round m r) there

  rounds_run : (most left : ℕ) (r : Run) → IsCoreRun m r → IsCoreRun m (rounds m most left r)
  rounds_run most zero r ran = ran
  rounds_run most (suc left) r ran =
      by (has_gone_on r after) (nat_le most (turns_of after)) (rounds_run most left after there)
    where
      after : Run
      after = next_round m r

      there : IsCoreRun m after
      there = round_run r ran

      by : (b c : Bool) → IsCoreRun m (rounds m most left after) →
          IsCoreRun m (cond b (cond c after (rounds m most left after)) after)
      by true true rest = there
      by true false rest = rest
      by false c rest = there

pub rest_is_run : (m : Machine) (turns : ℕ) (r : Run) → IsCoreRun m r →
    IsCoreRun m (in_rounds turns m r)
rest_is_run m turns r ran = rounds_run m (turns_of r + turns) turns r ran

-- Where there is no event, each attempt was one at nothing

none_of : (r : Run) (o : Option Happened) → turns_of (or_stays r o) ≤ turns_of r → o ≡ None
none_of r None few = refl
none_of r (Some h) few =
    let longer = length-append r.events (h.event ∷ []) in absurd (omega (arith, few, longer))

more_of : (r : Run) (o : Option Happened) → turns_of r ≤ turns_of (or_stays r o)
more_of r None = omega arith
more_of r (Some h) = let longer = length-append r.events (h.event ∷ []) in omega (arith, longer)

module _ (m : Machine) where
  all_more : (es : List Action) (r : Run) → turns_of r ≤ turns_of (attempts_all m r es)
  all_more [] r = omega arith
  all_more (e ∷ es) r =
      let one = more_of r (happens m r.system e) in
      let rest = all_more es (attempts m r e) in
      omega (arith, one, rest)

  turns_more : (cpus : List ℕ) (r : Run) → turns_of r ≤ turns_of (turns_in_order m r cpus)
  turns_more [] r = omega arith
  turns_more (cpu ∷ cpus) r =
      let one = more_of r (happens m r.system (next_turn m r.system cpu)) in
      let rest = turns_more cpus (attempts m r (next_turn m r.system cpu)) in
      omega (arith, one, rest)

  abbrev NoTurns : Run → List ℕ → Type 0
  NoTurns r cpus =
      AllByRecursion (λ cpu. happens m r.system (next_turn m r.system cpu) ≡ None) cpus
      × (turns_in_order m r cpus ≡ r)

  no_turns : (cpus : List ℕ) (r : Run) → turns_of (turns_in_order m r cpus) ≤ turns_of r →
      NoTurns r cpus
  no_turns [] r few = (tt, refl)
  no_turns (cpu ∷ cpus) r few =
      let e : Action = next_turn m r.system cpu in
      let more = turns_more cpus (attempts m r e) in
      let none = none_of r (happens m r.system e) (omega (arith, few, more)) in
      let same : attempts m r e ≡ r = ap (or_stays r) none in
      let fewer : turns_of (turns_in_order m r cpus) ≤ turns_of r
      = subst (λ q. turns_of (turns_in_order m q cpus) ≤ turns_of r) same few in
      let rest = no_turns cpus r fewer in
      ((none, rest.0), ap (λ q. turns_in_order m q cpus) same ∙ rest.1)

  abbrev NoTicks : Run → (clock : ℕ) → List ℕ → Type 0
  NoTicks r clock cpus =
      AllByRecursion (λ cpu. happens m r.system (Ticks cpu clock) ≡ None) cpus
      × (attempts_all m r (map (λ cpu. Ticks cpu clock) cpus) ≡ r)

  no_ticks : (clock : ℕ) (cpus : List ℕ) (r : Run) →
      turns_of (attempts_all m r (map (λ cpu. Ticks cpu clock) cpus)) ≤ turns_of r →
      NoTicks r clock cpus
  no_ticks clock [] r few = (tt, refl)
  no_ticks clock (cpu ∷ cpus) r few =
      let e : Action = Ticks cpu clock in
      let more = all_more (map (λ cpu. Ticks cpu clock) cpus) (attempts m r e) in
      let none = none_of r (happens m r.system e) (omega (arith, few, more)) in
      let same : attempts m r e ≡ r = ap (or_stays r) none in
      let fewer : turns_of (attempts_all m r (map (λ cpu. Ticks cpu clock) cpus)) ≤ turns_of r
      = subst (λ q. turns_of (attempts_all m q (map (λ cpu. Ticks cpu clock) cpus)) ≤ turns_of r)
      same few in
      let rest = no_ticks clock cpus r fewer in
      ((none, rest.0), ap (λ q. attempts_all m q (map (λ cpu. Ticks cpu clock) cpus)) same ∙ rest.1)

  ticks_unchanged : (r : Run) → turns_of (ticks m r) ≤ turns_of r → ticks m r ≡ r
  ticks_unchanged r few = by (earliest_deadline m r.system) few
    where
      by : (o : Option ℕ) → turns_of (ticks_to m r o) ≤ turns_of r → ticks_to m r o ≡ r
      by None few = refl
      by (Some clock) few = (no_ticks clock (processors m) r few).1

-- A core run in which neither a round nor the ticks have an event
record IsStill (m : Machine) (r : Run) : Type 0 where
  pub core_run : IsCoreRun m r
  pub round : turns_of (round m r) ≤ turns_of r
  pub ticks : turns_of (ticks m r) ≤ turns_of r

still_round : (m : Machine) (r : Run) → IsCoreRun m r → turns_of (next_round m r) ≤ turns_of r →
    IsStill m (next_round m r)
still_round m r ran few =
    by (has_gone_on r (round m r)) refl few
  where
    by : (b : Bool) → has_gone_on r (round m r) ≡ b →
        turns_of (cond b (round m r) (ticks m (round m r))) ≤ turns_of r →
        IsStill m (cond b (round m r) (ticks m (round m r)))
    by true on few =
        let more : turns_of r < turns_of (round m r) = grind (arith, nat_tests, on) in
        absurd (omega (arith, few, more))
    by false off few =
        let none : turns_of (round m r) ≤ turns_of r = grind (arith, nat_tests, off) in
        let same : round m r ≡ r = (no_turns m (processors m) r none).1 in
        let fewer : turns_of (ticks m r) ≤ turns_of r
        = subst (λ q. turns_of (ticks m q) ≤ turns_of r) same few in
        let stays : ticks m (round m r) ≡ r = ap (ticks m) same ∙ ticks_unchanged m r fewer in
        subst (IsStill m) (sym stays) (record { core_run = ran; round = none; ticks = fewer })

used_or_still : (m : Machine) (most left : ℕ) (r : Run) → IsCoreRun m r → most ≤ left + turns_of r →
    (most ≤ turns_of (rounds m most left r)) ⊎ IsStill m (rounds m most left r)
used_or_still m most zero r ran enough = inl (omega (arith, enough))
used_or_still m most (suc left) r ran enough =
    by (has_gone_on r after) (nat_le most (turns_of after)) refl refl
    (λ more. used_or_still m most left after (round_run m r ran) (omega (arith, enough, more)))
  where
    after : Run
    after = next_round m r

    Ends : Run → Type 0
    Ends q = (most ≤ turns_of q) ⊎ IsStill m q

    by : (b c : Bool) → has_gone_on r after ≡ b → nat_le most (turns_of after) ≡ c →
        (turns_of r < turns_of after → Ends (rounds m most left after)) →
        Ends (cond b (cond c after (rounds m most left after)) after)
    by true true on used rest = inl (grind (arith, nat_tests, used))
    by true false on used rest = rest (grind (arith, nat_tests, on))
    by false c off used rest = inr (still_round m r ran (grind (arith, nat_tests, off)))

-- All of some processors

in_range : (P : ℕ → Type 0) (a n i : ℕ) → AllByRecursion P (range_with_len a n) → a ≤ i →
    i < a + n → P i
in_range P a zero i all least within = absurd (omega (arith, least, within))
in_range P a (suc n) i all least within =
    by (nat_lt a i) refl (λ more. in_range P (a + 1) n i all.1 more (omega (arith, within)))
  where
    by : (b : Bool) → nat_lt a i ≡ b → (a + 1 ≤ i → P i) → P i
    by true above rest = rest (grind (arith, nat_tests, above))
    by false above rest =
        let same : a ≡ i = grind (arith, nat_tests, above, least) in subst P same all.0

-- A processor at which no turn has an event

filled : (ls : List Letter) → is_empty ls ≡ false →
    (letter : Letter) × (slice_get ls 0 ≡ Some letter)
filled [] some = cc
filled (letter ∷ ls) some = (letter, refl)

some_poster : (g : System) (cpu : ℕ) (qs : List ℕ) (q : ℕ) → first_poster g cpu qs ≡ Some q →
    is_empty (letters g.mail q cpu) ≡ false
some_poster g cpu [] q is = cc
some_poster g cpu (p ∷ ps) q is =
    by (is_empty (letters g.mail p cpu)) refl is (some_poster g cpu ps q)
  where
    by : (b : Bool) → is_empty (letters g.mail p cpu) ≡ b →
        cond b (first_poster g cpu ps) (Some p) ≡ Some q →
        (first_poster g cpu ps ≡ Some q → is_empty (letters g.mail q cpu) ≡ false) →
        is_empty (letters g.mail q cpu) ≡ false
    by true e is rest = rest is
    by false e is rest =
        let same : p ≡ q = cc in subst (λ k. is_empty (letters g.mail k cpu) ≡ false) same e

empty_is : (ls : List Letter) → is_empty ls ≡ true → ls ≡ []
empty_is [] e = refl
empty_is (l ∷ ls) e = cc

no_posters : (g : System) (cpu : ℕ) (qs : List ℕ) → first_poster g cpu qs ≡ None →
    AllByRecursion (λ q. letters g.mail q cpu ≡ []) qs
no_posters g cpu [] is = tt
no_posters g cpu (q ∷ qs) is =
    by (is_empty (letters g.mail q cpu)) refl is (no_posters g cpu qs)
  where
    by : (b : Bool) → is_empty (letters g.mail q cpu) ≡ b →
        cond b (first_poster g cpu qs) (Some q) ≡ None →
        (first_poster g cpu qs ≡ None → AllByRecursion (λ q. letters g.mail q cpu ≡ []) qs) →
        AllByRecursion (λ q. letters g.mail q cpu ≡ []) (q ∷ qs)
    by true e is rest = (empty_is (letters g.mail q cpu) e, rest is)
    by false e is rest = cc

mapped_none : {A B : Type 0} (f : A → B) (o : Option A) → option_map f o ≡ None → o ≡ None
mapped_none f None is = refl
mapped_none f (Some x) is = cc

record HasNoTurn (m : Machine) (g : System) (cpu : ℕ) (l : Local) : Type 0 where
  pub posters : first_poster g cpu (processors m) ≡ None
  pub idle : choice m cpu l ≡ None

no_turn : (m : Machine) (g : System) (cpu : ℕ) (l : Local) → LettersAreLawful m g →
    slice_get g.locals cpu ≡ Some l → happens m g (next_turn m g cpu) ≡ None → HasNoTurn m g cpu l
no_turn m g cpu l lawful there none = by (first_poster g cpu (processors m)) refl none
  where
    by : (o : Option ℕ) → first_poster g cpu (processors m) ≡ o →
        happens m g (turn_of cpu o) ≡ None → HasNoTurn m g cpu l
    by None is none =
        let at : option_map (done cpu g) (turn m cpu l) ≡ None
        = sym (ap (λ (o : Option Local). o >>= λ l. option_map (done cpu g) (turn m cpu l)) there)
        ∙ none in
        record {
          posters = is;
          idle = mapped_none _ (choice m cpu l) (mapped_none (done cpu g) (turn m cpu l) at);
        }
    by (Some q) is none =
        let first = filled (letters g.mail q cpu) (some_poster g cpu (processors m) q is) in
        let at : (slice_get (letters g.mail q cpu) 0 >>=
        λ letter. option_map (done cpu (taken q cpu g)) (handle m cpu l letter)) ≡ None
        = sym (ap (λ (o : Option Local). o >>= λ l. slice_get (letters g.mail q cpu) 0 >>=
        λ letter. option_map (done cpu (taken q cpu g)) (handle m cpu l letter)) there) ∙ none in
        let here : option_map (done cpu (taken q cpu g)) (handle m cpu l first.0) ≡ None
        = sym (ap (λ (o : Option Letter). o >>=
        λ letter. option_map (done cpu (taken q cpu g)) (handle m cpu l letter)) first.1) ∙ at in
        let can = lawful.first q cpu first.0 l first.1 there in
        let not_it = ap is_some (mapped_none (done cpu (taken q cpu g)) (handle m cpu l first.0) here) in
        absurd (cc (can, not_it))

-- Deadlines

no_deadlines : (f : ℕ → Option ℕ) (cpus : List ℕ) → earliest_of (map f cpus) ≡ None →
    AllByRecursion (λ cpu. f cpu ≡ None) cpus
no_deadlines f [] is = tt
no_deadlines f (cpu ∷ cpus) is =
    by (f cpu) (earliest_of (map f cpus)) refl is (no_deadlines f cpus)
  where
    by : (d e : Option ℕ) → f cpu ≡ d → earliest d e ≡ None →
        (e ≡ None → AllByRecursion (λ cpu. f cpu ≡ None) cpus) →
        AllByRecursion (λ cpu. f cpu ≡ None) (cpu ∷ cpus)
    by None None at is rest = (at, rest refl)
    by None (Some e) at is rest = cc
    by (Some d) None at is rest = cc
    by (Some d) (Some e) at is rest = cc

record HasDeadline (f : ℕ → Option ℕ) (a n d : ℕ) : Type 0 where
  pub cpu : ℕ
  pub least : a ≤ cpu
  pub within : cpu < a + n
  pub is : f cpu ≡ Some d

some_deadline : (f : ℕ → Option ℕ) (a n d : ℕ) → earliest_of (map f (range_with_len a n)) ≡ Some d →
    HasDeadline f a n d
some_deadline f a zero d is = cc
some_deadline f a (suc n) d is =
    by (f a) (earliest_of (map f (range_with_len (a + 1) n))) refl is
    (λ e at. further (some_deadline f (a + 1) n e at))
  where
    further : {e : ℕ} → HasDeadline f (a + 1) n e → HasDeadline f a (suc n) e
    further h = record {
      cpu = h.cpu;
      least = let least = h.least in omega (arith, least);
      within = let within = h.within in omega (arith, within);
      is = h.is;
    }

    here : {e : ℕ} → f a ≡ Some e → HasDeadline f a (suc n) e
    here at = record { cpu = a; least = omega arith; within = omega arith; is = at }

    some_same : {x y : ℕ} → Some x ≡ Some y → x ≡ y
    some_same is = cc

    by : (x y : Option ℕ) → f a ≡ x → earliest x y ≡ Some d →
        ((e : ℕ) → y ≡ Some e → HasDeadline f a (suc n) e) → HasDeadline f a (suc n) d
    by None y at is rest = rest d is
    by (Some x) None at is rest = subst (HasDeadline f a (suc n)) (some_same is) (here at)
    by (Some x) (Some y) at is rest = lower (nat_le x y) refl
      where
        lower : (b : Bool) → nat_le x y ≡ b → HasDeadline f a (suc n) d
        lower true le =
            let same : x ≡ d = grind (arith, nat_tests, le, some_same is) in
            subst (HasDeadline f a (suc n)) same (here at)
        lower false gt =
            let same : y ≡ d = grind (arith, nat_tests, gt, some_same is) in
            subst (HasDeadline f a (suc n)) same (rest y refl)

second_none : {A : Type 0} (a b c : Option A) → first_some (a ∷ b ∷ c ∷ []) ≡ None → b ≡ None
second_none None None c is = refl
second_none None (Some b) c is = cc
second_none (Some a) b c is = cc

not_due : (m : Machine) (cpu d : ℕ) (l : Local) → choice m cpu l ≡ None →
    option_map (λ e. e.0) (slice_get l.lists.armed 0) ≡ Some d → l.clock < d
not_due m cpu d l idle least =
    by l.lists.armed least (mapped_none ByDue (due_block l.clock l.lists.armed) (second_none _ _ _ idle))
  where
    by : (armed : List (ℕ × ℕ)) → option_map (λ e. e.0) (slice_get armed 0) ≡ Some d →
        due_block l.clock armed ≡ None → l.clock < d
    by [] least none = cc
    by (e ∷ es) least none = within (nat_le e.0 l.clock) refl none
      where
        same : e.0 ≡ d
        same = cc

        within : (b : Bool) → nat_le e.0 l.clock ≡ b → cond b (Some e.1) None ≡ None → l.clock < d
        within true le none = cc
        within false gt none = let is = same in grind (arith, nat_tests, gt, is)

can_advance : (m : Machine) (cpu d : ℕ) (l : Local) → l.clock < d → d < clock_limit →
    is_some (advance m cpu d l) ≡ true
can_advance m cpu d l above below =
    let e : nat_lt l.clock d ≡ true = grind (arith, nat_tests, above) in
    let f : nat_lt d clock_limit ≡ true = grind (arith, nat_tests, below) in
    rw (e, f) refl

-- A still run

module _ (m : Machine) (r : Run) (machine : IsMachine m) (lawful : LettersAreLawful m r.system)
    (still : IsStill m r) where
  within : IsWithin m r.system
  within = run_within m still.core_run.0 r machine still.core_run.1

  abbrev local : ℕ → Local
  local cpu = get_or r.system.locals cpu (opening_local m 0)

  there : (cpu : ℕ) → cpu < m.cpus → slice_get r.system.locals cpu ≡ Some (local cpu)
  there cpu lt =
      let size = within.locals in
      slice_get-get_or r.system.locals cpu (opening_local m 0) (omega (arith, lt, size))

  own : (cpu : ℕ) → cpu < m.cpus → HasNoTurn m r.system cpu (local cpu)
  own cpu lt =
      no_turn m r.system cpu (local cpu) lawful (there cpu lt)
      (in_range (λ cpu. happens m r.system (next_turn m r.system cpu) ≡ None) 0 m.cpus cpu
      (no_turns m (processors m) r still.round).0 (omega arith) (omega (arith, lt)))

  unposted : (from to : ℕ) → letters r.system.mail from to ≡ []
  unposted from to = by (nat_lt from m.cpus) (nat_lt to m.cpus) refl refl
    where
      by : (b c : Bool) → nat_lt from m.cpus ≡ b → nat_lt to m.cpus ≡ c →
          letters r.system.mail from to ≡ []
      by false c e f = within.from from to (grind (arith, nat_tests, e))
      by true false e f = within.to from to (grind (arith, nat_tests, f))
      by true true e f =
          let lt : to < m.cpus = grind (arith, nat_tests, f) in
          in_range (λ q. letters r.system.mail q to ≡ []) 0 m.cpus from
          (no_posters r.system to (processors m) (own to lt).posters) (omega arith)
          (grind (arith, nat_tests, e))

  not_busy : (cpu : ℕ) → cpu < m.cpus → is_busy m cpu (local cpu) ≡ false
  not_busy cpu lt = ap is_some (own cpu lt).idle

  idle : is_idle m r.system ≡ true
  idle =
      and_from (list_all (local_is_idle m r.system) (processors m)) (is_empty r.system.mail)
      (all_processors m (local_is_idle m r.system) each) (no_mail r.system.mail unposted)
    where
      each : (cpu : ℕ) → cpu < m.cpus → local_is_idle m r.system cpu ≡ true
      each cpu lt = let at = there cpu lt in rw at (ap not (not_busy cpu lt))

  rests : earliest_deadline m r.system ≡ None → at_rest m r.system ≡ true
  rests none =
      and_from (list_all (local_at_rest m r.system) (processors m)) (is_empty r.system.mail)
      (all_processors m (local_at_rest m r.system) each) (no_mail r.system.mail unposted)
    where
      unarmed : (cpu : ℕ) → cpu < m.cpus → is_empty (local cpu).lists.armed ≡ true
      unarmed cpu lt =
          by (local cpu).lists.armed
          (sym (ap (λ (o : Option Local). o >>= λ l. option_map (λ e. e.0) (slice_get l.lists.armed 0))
          (there cpu lt))
          ∙ in_range (λ cpu. least_deadline r.system cpu ≡ None) 0 m.cpus cpu
          (no_deadlines (least_deadline r.system) (processors m) none) (omega arith) (omega (arith, lt)))
        where
          by : (armed : List (ℕ × ℕ)) → option_map (λ e. e.0) (slice_get armed 0) ≡ None →
              is_empty armed ≡ true
          by [] is = refl
          by (e ∷ es) is = cc

      each : (cpu : ℕ) → cpu < m.cpus → local_at_rest m r.system cpu ≡ true
      each cpu lt =
          let at = there cpu lt in
          rw at (and_from _ _ (ap not (not_busy cpu lt)) (unarmed cpu lt))

  no_clock : (d : ℕ) → earliest_deadline m r.system ≡ Some d → clock_limit ≤ d
  no_clock d is = by (nat_lt d clock_limit) refl
    where
      few : turns_of (ticks_to m r (Some d)) ≤ turns_of r
      few = subst (λ o. turns_of (ticks_to m r o) ≤ turns_of r) is still.ticks

      by : (b : Bool) → nat_lt d clock_limit ≡ b → clock_limit ≤ d
      by false high = grind (arith, nat_tests, high)
      by true low =
          let its = some_deadline (least_deadline r.system) 0 m.cpus d is in
          let lt : its.cpu < m.cpus = let within = its.within in omega (arith, within) in
          let l : Local = local its.cpu in
          let least : option_map (λ e. e.0) (slice_get l.lists.armed 0) ≡ Some d
          = sym (ap (λ (o : Option Local). o >>= λ l. option_map (λ e. e.0) (slice_get l.lists.armed 0))
          (there its.cpu lt)) ∙ its.is in
          let above = not_due m its.cpu d l (own its.cpu lt).idle least in
          let can = can_advance m its.cpu d l above (grind (arith, nat_tests, low)) in
          let none = in_range (λ cpu. happens m r.system (Ticks cpu d) ≡ None) 0 m.cpus its.cpu
          (no_ticks m d (processors m) r few).0 (omega arith) (omega (arith, lt)) in
          let here : option_map (done its.cpu r.system) (advance m its.cpu d l) ≡ None
          = sym (ap (λ (o : Option Local). o >>=
          λ l. option_map (done its.cpu r.system) (advance m its.cpu d l)) (there its.cpu lt)) ∙ none in
          let not_it = ap is_some (mapped_none (done its.cpu r.system) (advance m its.cpu d l) here) in
          absurd (cc (can, not_it))

  nothing_left : (at_rest m r.system ≡ true) ⊎ IsOutOfTime m r.system
  nothing_left = by (earliest_deadline m r.system) refl
    where
      by : (o : Option ℕ) → earliest_deadline m r.system ≡ o →
          (at_rest m r.system ≡ true) ⊎ IsOutOfTime m r.system
      by None is = inl (rests is)
      by (Some d) is =
          inr (
            idle,
            subst (λ (o : Option ℕ). IsSomeAnd o (λ deadline. clock_limit ≤ deadline)) (sym is)
                (no_clock d is),
          )

pub rest_ends : (m : Machine) (turns : ℕ) (r : Run) → IsMachine m →
    ((q : Run) → IsCoreRun m q → LettersAreLawful m q.system) → IsCoreRun m r →
    HasEnded m turns r (in_rounds turns m r)
rest_ends m turns r machine lawful ran =
    by (used_or_still m (turns_of r + turns) turns r ran (omega arith))
  where
    by : (turns_of r + turns ≤ turns_of (in_rounds turns m r)) ⊎ IsStill m (in_rounds turns m r) →
        HasEnded m turns r (in_rounds turns m r)
    by (inl used) = inl used
    by (inr still) =
        inr (nothing_left m (in_rounds turns m r) machine
        (lawful (in_rounds turns m r) still.core_run) still)

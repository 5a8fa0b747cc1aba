-- A run in rounds of one processor: no letter comes to it, so that each event is the only one that is possible.
use Rattle.std.proofs.Common.{◌≡◌, ◌≢◌, ℕ, zero, suc, ◌+◌, ◌-◌, ◌≤◌, Bool, true, false, not, Option, Some, None, List, [], ◌∷◌, ◌++◌, map, length, refl, ap, sym, ◌∙◌, subst, ⊎_elim, arith, length-append}
use Rattle.std.specs.Prelude.{slice_get, ◌==◌, ◌⊎◌, nat_le, if◌then◌else◌, ◌&&◌}
use Rattle.std.specs.List.{AllByRecursion, range_with_len, list_all}
use Rattle.std.proofs.lemmas.Bool.{and_parts, ne_eqb, not-true}
use Rattle.std.proofs.lemmas.Bool.Decides.{nat_tests}
use Rattle.l4_model.specs.Machine.{Machine}
use Rattle.l4_model.specs.World.{changed}
use Rattle.l4_model.proofs.Chains.{bind_then, some_is}
use Rattle.l4_core_model.specs.Letters.{Letter}
use Rattle.l4_core_model.specs.Local.{Local, opening_local}
use Rattle.l4_core_model.specs.Turns.{Choice, choice, is_busy}
use Rattle.l4_core_model.specs.Runs.{System, processors, letters, Action, Handles, Turns, Ticks, Happened, happens, Run, then_event, core_run, opening_run, is_empty, local_at_rest, at_rest}
use Rattle.l4_core_model.specs.Schedules.{first_poster, turn_of, or_stays, attempts, attempts_all, least_deadline, earliest, earliest_of, turns_in_order, round, ticks, ticks_to, turns_of, has_gone_on, round_or_ticks, unless_ended, rounds, run}
use Rattle.l4_core_model.proofs.Lists.{all-map}
use Rattle.l4_merge.specs.Transitions.{LocalEvent, Handled, Turned, Ticked, letters_with}
use Rattle.l4_merge.specs.Rounds.{Round, Turning, Ticking, is_no_tick, local_is_idle, is_idle, after_round, after_rounds, IsInRounds}
use Rattle.l4_merge.proofs.Lists.{filter-none}
use Rattle.l4_merge.proofs.Mail.{no_letters}
use Rattle.l4_merge.proofs.Own.{if_own}
use Rattle.l4_merge.proofs.Destinations.{no_letter_stays}
use Rattle.l4_merge.proofs.OneDeed.{given, IsGiven, locals_then, mail_then}
use Rattle.l4_merge.proofs.Processors.{each_processor}
use Rattle.l4_merge.proofs.RunDeeds.{transition_of}
use Rattle.l4_merge.proofs.InRounds.{if_then, turns_then}

-- There is one processor, and no letter for it is under way.
pub record IsAlone (r : Run) : Type 0 where
  pub local : Local
  pub locals : r.system.locals ≡ local ∷ []
  pub none : (from : ℕ) → letters r.system.mail from 0 ≡ []

one_processor : (m : Machine) → m.cpus ≡ 1 → processors m ≡ 0 ∷ []
one_processor m one = ap (range_with_len 0) one

opening_alone : (m : Machine) → m.cpus ≡ 1 → IsAlone (opening_run m)
opening_alone m one = record { local = opening_local m 0; locals = ap (map (opening_local m)) (one_processor m one); none = λ from. refl }

only : (l : Local) (cpu : ℕ) (x : Local) → slice_get (l ∷ []) cpu ≡ Some x → cpu ≡ 0
only l zero x at = refl
only l (suc cpu) x at = cc

only_in : (r : Run) (cpu : ℕ) (x : Local) → IsAlone r → slice_get r.system.locals cpu ≡ Some x → cpu ≡ 0
only_in r cpu x alone at = only alone.local cpu x (ap (λ ls. slice_get ls cpu) (sym alone.locals) ∙ at)

here : (r : Run) (alone : IsAlone r) → slice_get r.system.locals 0 ≡ Some alone.local
here r alone = ap (λ ls. slice_get ls 0) alone.locals

-- It stays alone

none_given : (cpu : ℕ) (event : LocalEvent) (g : System) → ((from : ℕ) → letters g.mail from cpu ≡ []) → IsGiven cpu event g →
    (from : ℕ) → letters (given cpu event g).mail from cpu ≡ []
none_given cpu (Handled poster letter) g none first from = absurd (let nothing = none poster in let something = first.is in cc)
none_given cpu Turned g none first from = none from
none_given cpu (Ticked clock) g none first from = none from

none_posted : (cpu : ℕ) (ls : List (ℕ × Letter)) → AllByRecursion (λ p. p.0 ≢ cpu) ls → letters_with cpu ls ≡ []
none_posted cpu ls elsewhere =
    ap (map (λ (p : ℕ × Letter). p.1)) (filter-none (λ (p : ℕ × Letter). p.0 == cpu) ls
    (all-map (λ (p : ℕ × Letter). p.0 ≢ cpu) (λ p. (p.0 == cpu) ≡ false) (λ p ne. ne_eqb p.0 cpu ne) ls elsewhere))

stays_alone : (m : Machine) (r : Run) (e : Action) (h : Happened) → IsAlone r → happens m r.system e ≡ Some h → IsAlone (then_event r h)
stays_alone m r e h alone is =
    let g = r.system in
    let of = transition_of m g e h is in
    let d = of.transition in
    let own : d.cpu ≡ 0 = only_in r d.cpu of.local alone of.at in
    let none : (from : ℕ) → letters g.mail from d.cpu ≡ [] = subst (λ cpu. (from : ℕ) → letters g.mail from cpu ≡ []) (sym own) alone.none in
    let posted : letters_with 0 d.work.letters ≡ [] =
    subst (λ cpu. letters_with cpu d.work.letters ≡ []) own
    (none_posted d.cpu d.work.letters (no_letter_stays m d.cpu of.local d.event d.work of.does.work)) in
    let stays : (from : ℕ) → letters (given d.cpu d.event g).mail from 0 ≡ [] =
    subst (λ cpu. (from : ℕ) → letters (given d.cpu d.event g).mail from cpu ≡ []) own (none_given d.cpu d.event g none of.first) in
    subst (λ h. IsAlone (then_event r h)) of.is (record {
      local = d.work.local;
      locals = locals_then d g ∙ ap (λ ls. changed (λ l. d.work.local) ls d.cpu) alone.locals
          ∙ ap (changed (λ (l : Local). d.work.local) (alone.local ∷ [])) own;
      none = λ from.
          mail_then d g from 0 ∙ ap (λ ls. ls ++ if_own from d (letters_with 0 d.work.letters)) (stays from)
          ∙ ap (if_own from d) posted ∙ sym (no_letters (d.cpu == from));
    })

-- The round and the ticks of one processor

gone_on : (r : Run) (h : Happened) → has_gone_on r (then_event r h) ≡ true
gone_on r h = let longer : turns_of (then_event r h) ≡ turns_of r + 1 = length-append r.events (h.event ∷ []) in grind (arith, nat_tests)

not_gone_on : (r : Run) → has_gone_on r r ≡ false
not_gone_on r = grind (arith, nat_tests)

abbrev next_run : Machine → Run → Run
next_run m r = round_or_ticks m r (round m r)

round_is : (m : Machine) (r : Run) → m.cpus ≡ 1 → IsAlone r → round m r ≡ attempts m r (Turns 0)
round_is m r one alone =
    ap (turns_in_order m r) (one_processor m one)
    ∙ ap (λ cpus. attempts m r (turn_of 0 (first_poster r.system 0 cpus))) (one_processor m one)
    ∙ ap (λ (ls : List Letter). attempts m r (turn_of 0 (if is_empty ls then None else Some 0))) (alone.none 0)

-- A turn is the next event.
next_turned : (m : Machine) (r : Run) (h : Happened) → m.cpus ≡ 1 → IsAlone r → happens m r.system (Turns 0) ≡ Some h → next_run m r ≡ then_event r h
next_turned m r h one alone is =
    ap (round_or_ticks m r) (round_is m r one alone ∙ ap (or_stays r) is)
    ∙ ap (λ b. if b then then_event r h else ticks m (then_event r h)) (gone_on r h)

-- Where there is none, the tick is.
next_ticked : (m : Machine) (r : Run) → m.cpus ≡ 1 → (alone : IsAlone r) → is_busy m 0 alone.local ≡ false → next_run m r ≡ ticks m r
next_ticked m r one alone idle =
    ap (round_or_ticks m r) (round_is m r one alone ∙ by (choice m 0 alone.local) refl)
    ∙ ap (λ b. if b then r else ticks m r) (not_gone_on r)
  where
    by : (o : Option Choice) → choice m 0 alone.local ≡ o → attempts m r (Turns 0) ≡ r
    by None is = let at = here r alone in rw (at, is) refl
    by (Some c) is = absurd cc

ticks_is : (m : Machine) (r : Run) → m.cpus ≡ 1 → ticks m r ≡ ticks_to m r (earliest (least_deadline r.system 0) None)
ticks_is m r one = ap (λ cpus. ticks_to m r (earliest_of (map (least_deadline r.system) cpus))) (one_processor m one)

ticks_to_is : (m : Machine) (r : Run) (deadline : ℕ) → m.cpus ≡ 1 → ticks_to m r (Some deadline) ≡ attempts m r (Ticks 0 deadline)
ticks_to_is m r deadline one = ap (λ cpus. attempts_all m r (map (λ cpu. Ticks cpu deadline) cpus)) (one_processor m one)

-- Rounds from a run on lead to the last one, where as many are left as there are turns.
record Leads (m : Machine) (most : ℕ) (last r : Run) : Type 0 where
  left : ℕ
  count : left + turns_of r ≡ most
  is : rounds m most left r ≡ last

lead_before : (m : Machine) (most : ℕ) (last r : Run) (h : Happened) → next_run m r ≡ then_event r h → Leads m most last (then_event r h) → Leads m most last r
lead_before m most last r h next lead =
    let longer : turns_of after ≡ turns_of r + 1 = length-append r.events (h.event ∷ []) in
    let count = lead.count in
    record {
      left = suc lead.left;
      count = omega arith;
      is = ap (λ after. unless_ended most r after more) next
          ∙ ap (λ b. if b then (if nat_le most (turns_of after) then after else more after) else after) (gone_on r h)
          ∙ by (nat_le most (turns_of after)) refl ∙ lead.is;
    }
  where
    after : Run
    after = then_event r h

    more : Run → Run
    more q = rounds m most lead.left q

    by : (b : Bool) → nat_le most (turns_of after) ≡ b → (if b then after else more after) ≡ more after
    by true used =
        let count = lead.count in
        let none : lead.left ≡ 0 = grind (arith, nat_tests) in
        sym (ap (λ left. rounds m most left after) none)
    by false used = refl

-- What is attempted next adds the next event, or none.
attempt_leads : (m : Machine) (most : ℕ) (last r : Run) (e : Action) → next_run m r ≡ attempts m r e → IsAlone r →
    (IsAlone (attempts m r e) → Leads m most last (attempts m r e)) → Leads m most last r
attempt_leads m most last r e next alone goes = by (happens m r.system e) refl next goes
  where
    by : (o : Option Happened) → happens m r.system e ≡ o → next_run m r ≡ or_stays r o → (IsAlone (or_stays r o) → Leads m most last (or_stays r o)) →
        Leads m most last r
    by None is next goes = goes alone
    by (Some h) is next goes = lead_before m most last r h next (goes (stays_alone m r e h alone is))

-- Turns: no letter is handled, so each is the core's own

next_happened : (m : Machine) (r : Run) (e : Action) (h : Happened) → m.cpus ≡ 1 → IsAlone r → is_no_tick e ≡ true → happens m r.system e ≡ Some h →
    next_run m r ≡ then_event r h
next_happened m r (Handles cpu from) h one alone turn is =
    bind_then (slice_get r.system.locals cpu) _ h is λ l at is.
    bind_then (slice_get (letters r.system.mail from cpu) 0) _ h is λ letter first is.
    let none = subst (λ cpu. letters r.system.mail from cpu ≡ []) (sym (only_in r cpu l alone at)) (alone.none from) in
    absurd (let nothing = ap (λ ls. slice_get ls 0) none in cc)
next_happened m r (Turns cpu) h one alone turn is =
    bind_then (slice_get r.system.locals cpu) _ h is λ l at rest.
    next_turned m r h one alone (subst (λ cpu. happens m r.system (Turns cpu) ≡ Some h) (only_in r cpu l alone at) is)
next_happened m r (Ticks cpu clock) h one alone turn is = cc

turns_lead : (m : Machine) (most : ℕ) (last : Run) (es : List Action) (r after : Run) → m.cpus ≡ 1 → list_all is_no_tick es ≡ true →
    core_run m r es ≡ Some after → IsAlone r → (IsAlone after → Leads m most last after) → Leads m most last r
turns_lead m most last [] r after one turns is alone goes = subst (λ q. IsAlone q → Leads m most last q) (sym (some_is r after is)) goes alone
turns_lead m most last (e ∷ es) r after one turns is alone goes =
    bind_then (happens m r.system e) _ after is λ h may is.
    let parts = and_parts (is_no_tick e) (list_all is_no_tick es) turns in
    lead_before m most last r h (next_happened m r e h one alone parts.0 may)
    (turns_lead m most last es (then_event r h) after one parts.1 is (stays_alone m r e h alone may) goes)

-- Ticks: there is one clock, and one deadline to go on to

is_not_busy : (m : Machine) (r : Run) → m.cpus ≡ 1 → (alone : IsAlone r) → is_idle m r.system ≡ true → is_busy m 0 alone.local ≡ false
is_not_busy m r one alone idle =
    let all = (and_parts (list_all (local_is_idle m r.system) (processors m)) (is_empty r.system.mail) idle).0 in
    let same : local_is_idle m r.system 0 ≡ not (is_busy m 0 alone.local) = let at = here r alone in rw at in
    not-true (is_busy m 0 alone.local) (sym same ∙ each_processor m (local_is_idle m r.system) all 0 (omega arith))

ticks_lead : (m : Machine) (most : ℕ) (last r : Run) → m.cpus ≡ 1 → IsAlone r → is_idle m r.system ≡ true →
    (IsAlone (ticks m r) → Leads m most last (ticks m r)) → Leads m most last r
ticks_lead m most last r one alone idle goes = by (least_deadline r.system 0) refl
  where
    next : next_run m r ≡ ticks m r
    next = next_ticked m r one alone (is_not_busy m r one alone idle)

    from_there : (q : Run) → ticks m r ≡ q → IsAlone q → Leads m most last q
    from_there q same = subst (λ q. IsAlone q → Leads m most last q) same goes

    by : (o : Option ℕ) → least_deadline r.system 0 ≡ o → Leads m most last r
    by None is = from_there r (ticks_is m r one ∙ ap (λ o. ticks_to m r (earliest o None)) is) alone
    by (Some deadline) is =
        let same : ticks m r ≡ attempts m r (Ticks 0 deadline) =
        ticks_is m r one ∙ ap (λ o. ticks_to m r (earliest o None)) is ∙ ticks_to_is m r deadline one in
        attempt_leads m most last r (Ticks 0 deadline) (next ∙ same) alone (from_there (attempts m r (Ticks 0 deadline)) same)

-- Rounds

round_leads : (m : Machine) (turns most : ℕ) (last : Run) (round : Round) (r after : Run) → m.cpus ≡ 1 → after_round m turns r round ≡ Some after →
    IsAlone r → (IsAlone after → Leads m most last after) → Leads m most last r
round_leads m turns most last (Turning es) r after one is alone goes =
    turns_then m turns r after es is λ no_ticks is.
    turns_lead m most last es r after one no_ticks is alone goes
round_leads m turns most last Ticking r after one is alone goes =
    if_then (is_idle m r.system) (Some (ticks m r)) after is λ idle is.
    ticks_lead m most last r one alone idle (subst (λ q. IsAlone q → Leads m most last q) (sym (some_is (ticks m r) after is)) goes)

rounds_lead : (m : Machine) (turns most : ℕ) (last : Run) (all : List Round) (r : Run) → m.cpus ≡ 1 → after_rounds m turns r all ≡ Some last → IsAlone r →
    (IsAlone last → Leads m most last last) → Leads m most last r
rounds_lead m turns most last [] r one is alone goes = subst (λ q. IsAlone q → Leads m most last q) (sym (some_is r last is)) goes alone
rounds_lead m turns most last (round ∷ all) r one is alone goes =
    bind_then (after_round m turns r round) _ last is λ next may is.
    round_leads m turns most last round r next one may alone (λ alone. rounds_lead m turns most last all next one is alone goes)

-- The end: no turn is left, or nothing is to be done

none_first : {A : Type 0} (xs : List A) → is_empty xs ≡ true → slice_get xs 0 ≡ None
none_first [] none = refl
none_first (x ∷ xs) none = cc

rested_next : (m : Machine) (r : Run) → m.cpus ≡ 1 → IsAlone r → at_rest m r.system ≡ true → next_run m r ≡ r
rested_next m r one alone rest =
    let l = alone.local in
    let at = here r alone in
    let all = (and_parts (list_all (local_at_rest m r.system) (processors m)) (is_empty r.system.mail) rest).0 in
    let same : local_at_rest m r.system 0 ≡ (not (is_busy m 0 l) && is_empty l.lists.armed) = rw at in
    let parts = and_parts (not (is_busy m 0 l)) (is_empty l.lists.armed)
    (sym same ∙ each_processor m (local_at_rest m r.system) all 0 (omega arith)) in
    let unarmed = none_first l.lists.armed parts.1 in
    let none : least_deadline r.system 0 ≡ None = rw (at, unarmed) refl in
    next_ticked m r one alone (not-true (is_busy m 0 l) parts.0) ∙ ticks_is m r one ∙ ap (λ o. ticks_to m r (earliest o None)) none

ended : (m : Machine) (most : ℕ) (r : Run) → m.cpus ≡ 1 → turns_of r ≤ most → (most ≤ turns_of r) ⊎ (at_rest m r.system ≡ true) → IsAlone r → Leads m most r r
ended m most r one few how alone = ⊎_elim used rest how
  where
    used : most ≤ turns_of r → Leads m most r r
    used all = record { left = 0; count = omega arith; is = refl }

    stays : next_run m r ≡ r → (left : ℕ) → rounds m most left r ≡ r
    stays next zero = refl
    stays next (suc left) =
        ap (λ after. unless_ended most r after (λ after. rounds m most left after)) next
        ∙ ap (λ b. if b then (if nat_le most (turns_of r) then r else rounds m most left r) else r) (not_gone_on r)

    rest : at_rest m r.system ≡ true → Leads m most r r
    rest h = record { left = most - turns_of r; count = omega arith; is = stays (rested_next m r one alone h) (most - turns_of r) }

-- So it is the run by rounds of one turn each.
pub alone : (m : Machine) (turns most : ℕ) (r : Run) → m.cpus ≡ 1 → IsInRounds m turns r → length r.events ≤ most →
    (most ≤ length r.events) ⊎ (at_rest m r.system ≡ true) → r ≡ run m most
alone m turns most r one is few how =
    let lead = rounds_lead m turns most r is.0 (opening_run m) one is.1 (opening_alone m one) (ended m most r one few how) in
    let count : lead.left + 0 ≡ most = lead.count in
    let all : most ≡ lead.left = omega arith in
    sym (ap (λ left. rounds m most left (opening_run m)) all ∙ lead.is)

-- What several logs have told, event by event, as entries of a schedule.
use Rattle.std.proofs.Common.{◌≡◌, true, ℕ, zero, suc, ◌+◌, ◌<◌, ◌≤◌, Option, Some, None, List, [], ◌∷◌, map, set, refl, drop, get_or, length, ap, ap₂, sym, ◌∙◌, subst, arith}
use Rattle.std.specs.Prelude.{is_some, slice_get, slice_index_or}
use Rattle.std.specs.Option.{option_map}
use Rattle.std.specs.List.{AllByRecursion, range_with_len}
use Rattle.std.proofs.lemmas.List.{append-nil, map-set, length-map}
use Rattle.std.proofs.lemmas.Option.{slice_get-get_or, slice_get_within, get_or_from_slice_get}
use Rattle.l4_model.specs.Machine.{Machine}
use Rattle.l4_model.proofs.Chains.{get-map, set_changed, some_is}
use Rattle.l4_core_model.specs.Runs.{Event, Action, merged, opening_run, processors}
use Rattle.l4_core_model.specs.Schedules.{Entry, replay_entries}
use Rattle.l4_bisimilar.specs.Entries.{entry_of}
use Rattle.l4_bisimilar.proofs.Replayed.{replayed}
use Rattle.l4_merge.specs.LocalTraces.{LocalTrace, all_events}
use Rattle.l4_merge.proofs.Sorted.{length-merged}
use Rattle.l4_merge.specs.Recorded.{then_others, actions_in, recorded}
use Rattle.l4_proc.specs.Logs.{actions, events}
use Rattle.l4_proc.specs.Working.{past}
use Rattle.l4_proc.specs.declared.log.Log.{Log}
use Rattle.l4_proc.specs.declared.processor.Processor.{Processor}
use Rattle.l4_proc.proofs.Ends.{as_many}
use Rattle.l4_replay.specs.Entries.{entries_fault, most_events}
use Rattle.l4_machine.specs.Inner.Teams.{count_events, AreInOrder}
use Rattle.l4_machine.proofs.Lawful.{no_strangers}
use Rattle.l4_machine.proofs.Members.{pasts_are}
use Rattle.l4_machine.specs.Inner.EventsLeft.{all_left, least_place, left, IsUnmerged}
use Rattle.l4_machine.specs.Gathered.{IsGathered}
use Rattle.l4_machine.specs.Gathers.{events_of, past_of, pasts_of, with_number}
use Rattle.l4_machine.specs.Outcomes.{Findings, IsOutcomeOf}
use Rattle.l4_machine.specs.Inner.Recorded.{entries_left, happened_left, actions_of, recorded_entries, HasTakenEntry}
use Rattle.l4_machine.specs.Inner.Rising.{AreRising, HaveRisingLogs, RiseFrom}
use Rattle.l4_machine.specs.declared.unmerged.Unmerged.{Unmerged}
use Rattle.l4_machine.proofs.EventsLeft.{all_joined, all_left_are, already_merged, at_place, chosen, joined, taken}

-- An event of logs that rise is of the processor at whose place its log stands.
own_place : (cpu : ℕ) (ls : List (List Event)) (place : ℕ) (e : Event) (es : List Event) → RiseFrom cpu ls → slice_get ls place ≡ Some (e ∷ es) →
    e.cpu ≡ cpu + place
own_place cpu [] place e es rise here = absurd cc
own_place cpu (l ∷ ls) zero e es rise here =
    let same : l ≡ e ∷ es = cc in
    let first = (subst (λ l. RiseFrom cpu (l ∷ ls)) same rise).0.0 in
    omega (arith, first)
own_place cpu (l ∷ ls) (suc place) e es rise here = let rest = own_place (cpu + 1) ls place e es rise.1 here in omega (arith, rest)

-- What one element more leaves of a list.
pub one_less : {A : Type 0} (xs : List A) (n : ℕ) (x : A) → slice_get xs n ≡ Some x → drop n xs ≡ x ∷ drop (n + 1) xs
one_less [] n x at = absurd cc
one_less (y ∷ xs) zero x at = ap (λ y. y ∷ xs) (some_is y x at)
one_less (y ∷ xs) (suc n) x at =
    let next : suc (n + 1) ≡ suc n + 1 = omega arith in
    one_less xs n x at ∙ ap (λ k. x ∷ drop k (y ∷ xs)) next

-- What happened to the processor at a place.
pub happened_at : (ps : List Processor) (place : ℕ) (p : Processor) (log : Log) (i : ℕ) (h : Action) → place < length ps → p ≡ get_or ps place p →
    log ≡ p.worker.log → slice_get (actions log) i ≡ Some h → slice_get (actions_of (slice_get ps place)) i ≡ Some h
happened_at ps place p log i h lt is same at =
    ap (λ o. slice_get (actions_of o) i) (slice_get-get_or ps place p lt)
    ∙ ap (λ (q : Processor). slice_get (actions q.worker.log) i) (sym is) ∙ ap (λ (log : Log). slice_get (actions log) i) (sym same) ∙ at

-- The next event is taken, as this entry.
pub record IsTakenEntry (ps : List Processor) (olds news : List Unmerged) (entry : Entry) : Type 0 where
  pub whole : AllByRecursion (IsUnmerged ps) news
  pub rising : RiseFrom 0 (map (left ps) news)
  pub less : length (all_left ps news) < length (all_left ps olds)
  pub entries : entries_left ps olds ≡ entry ∷ entries_left ps news

-- The first that happened to the processor of the next event is what happened in it.
first_happens : (order : List ℕ) (place : ℕ) (each : List (List Action)) (h : Action) (hs : List Action) → slice_get each place ≡ Some (h ∷ hs) →
    actions_in (place ∷ order) each ≡ h ∷ actions_in order (set each place hs)
first_happens order place each h hs here =
    let is : get_or each place [] ≡ h ∷ hs = get_or_from_slice_get each place (h ∷ hs) [] here in
    let within = slice_get_within each place (h ∷ hs) here in
    ap₂ (λ first each. then_others first (actions_in order each)) is (sym (set_changed (drop 1) each place [] hs within (sym (ap (drop 1) is))))

pub taken_entry : (ps : List Processor) (us : List Unmerged) (place : ℕ) (d new : Unmerged) (entry : Entry) → AllByRecursion (IsUnmerged ps) us →
    RiseFrom 0 (map (left ps) us) → option_map (λ (first : ℕ × ℕ). first.0) (least_place (map (λ (u : Unmerged). u.stamp) us)) ≡ Some place →
    HasTakenEntry ps (slice_index_or us place d) new entry → IsTakenEntry ps us (set us place new) entry
taken_entry ps us place d new entry all rise is has =
    let next = (chosen ps us place all rise is).next in
    let there = at_place ps us place d (next.event ∷ next.rest) all next.here in
    let t = taken ps us place d new has.event.steps all rise is
    (record { event = has.event; first = has.first; whole = has.whole; told = refl }) in
    let both : has.event ∷ left ps new ≡ next.event ∷ next.rest = sym has.first ∙ there.2 in
    let rest : left ps new ≡ next.rest = cc in
    let news : map (left ps) (set us place new) ≡ set (map (left ps) us) place next.rest =
    map-set (left ps) us place new ∙ ap (set (map (left ps) us) place) rest in
    let left_over : all_left ps (set us place new) ≡ joined (set (map (left ps) us) place next.rest) = all_joined ps (set us place new) ∙ ap joined news in
    let from_0 = own_place 0 (map (left ps) us) place next.event next.rest rise next.here in
    let own : next.event.cpu ≡ place = omega (arith, from_0) in
    let order : map (λ (e : Event). e.cpu) (merged (all_left ps us)) ≡ place ∷ map (λ (e : Event). e.cpu) (merged (all_left ps (set us place new))) =
    ap (λ es. map (λ (e : Event). e.cpu) (merged es)) (all_joined ps us) ∙ ap (map (λ (e : Event). e.cpu)) next.merges
    ∙ ap₂ (λ c es. c ∷ map (λ (e : Event). e.cpu) (merged es)) own (sym left_over) in
    let here : slice_get (map (happened_left ps) us) place ≡ Some (has.action ∷ happened_left ps new) =
    get-map (happened_left ps) us place (slice_index_or us place d) (slice_get-get_or us place d there.0) ∙ ap Some has.happened in
    record {
      whole = t.whole;
      rising = t.rising;
      less = t.less;
      entries = ap (λ order. map entry_of (actions_in order (map (happened_left ps) us))) order
          ∙ ap (map entry_of) (first_happens (map (λ (e : Event). e.cpu) (merged (all_left ps (set us place new)))) place (map (happened_left ps) us) has.action (happened_left ps new) here)
          ∙ ap₂ (λ e each. e ∷ map entry_of (actions_in (map (λ (e : Event). e.cpu) (merged (all_left ps (set us place new)))) each)) (sym has.is) (sym (map-set (happened_left ps) us place new));
    }

-- Where nothing is told yet, all that is left is what the processors did.

actions_past : (m : Machine) (cpu : ℕ) (o : Option Processor) → (past_of m cpu o).actions ≡ actions_of o
actions_past m cpu None = refl
actions_past m cpu (Some p) = refl

each_happened : (m : Machine) (ps : List Processor) (cpus : List ℕ) →
    map (λ (past : LocalTrace). past.actions) (map (λ cpu. past_of m cpu (with_number cpu ps)) cpus) ≡ map (λ cpu. actions_of (with_number cpu ps)) cpus
each_happened m ps [] = refl
each_happened m ps (cpu ∷ cpus) = ap₂ (λ h hs. h ∷ hs) (actions_past m cpu (with_number cpu ps)) (each_happened m ps cpus)

pub all_entries_left : (m : Machine) (ps : List Processor) (cpus : ℕ) (us : List Unmerged) → cpus ≡ m.cpus →
    map (left ps) us ≡ map (λ cpu. events_of (with_number cpu ps)) (range_with_len 0 cpus) →
    map (happened_left ps) us ≡ map (λ cpu. actions_of (with_number cpu ps)) (range_with_len 0 cpus) → entries_left ps us ≡ recorded_entries m ps
all_entries_left m ps cpus us count are happened =
    ap₂ (λ es each. map entry_of (actions_in (map (λ (e : Event). e.cpu) (merged es)) each)) (all_left_are m ps cpus us count are)
    (happened ∙ ap (λ n. map (λ cpu. actions_of (with_number cpu ps)) (range_with_len 0 n)) count ∙ sym (each_happened m ps (processors m)))

-- A replay of them has the outcome that the processors came to together.
pub is_replayed : (m : Machine) (ps : List Processor) (entries : List Entry) (o : Findings) → entries ≡ recorded_entries m ps → IsGathered m ps o →
    IsOutcomeOf m (replay_entries m entries) o
is_replayed m ps entries o are g =
    let same : replay_entries m entries ≡ g.run = ap (replay_entries m) are ∙ replayed m (recorded (pasts_of m ps)) (opening_run m) g.run g.whole.recorded in
    subst (λ r. IsOutcomeOf m r o) (sym same) g.outcome

-- They are entries of the machine, and no more than a replay takes.
pub are_lawful : (m : Machine) (ps : List Processor) (entries : List Entry) (o : Findings) → AreInOrder m ps → count_events ps ≤ most_events →
    entries ≡ recorded_entries m ps → IsGathered m ps o → entries_fault m entries ≡ None
are_lawful m ps entries o all few are g =
    let many : length g.run.events ≡ count_events ps =
    ap length g.whole.events ∙ length-merged (all_events (pasts_of m ps)) ∙ ap (λ pasts. length (all_events pasts)) (pasts_are m ps all) in
    ap (entries_fault m) are ∙ no_strangers m (recorded (pasts_of m ps)) g.run most_events g.whole.recorded (omega (arith, many, few))

-- The log of a processor that is alone

-- What happened in its events is what happened to it.
its_own : (cpu : ℕ) (es : List Event) (hs : List Action) → cpu ≡ 0 → AreRising cpu es → length es ≡ length hs → actions_in (map (λ (e : Event). e.cpu) es) (hs ∷ []) ≡ hs
its_own cpu [] [] zeroth rise many = refl
its_own cpu [] (h ∷ hs) zeroth rise many = cc
its_own cpu (e ∷ es) [] zeroth rise many = cc
its_own cpu (e ∷ es) (h ∷ hs) zeroth rise many =
    ap (λ n. actions_in (n ∷ map (λ (e : Event). e.cpu) es) ((h ∷ hs) ∷ [])) (rise.0 ∙ zeroth)
    ∙ ap (λ hs. h ∷ hs) (its_own cpu es hs zeroth rise.1.1 (omega (arith, many)))

pub as_many_actions : (log : Log) → length (actions log) ≡ length (events log)
as_many_actions log = length-map log.ends.items _ ∙ sym (as_many log.cpu 0 log.ends.items _)

pub found_within : (ps : List Processor) (i : ℕ) → is_some (slice_get ps i) ≡ true → i < length ps
found_within ps i some = by (slice_get ps i) refl some
  where
    by : (o : Option Processor) → slice_get ps i ≡ o → is_some o ≡ true → i < length ps
    by None is e = absurd cc
    by (Some p) is e = slice_get_within ps i p is

pub recorded_is_own : (m : Machine) (ps : List Processor) (p : Processor) → m.cpus ≡ 1 → with_number 0 ps ≡ Some p → HaveRisingLogs m ps →
    map entry_of (actions p.worker.log) ≡ recorded_entries m ps
recorded_is_own m ps p one here rise =
    let log : Log = p.worker.log in
    let pasts : pasts_of m ps ≡ past p ∷ [] =
    ap (λ n. map (λ cpu. past_of m cpu (with_number cpu ps)) (range_with_len 0 n)) one ∙ ap (λ o. past_of m 0 o ∷ []) here in
    let rises : AreRising 0 (events log) =
    (subst (λ (o : Option Processor). RiseFrom 0 (events_of o ∷ [])) here
    (subst (λ n. RiseFrom 0 (map (λ cpu. events_of (with_number cpu ps)) (range_with_len 0 n))) one rise)).0 in
    ap (map entry_of)
    (sym (ap recorded pasts
    ∙ ap (λ es. actions_in (map (λ (e : Event). e.cpu) (merged es)) (actions log ∷ [])) (append-nil (events log))
    ∙ ap (λ es. actions_in (map (λ (e : Event). e.cpu) es) (actions log ∷ [])) (already_merged 0 (events log) rises)
    ∙ its_own 0 (events log) (actions log) refl rises (sym (as_many_actions log))))

-- The events of several logs, told one by one, come out merged.
use Rattle.std.proofs.Common.{◌≡◌, ℕ, zero, suc, ◌+◌, ◌<◌, ◌≤◌, Bool, true, false, cond, nat_le, Option, Some, None, List, [], ◌∷◌, ◌++◌, map, set, refl, drop, length, length-append, ap, ap₂, sym, ◌∙◌, subst, arith}
use Rattle.std.specs.Prelude.{is_some, slice_get, slice_index_or}
use Rattle.std.specs.Option.{option_map}
use Rattle.std.specs.List.{AllByRecursion, flat_map, range_with_len}
use Rattle.std.proofs.lemmas.Bool.Decides.{nat_tests}
use Rattle.std.proofs.lemmas.List.{map-set}
use Rattle.std.proofs.lemmas.List.Sorted.{IsPermutation-trans}
use Rattle.l4_model.specs.Machine.{Machine}
use Rattle.l4_model.specs.Steps.{Step}
use Rattle.l4_core_model.proofs.Lists.{all-map, all-map_with}
use Rattle.l4_core_model.specs.Local.{Local}
use Rattle.l4_machine.proofs.InLogs.{all_events_are}
use Rattle.l4_core_model.specs.Runs.{processors, Event, is_earlier, put_event, merged, told}
use Rattle.l4_merge.specs.Transitions.{Transition, told_by, Lead}
use Rattle.l4_merge.proofs.Transitions.{lead_above}
use Rattle.l4_merge.proofs.EventOrder.{earlier_flip, earlier_by_stamp, earlier_by_cpu}
use Rattle.l4_merge.proofs.Lists.{all-append, all-of_map}
use Rattle.l4_merge.proofs.Permuted.{merged_moves}
use Rattle.l4_merge.specs.LocalTraces.{all_events}
use Rattle.l4_proc.specs.Logs.{events}
use Rattle.l4_proc.specs.declared.processor.Processor.{Processor}
use Rattle.l4_machine.specs.Gathers.{with_number, events_of, pasts_of, AreOfOne, IsMerge, IsOneOf}
use Rattle.l4_machine.specs.Inner.EventsLeft.{all_left, first_stamp, least_place, left, lower, HasTakenFirst, IsUnmerged}
use Rattle.l4_machine.specs.Inner.Rising.{AreRising, RiseFrom}
use Rattle.l4_machine.specs.declared.unmerged.Unmerged.{Unmerged}
use Rattle.l4_machine.proofs.InOneHand.{found}
use Rattle.l4_machine.proofs.Rising.{merged_sorted}

abbrev pub joined : List (List Event) → List Event
joined ls = flat_map (λ es. es) ls

-- An event that is not later than any other

put_first : (e : Event) (xs : List Event) → AllByRecursion (λ x. is_earlier e x ≡ true) xs → put_event e xs ≡ e ∷ xs
put_first e [] all = refl
put_first e (x ∷ xs) all = ap (λ b. cond b (e ∷ x ∷ xs) (x ∷ put_event e xs)) all.0

all-put : (P : Event → Type 0) (e : Event) (xs : List Event) → P e → AllByRecursion P xs → AllByRecursion P (put_event e xs)
all-put P e [] p all = (p, tt)
all-put P e (x ∷ xs) p all = by (is_earlier e x) (all-put P e xs p all.1)
  where
    by : (b : Bool) → AllByRecursion P (put_event e xs) → AllByRecursion P (cond b (e ∷ x ∷ xs) (x ∷ put_event e xs))
    by true rest = (p, (all.0, all.1))
    by false rest = (all.0, rest)

all-merged : (P : Event → Type 0) (es : List Event) → AllByRecursion P es → AllByRecursion P (merged es)
all-merged P [] all = tt
all-merged P (e ∷ es) all = all-put P e (merged es) all.0 (all-merged P es all.1)

first_merged : (e : Event) (es : List Event) → AllByRecursion (λ x. is_earlier e x ≡ true) es → merged (e ∷ es) ≡ e ∷ merged es
first_merged e es all = put_first e (merged es) (all-merged (λ x. is_earlier e x ≡ true) es all)

-- Events of one processor are in order already.
pub already_merged : (cpu : ℕ) (es : List Event) → AreRising cpu es → merged es ≡ es
already_merged cpu [] rise = refl
already_merged cpu (e ∷ es) rise =
    first_merged e es (all-map (λ (x : Event). e.stamp < x.stamp) (λ (x : Event). is_earlier e x ≡ true) (earlier_by_stamp e) es rise.1.0)
    ∙ ap (λ es. e ∷ es) (already_merged cpu es rise.1.1)

-- The first of the merged events stays so where no event that is put before the others is earlier.
stays_first : (e : Event) (es xs ys : List Event) → AllByRecursion (λ x. is_earlier x e ≡ false) es → merged xs ≡ e ∷ merged ys →
    merged (es ++ xs) ≡ e ∷ merged (es ++ ys)
stays_first e [] xs ys all is = is
stays_first e (x ∷ es) xs ys all is =
    ap (put_event x) (stays_first e es xs ys all.1 is)
    ∙ ap (λ b. cond b (x ∷ e ∷ merged (es ++ ys)) (e ∷ put_event x (merged (es ++ ys)))) all.0

-- The next event of several logs

cpus_above : (cpu : ℕ) (es : List Event) → AreRising cpu es → AllByRecursion (λ e. cpu ≤ e.cpu) es
cpus_above cpu [] rising = tt
cpus_above cpu (e ∷ es) rising = (omega (arith, rising.0), cpus_above cpu es rising.1.1)

all_cpus_above : (cpu : ℕ) (ls : List (List Event)) → RiseFrom cpu ls → AllByRecursion (λ e. cpu ≤ e.cpu) (joined ls)
all_cpus_above cpu [] rise = tt
all_cpus_above cpu (es ∷ ls) rise =
    all-append (λ e. cpu ≤ e.cpu) es (joined ls) (cpus_above cpu es rise.0)
    (all-map (λ (e : Event). cpu + 1 ≤ e.cpu) (λ (e : Event). cpu ≤ e.cpu) (λ e above. omega arith) (joined ls) (all_cpus_above (cpu + 1) ls rise.1))

-- The event that comes next, and what is left then.
pub record IsNext (ls : List (List Event)) (place stamp : ℕ) : Type 0 where
  pub event : Event
  pub rest : List Event
  pub here : slice_get ls place ≡ Some (event ∷ rest)
  pub same : event.stamp ≡ stamp
  pub merges : merged (joined ls) ≡ event ∷ merged (joined (set ls place rest))
  pub least : AllByRecursion (λ e. stamp ≤ e.stamp) (joined ls)

pub none_left : (ls : List (List Event)) → least_place (map first_stamp ls) ≡ None → joined ls ≡ []
none_left [] none = refl
none_left ([] ∷ ls) none = none_left ls (by (least_place (map first_stamp ls)) none)
  where
    by : (o : Option (ℕ × ℕ)) → lower None o ≡ None → o ≡ None
    by None none = refl
    by (Some first) none = absurd cc
none_left ((e ∷ es) ∷ ls) none = absurd (by (least_place (map first_stamp ls)) none)
  where
    by : (o : Option (ℕ × ℕ)) → lower (Some e.stamp) o ≡ None → ⊥
    by None none = cc
    by (Some first) none = above (nat_le e.stamp first.1) none
      where
        above : (b : Bool) → cond {A = Option (ℕ × ℕ)} b (Some (0, e.stamp)) (Some (suc first.0, first.1)) ≡ None → ⊥
        above true none = cc
        above false none = cc

first_here : (cpu : ℕ) (e : Event) (es : List Event) (ls : List (List Event)) → RiseFrom cpu ((e ∷ es) ∷ ls) →
    AllByRecursion (λ x. e.stamp ≤ x.stamp) (joined ls) → IsNext ((e ∷ es) ∷ ls) 0 e.stamp
first_here cpu e es ls rise above = record {
  event = e;
  rest = es;
  here = refl;
  same = refl;
  merges = first_merged e (es ++ joined ls) (all-append (λ x. is_earlier e x ≡ true) es (joined ls)
      (all-map (λ (x : Event). e.stamp < x.stamp) (λ (x : Event). is_earlier e x ≡ true) (earlier_by_stamp e) es rise.0.1.0)
      (all-map_with (λ (x : Event). e.stamp ≤ x.stamp) (λ (x : Event). cpu + 1 ≤ x.cpu) (λ (x : Event). is_earlier e x ≡ true)
      (λ x low cpus. earlier_by_cpu e x low (omega (arith, rise.0.0))) (joined ls) above (all_cpus_above (cpu + 1) ls rise.1)));
  least = (
    omega arith,
    all-append (λ x. e.stamp ≤ x.stamp) es (joined ls)
        (all-map (λ (x : Event). e.stamp < x.stamp) (λ (x : Event). e.stamp ≤ x.stamp) (λ x lt. omega arith) es rise.0.1.0) above,
  );
}

first_behind : (e : Event) (es : List Event) (ls : List (List Event)) (place stamp : ℕ) → AllByRecursion (λ x. e.stamp < x.stamp) es → stamp < e.stamp →
    IsNext ls place stamp → IsNext ((e ∷ es) ∷ ls) (suc place) stamp
first_behind e es ls place stamp rising low next =
    let above : AllByRecursion (λ (x : Event). stamp < x.stamp) (e ∷ es) =
    (low, all-map (λ (x : Event). e.stamp < x.stamp) (λ (x : Event). stamp < x.stamp) (λ x lt. omega arith) es rising) in
    record {
      event = next.event;
      rest = next.rest;
      here = next.here;
      same = next.same;
      merges = stays_first next.event (e ∷ es) (joined ls) (joined (set ls place next.rest))
          (all-map (λ (x : Event). stamp < x.stamp) (λ (x : Event). is_earlier x next.event ≡ false)
          (λ x lt. earlier_flip next.event x (earlier_by_stamp next.event x (omega (arith, next.same)))) (e ∷ es) above) next.merges;
      least = all-append (λ x. stamp ≤ x.stamp) (e ∷ es) (joined ls)
          (all-map (λ (x : Event). stamp < x.stamp) (λ (x : Event). stamp ≤ x.stamp) (λ x lt. omega arith) (e ∷ es) above) next.least;
    }

next_is : (ls : List (List Event)) (a b : ℕ × ℕ) → Some a ≡ Some b → IsNext ls a.0 a.1 → IsNext ls b.0 b.1
next_is ls a b is next =
    let same : a ≡ b = cc in
    subst (λ (p : ℕ × ℕ). IsNext ls p.0 p.1) same next

pub next_of : (cpu : ℕ) (ls : List (List Event)) (first : ℕ × ℕ) → RiseFrom cpu ls → least_place (map first_stamp ls) ≡ Some first → IsNext ls first.0 first.1
next_of cpu [] first rise is = absurd cc
next_of cpu ([] ∷ ls) first rise is = by (least_place (map first_stamp ls)) is (λ other of. next_of (cpu + 1) ls other rise.1 of)
  where
    by : (o : Option (ℕ × ℕ)) → lower None o ≡ Some first → ((other : ℕ × ℕ) → o ≡ Some other → IsNext ls other.0 other.1) → IsNext ([] ∷ ls) first.0 first.1
    by None is rest = absurd cc
    by (Some other) is rest =
        let next = rest other refl in
        next_is ([] ∷ ls) (suc other.0, other.1) first is (record {
          event = next.event;
          rest = next.rest;
          here = next.here;
          same = next.same;
          merges = next.merges;
          least = next.least;
        })
next_of cpu ((e ∷ es) ∷ ls) first rise is = by (least_place (map first_stamp ls)) refl is (λ other of. next_of (cpu + 1) ls other rise.1 of)
  where
    either : (other : ℕ × ℕ) → IsNext ls other.0 other.1 → (b : Bool) → nat_le e.stamp other.1 ≡ b →
        cond {A = Option (ℕ × ℕ)} b (Some (0, e.stamp)) (Some (suc other.0, other.1)) ≡ Some first → IsNext ((e ∷ es) ∷ ls) first.0 first.1
    either other next true low is = next_is ((e ∷ es) ∷ ls) (0, e.stamp) first is
        (first_here cpu e es ls rise (all-map (λ (x : Event). other.1 ≤ x.stamp) (λ (x : Event). e.stamp ≤ x.stamp)
        (λ x above. let le : e.stamp ≤ other.1 = grind (arith, nat_tests) in omega arith) (joined ls) next.least))
    either other next false high is = next_is ((e ∷ es) ∷ ls) (suc other.0, other.1) first is
        (first_behind e es ls other.0 other.1 rise.0.1.0 (grind (arith, nat_tests)) next)

    by : (o : Option (ℕ × ℕ)) → least_place (map first_stamp ls) ≡ o → lower (Some e.stamp) o ≡ Some first →
        ((other : ℕ × ℕ) → least_place (map first_stamp ls) ≡ Some other → IsNext ls other.0 other.1) → IsNext ((e ∷ es) ∷ ls) first.0 first.1
    by None of is rest =
        let none = none_left ls of in
        next_is ((e ∷ es) ∷ ls) (0, e.stamp) first is (first_here cpu e es ls rise (subst (AllByRecursion (λ x. e.stamp ≤ x.stamp)) (sym none) tt))
    by (Some other) of is rest = either other (rest other of) (nat_le e.stamp other.1) refl is

-- What is left of them rises too.
pub rise_on : (cpu : ℕ) (ls : List (List Event)) (place : ℕ) (e : Event) (es : List Event) → RiseFrom cpu ls → slice_get ls place ≡ Some (e ∷ es) →
    RiseFrom cpu (set ls place es)
rise_on cpu [] place e es rise here = tt
rise_on cpu (l ∷ ls) zero e es rise here =
    let same : l ≡ e ∷ es = cc in
    ((subst (AreRising cpu) same rise.0).1.1, rise.1)
rise_on cpu (l ∷ ls) (suc place) e es rise here = (rise.0, rise_on (cpu + 1) ls place e es rise.1 here)

-- Logs of processors

transitions_rise : (m : Machine) (cpu : ℕ) (l now : Local) (ds : List Transition) → Lead m cpu l ds now → AreRising cpu (map told_by ds)
transitions_rise m cpu l now [] lead = tt
transitions_rise m cpu l now (d ∷ ds) lead = (
  lead.0.own,
  (
    all-of_map (λ (x : Event). (told_by d).stamp < x.stamp) told_by ds (lead_above m cpu d.work.local now ds lead.1),
    transitions_rise m cpu d.work.local now ds lead.1,
  ),
)

log_rises : (m : Machine) (p : Processor) → IsOneOf m p → AreRising p.worker.core.cpu (events p.worker.log)
log_rises m p o =
    let are = o.worked.are in
    subst (AreRising p.worker.core.cpu) (sym are.events) (transitions_rise m p.worker.core.cpu _ p.worker.core.local o.worked.transitions are.lead)

rises_of : (m : Machine) (ps : List Processor) (cpu : ℕ) → AreOfOne m ps → (o : Option Processor) → with_number cpu ps ≡ o → AreRising cpu (events_of o)
rises_of m ps cpu one None is = tt
rises_of m ps cpu one (Some p) is =
    let f = found cpu ps p is in
    subst (λ cpu. AreRising cpu (events p.worker.log)) f.number (log_rises m p (one.each f.at p f.here))

-- The histories of all logs are one, however their events are listed.
pub is_merge : (m : Machine) (ps : List Processor) (steps : List Step) → steps ≡ told (merged (all_events (pasts_of m ps))) → IsMerge m ps steps
is_merge m ps steps is = λ es sorts moved.
    let all = all_events (pasts_of m ps) in
    is ∙ ap told (sorts (merged all) (IsPermutation-trans es all (merged all) moved (merged_moves all)) (merged_sorted all))

pub logs_rise : (m : Machine) (ps : List Processor) (from n : ℕ) → AreOfOne m ps →
    RiseFrom from (map (λ cpu. events_of (with_number cpu ps)) (range_with_len from n))
logs_rise m ps from zero one = tt
logs_rise m ps from (suc n) one = (rises_of m ps from one (with_number from ps) refl, logs_rise m ps (from + 1) n one)

-- Logs of which some events are told

pub all_joined : (ps : List Processor) (us : List Unmerged) → all_left ps us ≡ joined (map (left ps) us)
all_joined ps [] = refl
all_joined ps (u ∷ us) = ap (λ es. left ps u ++ es) (all_joined ps us)

stamps_are : (ps : List Processor) (us : List Unmerged) → AllByRecursion (IsUnmerged ps) us →
    map (λ (u : Unmerged). u.stamp) us ≡ map first_stamp (map (left ps) us)
stamps_are ps [] all = refl
stamps_are ps (u ∷ us) all = ap₂ (λ s ss. s ∷ ss) all.0.stamp (stamps_are ps us all.1)

-- The log at this place comes next.
pub record IsChosen (ps : List Processor) (us : List Unmerged) (place : ℕ) : Type 0 where
  pub stamp : ℕ
  pub next : IsNext (map (left ps) us) place stamp

pub chosen : (ps : List Processor) (us : List Unmerged) (place : ℕ) → AllByRecursion (IsUnmerged ps) us → RiseFrom 0 (map (left ps) us) →
    option_map (λ (first : ℕ × ℕ). first.0) (least_place (map (λ (u : Unmerged). u.stamp) us)) ≡ Some place → IsChosen ps us place
chosen ps us place all rise is = by (least_place (map first_stamp (map (left ps) us))) refl
    (subst (λ ss. option_map (λ (first : ℕ × ℕ). first.0) (least_place ss) ≡ Some place) (stamps_are ps us all) is)
  where
    by : (o : Option (ℕ × ℕ)) → least_place (map first_stamp (map (left ps) us)) ≡ o → option_map (λ (first : ℕ × ℕ). first.0) o ≡ Some place → IsChosen ps us place
    by None of is = absurd cc
    by (Some first) of is =
        let same : first.0 ≡ place = cc in
        record { stamp = first.1; next = subst (λ p. IsNext (map (left ps) us) p first.1) same (next_of 0 (map (left ps) us) first rise of) }

pub none_chosen : (ps : List Processor) (us : List Unmerged) → AllByRecursion (IsUnmerged ps) us →
    option_map (λ (first : ℕ × ℕ). first.0) (least_place (map (λ (u : Unmerged). u.stamp) us)) ≡ None → all_left ps us ≡ []
none_chosen ps us all is =
    all_joined ps us ∙ none_left (map (left ps) us) (by (least_place (map first_stamp (map (left ps) us)))
    (subst (λ ss. option_map (λ (first : ℕ × ℕ). first.0) (least_place ss) ≡ None) (stamps_are ps us all) is))
  where
    by : (o : Option (ℕ × ℕ)) → option_map (λ (first : ℕ × ℕ). first.0) o ≡ None → o ≡ None
    by None is = refl
    by (Some first) is = absurd cc

-- The log that is chosen, and what is told of it.
pub at_place : (ps : List Processor) (us : List Unmerged) (place : ℕ) (d : Unmerged) (es : List Event) → AllByRecursion (IsUnmerged ps) us →
    slice_get (map (left ps) us) place ≡ Some es → (place < length us) × IsUnmerged ps (slice_index_or us place d) × (left ps (slice_index_or us place d) ≡ es)
at_place ps [] place d es all here = absurd cc
at_place ps (u ∷ us) zero d es all here =
    let same : left ps u ≡ es = cc in
    (omega arith, all.0, same)
at_place ps (u ∷ us) (suc place) d es all here =
    let rest = at_place ps us place d es all.1 here in
    (omega (arith, rest.0), rest.1, rest.2)

pub all-set : (ps : List Processor) (us : List Unmerged) (place : ℕ) (u : Unmerged) → AllByRecursion (IsUnmerged ps) us → IsUnmerged ps u →
    AllByRecursion (IsUnmerged ps) (set us place u)
all-set ps [] place u all one = tt
all-set ps (v ∷ us) zero u all one = (one, all.1)
all-set ps (v ∷ us) (suc place) u all one = (all.0, all-set ps us place u all.1 one)

pub shorter : (ls : List (List Event)) (place : ℕ) (e : Event) (es : List Event) → slice_get ls place ≡ Some (e ∷ es) →
    length (joined (set ls place es)) < length (joined ls)
shorter [] place e es here = absurd cc
shorter (l ∷ ls) zero e es here =
    let same : l ≡ e ∷ es = cc in
    let size = ap length same in
    omega (arith, size, length-append l (joined ls), length-append es (joined ls))
shorter (l ∷ ls) (suc place) e es here =
    let rest = shorter ls place e es here in
    omega (arith, rest, length-append l (joined ls), length-append l (joined (set ls place es)))

pub stamp_left : (es : List Event) (n : ℕ) → option_map (λ (e : Event). e.stamp) (slice_get es n) ≡ first_stamp (drop n es)
stamp_left [] zero = refl
stamp_left [] (suc n) = refl
stamp_left (e ∷ es) zero = refl
stamp_left (e ∷ es) (suc n) = stamp_left es n

pub some_left : (es : List Event) (n : ℕ) → is_some (first_stamp (drop n es)) ≡ true → n < length es
some_left [] zero some = absurd cc
some_left [] (suc n) some = absurd cc
some_left (e ∷ es) zero some = omega arith
some_left (e ∷ es) (suc n) some = let rest = some_left es n some in omega arith

-- The next event is taken. These are its steps.
pub record IsTaken (ps : List Processor) (olds news : List Unmerged) (steps : List Step) : Type 0 where
  pub whole : AllByRecursion (IsUnmerged ps) news
  pub rising : RiseFrom 0 (map (left ps) news)
  pub less : length (all_left ps news) < length (all_left ps olds)
  pub told : told (merged (all_left ps olds)) ≡ steps ++ told (merged (all_left ps news))

pub taken : (ps : List Processor) (us : List Unmerged) (place : ℕ) (d new : Unmerged) (steps : List Step) → AllByRecursion (IsUnmerged ps) us →
    RiseFrom 0 (map (left ps) us) → option_map (λ (first : ℕ × ℕ). first.0) (least_place (map (λ (u : Unmerged). u.stamp) us)) ≡ Some place →
    HasTakenFirst ps (slice_index_or us place d) new steps → IsTaken ps us (set us place new) steps
taken ps us place d new steps all rise is has =
    let next = (chosen ps us place all rise is).next in
    let there = at_place ps us place d (next.event ∷ next.rest) all next.here in
    let both : has.event ∷ left ps new ≡ next.event ∷ next.rest = sym has.first ∙ there.2 in
    let event : has.event ≡ next.event = cc in
    let rest : left ps new ≡ next.rest = cc in
    let news : map (left ps) (set us place new) ≡ set (map (left ps) us) place next.rest =
    map-set (left ps) us place new ∙ ap (set (map (left ps) us) place) rest in
    let olds = all_joined ps us in
    let left_over : all_left ps (set us place new) ≡ joined (set (map (left ps) us) place next.rest) = all_joined ps (set us place new) ∙ ap joined news in
    record {
      whole = all-set ps us place new all has.whole;
      rising = subst (RiseFrom 0) (sym news) (rise_on 0 (map (left ps) us) place next.event next.rest rise next.here);
      less = let lt = shorter (map (left ps) us) place next.event next.rest next.here in omega (arith, lt, ap length olds, ap length left_over);
      told = ap (λ es. told (merged es)) olds
          ∙ ap told next.merges
          ∙ ap (λ (e : Event). e.steps ++ told (merged (joined (set (map (left ps) us) place next.rest)))) (sym event)
          ∙ ap₂ (λ (xs : List Step) (es : List Event). xs ++ told (merged es)) (sym has.told) (sym left_over);
    }

-- All events are left of logs that are whole.

joined_map : (f : ℕ → List Event) (cpus : List ℕ) → joined (map f cpus) ≡ flat_map f cpus
joined_map f [] = refl
joined_map f (cpu ∷ cpus) = ap (λ es. f cpu ++ es) (joined_map f cpus)

pub all_left_are : (m : Machine) (ps : List Processor) (cpus : ℕ) (us : List Unmerged) → cpus ≡ m.cpus →
    map (left ps) us ≡ map (λ cpu. events_of (with_number cpu ps)) (range_with_len 0 cpus) → all_left ps us ≡ all_events (pasts_of m ps)
all_left_are m ps cpus us count are =
    all_joined ps us ∙ ap joined are ∙ joined_map (λ cpu. events_of (with_number cpu ps)) (range_with_len 0 cpus)
    ∙ ap (λ n. flat_map (λ cpu. events_of (with_number cpu ps)) (range_with_len 0 n)) count ∙ sym (all_events_are m ps (processors m))

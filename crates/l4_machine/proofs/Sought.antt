-- The sends that are sought among the events of several logs.
use Rattle.std.proofs.Common.{◌≡◌, ℕ, zero, suc, ◌+◌, ◌-◌, ◌<◌, ◌≤◌, Bool, true, false, cond, Option, Some, None, List, [], ◌∷◌, ◌++◌, map, set, refl, drop, length, length-append, append_assoc, ap, sym, ◌∙◌, subst, inl, inr, ◌⊎◌, arith}
use Rattle.std.specs.Prelude.{IfSome, filter_map, get_or, slice_get, slice_index_or}
use Rattle.std.specs.Option.{option_map}
use Rattle.std.specs.List.{AllByRecursion}
use Rattle.std.proofs.lemmas.List.{map-set, set-set}
use Rattle.std.proofs.lemmas.List.Elements.{filter_map-append}
use Rattle.std.proofs.lemmas.Option.{slice_get_cases}
use Rattle.l4_model.specs.Steps.{Step}
use Rattle.l4_core_model.proofs.Lists.{all-append}
use Rattle.l4_core_model.specs.Runs.{Event, is_earlier, put_event, merged, told}
use Rattle.l4_merge.proofs.EventOrder.{earlier_flip, earlier_by_cpu, earlier_than_rest, stamps_rise}
use Rattle.l4_proc.specs.declared.processor.Processor.{Processor}
use Rattle.l4_machine.specs.Gathers.{events_of}
use Rattle.l4_machine.specs.Inner.EventsLeft.{all_left, least_place, left, IsUnmerged}
use Rattle.l4_machine.specs.Inner.Rising.{AreRising, RiseFrom}
use Rattle.l4_machine.specs.Inner.Waiting.{HasFoundFirst, HasPassed, IsSilent}
use Rattle.l4_machine.specs.declared.unmerged.Unmerged.{Unmerged}
use Rattle.l4_replay.proofs.Sought.{one_less}
use Rattle.l4_machine.proofs.EventsLeft.{joined, all_joined, all-set, at_place, chosen, rise_on, shorter}

-- Events of different processors are merged in any order.

swap : (a e : Event) (xs : List Event) → is_earlier a e ≡ true → put_event a (put_event e xs) ≡ put_event e (put_event a xs)
swap a e [] first =
    ap (λ b. cond b (a ∷ e ∷ []) (e ∷ a ∷ [])) first ∙ sym (ap (λ b. cond b (e ∷ a ∷ []) (a ∷ e ∷ [])) (earlier_flip a e first))
swap a e (x ∷ xs) first = by (is_earlier e x) (is_earlier a x) refl refl (swap a e xs first)
  where
    flip : is_earlier e a ≡ false
    flip = earlier_flip a e first

    by : (b c : Bool) → is_earlier e x ≡ b → is_earlier a x ≡ c → put_event a (put_event e xs) ≡ put_event e (put_event a xs) →
        put_event a (cond b (e ∷ x ∷ xs) (x ∷ put_event e xs)) ≡ put_event e (cond c (a ∷ x ∷ xs) (x ∷ put_event a xs))
    by true true above over rest =
        ap (λ k. cond k (a ∷ e ∷ x ∷ xs) (e ∷ put_event a (x ∷ xs))) first
        ∙ ap (λ k. a ∷ cond k (e ∷ x ∷ xs) (x ∷ put_event e xs)) (sym above)
        ∙ ap (λ k. cond k (e ∷ a ∷ x ∷ xs) (a ∷ put_event e (x ∷ xs))) (sym flip)
    by true false above over rest =
        let higher : is_earlier a x ≡ true = earlier_than_rest a e x first (earlier_flip e x above) in
        let wrong : true ≡ false = sym higher ∙ over in
        absurd cc
    by false true above over rest =
        ap (λ k. cond k (a ∷ x ∷ put_event e xs) (x ∷ put_event a (put_event e xs))) over
        ∙ ap (λ k. a ∷ cond k (e ∷ x ∷ xs) (x ∷ put_event e xs)) (sym above)
        ∙ ap (λ k. cond k (e ∷ a ∷ x ∷ xs) (a ∷ put_event e (x ∷ xs))) (sym flip)
    by false false above over rest =
        ap (λ k. cond k (a ∷ x ∷ put_event e xs) (x ∷ put_event a (put_event e xs))) over
        ∙ ap (λ ys. x ∷ ys) rest
        ∙ ap (λ k. cond k (e ∷ x ∷ put_event a xs) (x ∷ put_event e (put_event a xs))) (sym above)

swap_apart : (a e : Event) (xs : List Event) → a.cpu < e.cpu → put_event a (put_event e xs) ≡ put_event e (put_event a xs)
swap_apart a e xs lower = by (is_earlier a e) (is_earlier e a) refl refl
  where
    by : (b c : Bool) → is_earlier a e ≡ b → is_earlier e a ≡ c → put_event a (put_event e xs) ≡ put_event e (put_event a xs)
    by true c first flip = swap a e xs first
    by false true first flip = sym (swap e a xs flip)
    by false false first flip =
        let earlier : is_earlier a e ≡ true = earlier_by_cpu a e (stamps_rise a e flip) lower in
        let wrong : true ≡ false = sym earlier ∙ first in
        absurd cc

-- The first event of one of several logs can be put in last.

cpu_there : (cpu : ℕ) (ls : List (List Event)) (place : ℕ) (e : Event) (es : List Event) → RiseFrom cpu ls → slice_get ls place ≡ Some (e ∷ es) → cpu ≤ e.cpu
cpu_there cpu [] place e es rise here = absurd cc
cpu_there cpu (l ∷ ls) zero e es rise here =
    let same : l ≡ e ∷ es = cc in
    let first = subst (AreRising cpu) same rise.0 in
    omega (arith, first.0)
cpu_there cpu (l ∷ ls) (suc place) e es rise here = omega (arith, cpu_there (cpu + 1) ls place e es rise.1 here)

moved_out : (cpu : ℕ) (l : List Event) (e : Event) (xs ys : List Event) → AreRising cpu l → cpu < e.cpu → merged xs ≡ put_event e (merged ys) →
    merged (l ++ xs) ≡ put_event e (merged (l ++ ys))
moved_out cpu [] e xs ys rising above is = is
moved_out cpu (a ∷ l) e xs ys rising above is =
    ap (put_event a) (moved_out cpu l e xs ys rising.1.1 above is) ∙ swap_apart a e (merged (l ++ ys)) (omega (arith, rising.0))

taken_out : (cpu : ℕ) (ls : List (List Event)) (place : ℕ) (e : Event) (es : List Event) → RiseFrom cpu ls → slice_get ls place ≡ Some (e ∷ es) →
    merged (joined ls) ≡ put_event e (merged (joined (set ls place es)))
taken_out cpu [] place e es rise here = absurd cc
taken_out cpu (l ∷ ls) zero e es rise here =
    let same : l ≡ e ∷ es = cc in
    ap (λ (l : List Event). merged (l ++ joined ls)) same
taken_out cpu (l ∷ ls) (suc place) e es rise here =
    moved_out cpu l e (joined ls) (joined (set ls place es)) rise.0 (omega (arith, cpu_there (cpu + 1) ls place e es rise.1 here))
    (taken_out (cpu + 1) ls place e es rise.1 here)

-- A silent event can be left out.

found_put : {A : Type 0} (f : Step → Option A) (e : Event) (xs : List Event) → IsSilent f e → filter_map f (told (put_event e xs)) ≡ filter_map f (told xs)
found_put f e [] silent = filter_map-append f e.steps [] ∙ ap (λ ys. ys ++ []) silent
found_put f e (x ∷ xs) silent = by (is_earlier e x) (found_put f e xs silent)
  where
    by : (b : Bool) → filter_map f (told (put_event e xs)) ≡ filter_map f (told xs) →
        filter_map f (told (cond b (e ∷ x ∷ xs) (x ∷ put_event e xs))) ≡ filter_map f (told (x ∷ xs))
    by true rest = filter_map-append f e.steps (told (x ∷ xs)) ∙ ap (λ ys. ys ++ filter_map f (told (x ∷ xs))) silent
    by false rest =
        filter_map-append f x.steps (told (put_event e xs)) ∙ ap (λ ys. filter_map f x.steps ++ ys) rest ∙ sym (filter_map-append f x.steps (told xs))

there_set : {A : Type 0} (ls : List A) (place : ℕ) (was now : A) → slice_get ls place ≡ Some was → slice_get (set ls place now) place ≡ Some now
there_set [] place was now here = absurd cc
there_set (l ∷ ls) zero was now here = refl
there_set (l ∷ ls) (suc place) was now here = there_set ls place was now here

set_there : {A : Type 0} (ls : List A) (place : ℕ) (x : A) → slice_get ls place ≡ Some x → set ls place x ≡ ls
set_there [] place x here = refl
set_there (l ∷ ls) zero x here = let same : l ≡ x = cc in ap (λ y. y ∷ ls) (sym same)
set_there (l ∷ ls) (suc place) x here = ap (λ ys. l ∷ ys) (set_there ls place x here)

-- So can several, one behind the other.
pub record IsPassed {A : Type 0} (f : Step → Option A) (olds news : List (List Event)) : Type 0 where
  pub found : filter_map f (told (merged (joined olds))) ≡ filter_map f (told (merged (joined news)))
  pub rise : RiseFrom 0 news

pub passed_over : {A : Type 0} (f : Step → Option A) (ls : List (List Event)) (place : ℕ) (passed es : List Event) → RiseFrom 0 ls →
    slice_get ls place ≡ Some (passed ++ es) → AllByRecursion (IsSilent f) passed → IsPassed f ls (set ls place es)
passed_over f ls place [] es rise here silent =
    let same = set_there ls place es here in
    record { found = ap (λ (ls : List (List Event)). filter_map f (told (merged (joined ls)))) (sym same); rise = subst (RiseFrom 0) (sym same) rise }
passed_over f ls place (e ∷ passed) es rise here silent =
    let rest = passed_over f (set ls place (passed ++ es)) place passed es (rise_on 0 ls place e (passed ++ es) rise here)
    (there_set ls place (e ∷ passed ++ es) (passed ++ es) here) silent.1 in
    let twice = set-set ls place (passed ++ es) es in
    record {
      found = ap (λ (xs : List Event). filter_map f (told xs)) (taken_out 0 ls place e (passed ++ es) rise here)
          ∙ found_put f e (merged (joined (set ls place (passed ++ es)))) silent.0
          ∙ rest.found
          ∙ ap (λ (ls : List (List Event)). filter_map f (told (merged (joined ls)))) twice;
      rise = subst (RiseFrom 0) twice rest.rise;
    }

no_longer : (ls : List (List Event)) (place : ℕ) (passed es : List Event) → slice_get ls place ≡ Some (passed ++ es) →
    length (joined (set ls place es)) ≤ length (joined ls)
no_longer [] place passed es here = omega arith
no_longer (l ∷ ls) zero passed es here =
    let same : l ≡ passed ++ es = cc in
    omega (arith, ap length same, length-append passed es, length-append l (joined ls), length-append es (joined ls))
no_longer (l ∷ ls) (suc place) passed es here =
    let rest = no_longer ls place passed es here in
    omega (arith, rest, length-append l (joined ls), length-append l (joined (set ls place es)))

-- One event more of a log is passed.
pub one_passed : {A : Type 0} (f : Step → Option A) (olds es : List Event) (i : ℕ) (steps : List Step) → i < length es →
    IfSome (slice_get es i) (λ e. e.steps ≡ steps) → filter_map f steps ≡ [] → HasPassed f olds (drop i es) → HasPassed f olds (drop (i + 1) es)
one_passed f olds es i steps within are silent has = by (slice_get_cases es i).1
  where
    by : ((x : Event) × (i < length es) × (slice_get es i ≡ Some x) × (get_or es i x ≡ x)) ⊎ ((length es ≤ i) × (slice_get es i ≡ None)) → HasPassed f olds (drop (i + 1) es)
    by (inl (x, _, at, is)) =
        let same : x.steps ≡ steps = subst (λ (o : Option Event). IfSome o (λ e. e.steps ≡ steps)) at are in
        record {
          passed = has.passed ++ x ∷ [];
          are = has.are ∙ ap (λ (ys : List Event). has.passed ++ ys) (one_less es i x at) ∙ sym (append_assoc has.passed (x ∷ []) (drop (i + 1) es));
          silent = all-append (IsSilent f) has.passed x has.silent (ap (filter_map f) same ∙ silent);
        }
    by (inr past) = let least : length es ≤ i = past.0 in absurd (omega arith)

pub found_first : {A : Type 0} (f : Step → Option A) (ps : List Processor) (old new : Unmerged) (es : List Event) (first next : ℕ) (steps : List Step)
    (before after : List A) → events_of (slice_get ps old.place) ≡ es → first ≡ old.count - old.left → first < length es →
    IfSome (slice_get es first) (λ e. e.steps ≡ steps) → after ≡ before ++ filter_map f steps → HasPassed f (drop (first + 1) es) (drop next es) →
    left ps new ≡ drop next es → IsUnmerged ps new → HasFoundFirst f ps old new before after
found_first {A} f ps old new es first next steps before after here at_first within are grown passed behind whole = by (slice_get_cases es first).1
  where
    by : ((x : Event) × (first < length es) × (slice_get es first ≡ Some x) × (get_or es first x ≡ x)) ⊎ ((length es ≤ first) × (slice_get es first ≡ None)) →
        HasFoundFirst f ps old new before after
    by (inl (x, _, at, is)) =
        let same : x.steps ≡ steps = subst (λ (o : Option Event). IfSome o (λ e. e.steps ≡ steps)) at are in
        record {
          event = x;
          behind = drop (first + 1) es;
          first = ap (λ (n : ℕ). drop n (events_of (slice_get ps old.place))) (sym at_first) ∙ ap (drop first) here ∙ one_less es first x at;
          passed = subst (HasPassed f (drop (first + 1) es)) (sym behind) passed;
          whole = whole;
          found = grown ∙ ap (λ (ss : List Step). before ++ filter_map f ss) (sym same);
        }
    by (inr past) = let least : length es ≤ first = past.0 in absurd (omega arith)

-- The next event is looked at, and silent ones behind it are passed.
pub record IsLookedAt {A : Type 0} (f : Step → Option A) (ps : List Processor) (olds news : List Unmerged) (before after : List A) : Type 0 where
  pub whole : AllByRecursion (IsUnmerged ps) news
  pub rising : RiseFrom 0 (map (left ps) news)
  pub less : length (all_left ps news) < length (all_left ps olds)
  pub found : before ++ filter_map f (told (merged (all_left ps olds))) ≡ after ++ filter_map f (told (merged (all_left ps news)))

pub looked_at : {A : Type 0} (f : Step → Option A) (ps : List Processor) (us : List Unmerged) (place : ℕ) (d new : Unmerged) (before after : List A) →
    AllByRecursion (IsUnmerged ps) us → RiseFrom 0 (map (left ps) us) →
    option_map (λ (first : ℕ × ℕ). first.0) (least_place (map (λ (u : Unmerged). u.stamp) us)) ≡ Some place →
    HasFoundFirst f ps (slice_index_or us place d) new before after → IsLookedAt f ps us (set us place new) before after
looked_at {A} f ps us place d new before after all rise is has =
    let next = (chosen ps us place all rise is).next in
    let there = at_place ps us place d (next.event ∷ next.rest) all next.here in
    let both : has.event ∷ has.behind ≡ next.event ∷ next.rest = sym has.first ∙ there.2 in
    let event : has.event ≡ next.event = cc in
    let rest : has.behind ≡ next.rest = cc in
    let ls = map (left ps) us in
    let one = set ls place next.rest in
    let here : slice_get one place ≡ Some (has.passed.passed ++ left ps new) =
    there_set ls place (next.event ∷ next.rest) next.rest next.here ∙ ap (λ (es : List Event). Some es) (sym rest ∙ has.passed.are) in
    let over = passed_over f one place has.passed.passed (left ps new) (rise_on 0 ls place next.event next.rest rise next.here) here has.passed.silent in
    let news : set one place (left ps new) ≡ map (left ps) (set us place new) = set-set ls place next.rest (left ps new) ∙ sym (map-set (left ps) us place new) in
    let olds = all_joined ps us in
    let left_over : joined (set one place (left ps new)) ≡ all_left ps (set us place new) = ap joined news ∙ sym (all_joined ps (set us place new)) in
    let behind = filter_map f (told (merged (joined one))) in
    record {
      whole = all-set ps us place new all has.whole;
      rising = subst (RiseFrom 0) news over.rise;
      less =
          let lt = shorter ls place next.event next.rest next.here in
          let le = no_longer one place has.passed.passed (left ps new) here in
          omega (arith, lt, le, ap length olds, ap length left_over);
      found = ap (λ (es : List Event). before ++ filter_map f (told (merged es))) olds
          ∙ ap (λ (es : List Event). before ++ filter_map f (told es)) next.merges
          ∙ ap (λ (ys : List A). before ++ ys) (filter_map-append f next.event.steps (told (merged (joined one))))
          ∙ ap (λ (e : Event). before ++ (filter_map f e.steps ++ behind)) (sym event)
          ∙ sym (append_assoc before (filter_map f has.event.steps) behind)
          ∙ ap (λ (ys : List A). ys ++ behind) (sym has.found)
          ∙ ap (λ (ys : List A). after ++ ys) (over.found ∙ ap (λ (es : List Event). filter_map f (told (merged es))) left_over);
    }

-- The clocks go on to the least deadline of all.
use Rattle.std.proofs.Common.{◌≡◌, ◌⊎◌, ℕ, zero, suc, ◌+◌, ◌*◌, ◌^◌, ◌<◌, ◌≤◌, Bool, true, false, cond, min, Option, Some, None, List, [], ◌∷◌, ◌++◌, map, length, drop, get_or, refl, ap, ap₂, sym, ◌∙◌, subst, inl, inr, ⊎_elim, arith, append_assoc, length-append, Vec, Global}
use Rattle.std.specs.Prelude.{slice_get, is_some, nat_le, nat_lt, not, IfSome}
use Rattle.std.specs.Vec.{with_items}
use Rattle.std.specs.Option.{option_map}
use Rattle.std.specs.List.{range_with_len}
use Rattle.std.specs.List.Sorted.{IsPermutation}
use Rattle.std.proofs.lemmas.Bool.{and_from, cases_lt}
use Rattle.std.proofs.lemmas.Bool.Decides.{nat_tests}
use Rattle.std.proofs.lemmas.Option.{slice_get_within}
use Rattle.std.proofs.lemmas.List.{with_items_is}
use Rattle.l4_model.specs.Machine.{Machine}
use Rattle.l4_model.specs.World.{changed}
use Rattle.l4_model.specs.Steps.{Tick}
use Rattle.l4_model.proofs.Chains.{some_is, get-map, guard_then}
use Rattle.l4_core_model.specs.Local.{Local, own_places}
use Rattle.l4_core_model.specs.Plain as plain
use Rattle.l4_core_model.specs.Runs.{Run, Ticks, is_empty}
use Rattle.l4_core_model.specs.Schedules.{attempts, attempts_all, least_deadline, earliest, earliest_of, earliest_deadline, ticks, ticks_to}
use Rattle.l4_core_model.specs.Acts.{Work, ◌▷◌, does, tells}
use Rattle.l4_core_model.specs.Turns.{ByDue, ByReady, advance, clock_is, first_duty, first_some, is_busy, opened}
use Rattle.l4_merge.specs.LocalTraces.{LocalTrace, letters_posted, letters_handled, all_events}
use Rattle.l4_merge.specs.LocalTraces as transitions
use Rattle.l4_merge.specs.Merges.{EndsAt}
use Rattle.l4_merge.specs.Rounds.{IsInRounds}
use Rattle.l4_merge.proofs.Ticking.{ends_ticked, permuted_ticked}
use Rattle.l4_merge.proofs.InRounds.{ticked_in_rounds, ticks_core_run, idles}
use Rattle.l4_mail.specs.Ports.{kept_from, AreOneFabric, AreWhole}
use Rattle.l4_mail.specs.declared.ports.Port.{Port}
use Rattle.l4_proc.specs.Rests.{HaveHandledAll}
use Rattle.l4_proc.specs.Working.{past, HasGoneOn, HasTicked}
use Rattle.l4_proc.specs.declared.processor.Processor.{Processor}
use Rattle.l4_proc.proofs.Rested.{port_of}
use Rattle.l4_machine.specs.Gathers.{AreResting}
use Rattle.l4_machine.specs.Inner.Teams.{pasts, count_events, deadline_of, first_deadline, AreIdle, HasComeTo, HaveCome, HaveComeTo}
use Rattle.l4_replay.proofs.Endings.{unarmed_is}
use Rattle.l4_machine.proofs.Counting.{events_in, first_counted}
use Rattle.l4_machine.proofs.InOneHand.{all_handled_between}
use Rattle.l4_machine.proofs.Members.{some_there, mapped_range, in_order_gone_on, in_order_have_numbers, pasts_are}
use Rattle.l4_machine.proofs.Turned.{local_at, past_at}
use Rattle.l4_proc.proofs.Going.{taken_none}

-- The least deadline of all

deadline_there : (m : Machine) (ps : List Processor) (r : Run) (i : ℕ) (p : Processor) → HaveCome m ps r → slice_get ps i ≡ Some p →
    least_deadline r.system i ≡ deadline_of p
deadline_there m ps r i p come at = let here = local_at m ps r i p come at in rw here refl

pub first_is : (m : Machine) (ps : List Processor) (r : Run) → HaveCome m ps r → earliest_deadline m r.system ≡ first_deadline ps
first_is m ps r come =
    ap (λ n. earliest_of (map (least_deadline r.system) (range_with_len 0 n))) (sym come.in_order.for_each)
    ∙ ap earliest_of (mapped_range (least_deadline r.system) deadline_of ps 0
    (λ k p at. let same : 0 + k ≡ k = omega arith in ap (least_deadline r.system) same ∙ deadline_there m ps r k p come at))

-- It is that of one of them.
pub record IsFirstDeadline (ps : List Processor) (deadline : ℕ) : Type 0 where
  pub at : ℕ
  pub processor : Processor
  pub there : slice_get ps at ≡ Some processor
  pub is : deadline_of processor ≡ Some deadline

pub first_there : (ps : List Processor) (deadline : ℕ) → first_deadline ps ≡ Some deadline → IsFirstDeadline ps deadline
first_there [] deadline is = absurd cc
first_there (p ∷ ps) deadline is = by (deadline_of p) (first_deadline ps) refl refl is (first_there ps deadline)
  where
    here : deadline_of p ≡ Some deadline → IsFirstDeadline (p ∷ ps) deadline
    here same = record { at = 0; processor = p; there = refl; is = same }

    later : IsFirstDeadline ps deadline → IsFirstDeadline (p ∷ ps) deadline
    later f = record { at = suc f.at; processor = f.processor; there = f.there; is = f.is }

    one : (a b : ℕ) → (min a b ≡ a) ⊎ (min a b ≡ b)
    one a b = ⊎_elim (λ lt. inl (omega arith)) (λ le. inr (omega arith)) (cases_lt a b)

    by : (a b : Option ℕ) → deadline_of p ≡ a → first_deadline ps ≡ b → earliest a b ≡ Some deadline →
        (first_deadline ps ≡ Some deadline → IsFirstDeadline ps deadline) → IsFirstDeadline (p ∷ ps) deadline
    by None b own others is rest = later (rest (others ∙ is))
    by (Some a) None own others is rest = here (own ∙ is)
    by (Some a) (Some b) own others is rest = ⊎_elim
        (λ e. here (own ∙ ap Some (sym e) ∙ is))
        (λ e. later (rest (others ∙ ap Some (sym e) ∙ is)))
        (one a b)

-- Where nothing is to be done, it is later than the clock there.

not_due : (clock : ℕ) (armed : List (ℕ × ℕ)) (deadline : ℕ) → option_map (λ (e : ℕ × ℕ). e.0) (slice_get armed 0) ≡ Some deadline →
    plain.due_block clock armed ≡ None → clock < deadline
not_due clock [] deadline is none = absurd cc
not_due clock (e ∷ armed) deadline is none = by (nat_le e.0 clock) refl none
  where
    by : (b : Bool) → nat_le e.0 clock ≡ b → cond b (Some e.1) None ≡ None → clock < deadline
    by true due none = absurd cc
    by false due none = let same = some_is e.0 deadline is in grind (arith, nat_tests)

none_chosen : {A : Type 0} (a b c : Option A) → is_some (first_some (a ∷ b ∷ c ∷ [])) ≡ false → b ≡ None
none_chosen None None c none = refl
none_chosen None (Some b) c none = absurd cc
none_chosen (Some a) b c none = absurd cc

not_mapped : {A B : Type 0} (f : A → B) (o : Option A) → option_map f o ≡ None → o ≡ None
not_mapped f None is = refl
not_mapped f (Some x) is = absurd cc

pub before_deadline : (p : Processor) (deadline : ℕ) → is_busy p.worker.core.machine p.worker.core.cpu p.worker.core.local ≡ false →
    deadline_of p ≡ Some deadline → p.worker.core.local.clock < deadline
before_deadline p deadline idle is =
    let m = p.worker.core.machine in
    let cpu = p.worker.core.cpu in
    let l = p.worker.core.local in
    not_due l.clock l.lists.armed deadline is (not_mapped ByDue (plain.due_block l.clock l.lists.armed)
    (none_chosen (first_duty m cpu l (own_places m cpu)) (option_map ByDue (plain.due_block l.clock l.lists.armed)) (option_map ByReady (slice_get l.lists.ready 0)) idle))

-- One clock after the other

-- A run that ends where they are, and has their events.
record Is (r : Run) (done : List LocalTrace) : Type 0 where
  ends : EndsAt r done
  events : IsPermutation (all_events done) r.events

at_middle : {A : Type 0} (xs : List A) (y : A) (ys : List A) → slice_get (xs ++ y ∷ ys) (length xs) ≡ Some y
at_middle [] y ys = refl
at_middle (x ∷ xs) y ys = at_middle xs y ys

changed_middle : {A : Type 0} (xs : List A) (y z : A) (ys : List A) → changed (λ x. z) (xs ++ y ∷ ys) (length xs) ≡ xs ++ z ∷ ys
changed_middle [] y z ys = refl
changed_middle (x ∷ xs) y z ys = ap (λ zs. x ∷ zs) (changed_middle xs y z ys)

late : (m : Machine) (r : Run) (cpu clock : ℕ) (l : Local) → slice_get r.system.locals cpu ≡ Some l → clock ≤ l.clock → attempts m r (Ticks cpu clock) ≡ r
late m r cpu clock l at le = let no : nat_lt l.clock clock ≡ false = grind (arith, nat_tests) in rw (at, no) refl

pub record AreNumbered (m : Machine) (start : ℕ) (ps : List Processor) : Type 0 where
  pub machine : (i : ℕ) (p : Processor) → slice_get ps i ≡ Some p → p.worker.core.machine ≡ m
  pub number : (i : ℕ) (p : Processor) → slice_get ps i ≡ Some p → p.worker.core.cpu ≡ start + i

one_tick : (m : Machine) (r : Run) (clock : ℕ) (done more : List LocalTrace) (old new : Processor) → Is r (done ++ past old ∷ more) →
    old.worker.core.machine ≡ m → old.worker.core.cpu ≡ length done → HasComeTo clock old new →
    Is (attempts m r (Ticks (length done) clock)) (done ++ past new ∷ more)
one_tick m r clock done more old new is same number come = ⊎_elim stays goes come
  where
    at : slice_get (done ++ past old ∷ more) (length done) ≡ Some (past old)
    at = at_middle done (past old) more

    here : slice_get r.system.locals (length done) ≡ Some old.worker.core.local
    here = ap (λ ls. slice_get ls (length done)) is.ends.locals ∙ get-map (λ (d : LocalTrace). d.local) (done ++ past old ∷ more) (length done) (past old) at

    stays : (clock ≤ old.worker.core.local.clock) × (new ≡ old) → Is (attempts m r (Ticks (length done) clock)) (done ++ past new ∷ more)
    stays t = subst (λ r. Is r (done ++ past new ∷ more)) (sym (late m r (length done) clock old.worker.core.local here t.0))
        (subst (λ p. Is r (done ++ past p ∷ more)) (sym t.1) is)

    goes : HasTicked clock old new → Is (attempts m r (Ticks (length done) clock)) (done ++ past new ∷ more)
    goes t =
        let h : transitions.HasTicked m (length done) clock (past old) (past new) = subst (λ m. transitions.HasTicked m (length done) clock (past old) (past new)) same
        (subst (λ cpu. transitions.HasTicked old.worker.core.machine cpu clock (past old) (past new)) number t.past) in
        subst (Is (attempts m r (Ticks (length done) clock))) (changed_middle done (past old) (past new) more) (record {
          ends = ends_ticked m r (length done) clock (done ++ past old ∷ more) (past old) (past new) is.ends at h;
          events = permuted_ticked m r (length done) clock (done ++ past old ∷ more) (past old) (past new) is.ends at h is.events;
        })

all_ticks : (m : Machine) (clock : ℕ) (olds news : List Processor) (r : Run) (done : List LocalTrace) → Is r (done ++ pasts olds) → AreNumbered m (length done) olds →
    HaveComeTo clock olds news → Is (attempts_all m r (map (λ cpu. Ticks cpu clock) (range_with_len (length done) (length olds)))) (done ++ pasts news)
all_ticks m clock [] [] r done is numbered come = is
all_ticks m clock [] (new ∷ news) r done is numbered come = absurd (let size = come.for_each in omega arith)
all_ticks m clock (old ∷ olds) [] r done is numbered come = absurd (let size = come.for_each in omega arith)
all_ticks m clock (old ∷ olds) (new ∷ news) r done is numbered come =
    let size = come.for_each in
    let first : old.worker.core.cpu ≡ length done = let n = numbered.number 0 old refl in omega arith in
    let one = one_tick m r clock done (pasts olds) old new is (numbered.machine 0 old refl) first (come.each 0 old new refl refl) in
    let after = attempts m r (Ticks (length done) clock) in
    let count : length (done ++ past new ∷ []) ≡ length done + 1 = length-append done (past new ∷ []) in
    let rest = all_ticks m clock olds news after (done ++ past new ∷ [])
    (subst (Is after) (sym (append_assoc done (past new ∷ []) (pasts olds))) one)
    (record {
      machine = λ i p at. numbered.machine (suc i) p at;
      number = λ i p at. let n = numbered.number (suc i) p at in omega (arith, count);
    })
    (record { for_each = omega arith; each = λ i a b was is. come.each (suc i) a b was is }) in
    subst (Is _) (append_assoc done (past new ∷ []) (pasts news))
    (subst (λ n. Is (attempts_all m after (map (λ cpu. Ticks cpu clock) (range_with_len n (length olds)))) ((done ++ past new ∷ []) ++ pasts news)) count rest)

-- How many events more there are

come_counted : (clock : ℕ) (old new : Processor) → HasComeTo clock old new → (events_in old ≤ events_in new) × (events_in new ≤ events_in old + 1)
come_counted clock old new come = ⊎_elim
    (λ t. let same = ap events_in t.1 in (omega arith, omega arith))
    (λ t. let one = t.one in (omega arith, omega arith))
    come

pub all_counted : (clock : ℕ) (olds news : List Processor) → HaveComeTo clock olds news →
    (count_events olds ≤ count_events news) × (count_events news ≤ count_events olds + length olds)
all_counted clock [] [] come = (omega arith, omega arith)
all_counted clock [] (new ∷ news) come = absurd (let size = come.for_each in omega arith)
all_counted clock (old ∷ olds) [] come = absurd (let size = come.for_each in omega arith)
all_counted clock (old ∷ olds) (new ∷ news) come =
    let size = come.for_each in
    let first = come_counted clock old new (come.each 0 old new refl refl) in
    let rest = all_counted clock olds news (record { for_each = omega arith; each = λ i a b was is. come.each (suc i) a b was is }) in
    let before = first_counted old olds in
    let behind = first_counted new news in
    let a = first.0 in
    let b = first.1 in
    let c = rest.0 in
    let d = rest.1 in
    (omega arith, omega arith)

pub one_counted : (clock : ℕ) (olds news : List Processor) (i : ℕ) (p : Processor) → HaveComeTo clock olds news → slice_get olds i ≡ Some p →
    p.worker.core.local.clock < clock → count_events olds < count_events news
one_counted clock [] news i p come at lt = absurd cc
one_counted clock (old ∷ olds) [] i p come at lt = absurd (let size = come.for_each in omega arith)
one_counted clock (old ∷ olds) (new ∷ news) zero p come at lt =
    let size = come.for_each in
    let rest = (all_counted clock olds news (record { for_each = omega arith; each = λ i a b was is. come.each (suc i) a b was is })).0 in
    let before = first_counted old olds in
    let behind = first_counted new news in
    let same : old ≡ p = some_is old p at in
    let low : old.worker.core.local.clock < clock = subst (λ (x : Processor). x.worker.core.local.clock < clock) (sym same) lt in
    let one : events_in new ≡ events_in old + 1 = ⊎_elim
    (λ t. absurd (let le = t.0 in omega arith))
    (λ t. t.one)
    (come.each 0 old new refl refl) in
    omega arith
one_counted clock (old ∷ olds) (new ∷ news) (suc i) p come at lt =
    let size = come.for_each in
    let first = (come_counted clock old new (come.each 0 old new refl refl)).0 in
    let rest = one_counted clock olds news i p (record { for_each = omega arith; each = λ i a b was is. come.each (suc i) a b was is }) at lt in
    let before = first_counted old olds in
    let behind = first_counted new news in
    omega arith

-- They are as they were but for their clocks

advanced_clock : (m : Machine) (cpu clock : ℕ) (l : Local) (x : Work) → advance m cpu clock l ≡ Some x → x.local.clock ≡ clock
advanced_clock m cpu clock l x is =
    let y : Work = opened 0 l ▷ tells (Tick cpu clock) ▷ does (clock_is clock) in
    guard_then (nat_lt l.clock clock) _ x is λ later is.
    guard_then (nat_lt clock (2 ^ 62)) (Some y) x is λ below is.
    ap (λ (x : Work). x.local.clock) (sym (some_is y x is))

ticked_clock : (clock : ℕ) (old new : Processor) → HasTicked clock old new → new.worker.core.local.clock ≡ clock
ticked_clock clock old new t = by (advance old.worker.core.machine old.worker.core.cpu clock old.worker.core.local) refl t.advances
  where
    by : (o : Option Work) → advance old.worker.core.machine old.worker.core.cpu clock old.worker.core.local ≡ o →
        option_map (λ (x : Work). x.local) o ≡ Some new.worker.core.local → new.worker.core.local.clock ≡ clock
    by None is to = absurd cc
    by (Some x) is to =
        ap (λ (l : Local). l.clock) (sym (some_is x.local new.worker.core.local to))
        ∙ advanced_clock old.worker.core.machine old.worker.core.cpu clock old.worker.core.local x is

port_same : (clock : ℕ) (old new : Processor) → HasComeTo clock old new → new.port ≡ old.port
port_same clock old new come = ⊎_elim (λ t. ap (λ (p : Processor). p.port) t.1) (λ t. t.port) come

hand_same : (clock : ℕ) (old new : Processor) → HasComeTo clock old new → new.worker.hand ≡ old.worker.hand
hand_same clock old new come = ⊎_elim (λ t. ap (λ (p : Processor). p.worker.hand) t.1) (λ t. t.hand) come

gone_to : (clock : ℕ) (old new : Processor) → HasComeTo clock old new → HasGoneOn old new
gone_to clock old new come = ⊎_elim (λ t. subst (HasGoneOn old) (sym t.1) (taken_none old).on) (λ t. t.on) come

pub ports_same : (clock : ℕ) (olds news : List Processor) → HaveComeTo clock olds news → map port_of news ≡ map port_of olds
ports_same clock [] [] come = refl
ports_same clock [] (new ∷ news) come = absurd (let size = come.for_each in omega arith)
ports_same clock (old ∷ olds) [] come = absurd (let size = come.for_each in omega arith)
ports_same clock (old ∷ olds) (new ∷ news) come =
    let size = come.for_each in
    ap₂ (λ x xs. x ∷ xs) (port_same clock old new (come.each 0 old new refl refl))
    (ports_same clock olds news (record { for_each = omega arith; each = λ i a b was is. come.each (suc i) a b was is }))

pub handled_same : (clock : ℕ) (olds news : List Processor) → HaveComeTo clock olds news → HaveHandledAll olds → HaveHandledAll news
handled_same clock olds news come all = record {
  hand = λ i p at.
      let size = come.for_each in
      let lt = slice_get_within news i p at in
      let old = some_there olds i (omega arith) in
      hand_same clock old.0 p (come.each i old.0 p old.1 at) ∙ all.hand i old.0 old.1;
  kept = λ i j from to ne at_from at_to.
      let size = come.for_each in
      let low = slice_get_within news i from at_from in
      let lt = slice_get_within news j to at_to in
      let a = some_there olds i (omega arith) in
      let b = some_there olds j (omega arith) in
      subst (λ (port : Port). kept_from port from.port.cpu ≡ []) (sym (port_same clock b.0 to (come.each j b.0 to b.1 at_to)))
      (subst (λ (port : Port). kept_from b.0.port port.cpu ≡ []) (sym (port_same clock a.0 from (come.each i a.0 from a.1 at_from)))
      (all.kept i j a.0 b.0 ne a.1 b.1));
}

-- So the run goes on

pub tick_in_rounds : (m : Machine) (turns : ℕ) (olds : List Processor) (r : Run) → IsInRounds m turns r → HaveCome m olds r → AreWhole (map port_of olds) →
    AreIdle olds → HaveHandledAll olds → IsInRounds m turns (ticks m r)
tick_in_rounds m turns olds r rounds was whole idle handled =
    let all = was.in_order in
    ticked_in_rounds m turns r rounds (idles m (pasts olds) r was.ends
    (λ cpu done at. let p = past_at olds cpu done at in
    subst (λ (d : LocalTrace). is_busy m cpu d.local ≡ false) p.1.1
    (subst (λ m. is_busy m cpu p.0.worker.core.local ≡ false) (all.of_one.each cpu p.0 p.1.0).machine
    (subst (λ n. is_busy p.0.worker.core.machine n p.0.worker.core.local ≡ false) (all.numbers cpu p.0 p.1.0) (idle cpu p.0 p.1.0))))
    (subst (λ done. (from to : ℕ) → letters_posted done from to ≡ letters_handled done from to) (pasts_are m olds all)
    (all_handled_between m olds all.of_one (in_order_have_numbers m olds all) whole handled)))

pub ticks_come : (m : Machine) (clock : ℕ) (olds news : List Processor) (r : Run) → HaveCome m olds r → AreWhole (map port_of olds) → AreIdle olds → HaveHandledAll olds →
    first_deadline olds ≡ Some clock → clock < (count_events olds + 1) * 2 ^ 42 → HaveComeTo clock olds news → HaveCome m news (ticks m r)
ticks_come m clock olds news r was whole idle handled first near come =
    let all = was.in_order in
    let size = come.for_each in
    let at_first = first_there olds clock first in
    let more : count_events olds < count_events news = one_counted clock olds news at_first.at at_first.processor come at_first.there
    (before_deadline at_first.processor clock (idle at_first.at at_first.processor at_first.there) at_first.is) in
    let ticked = all_ticks m clock olds news r [] (record { ends = was.ends; events = was.events })
    (record { machine = λ i p at. (all.of_one.each i p at).machine; number = λ i p at. let n = all.numbers i p at in omega arith }) come in
    let runs : ticks m r ≡ attempts_all m r (map (λ cpu. Ticks cpu clock) (range_with_len 0 (length olds))) =
    ap (ticks_to m r) (first_is m olds r was ∙ first) ∙ ap (λ n. attempts_all m r (map (λ cpu. Ticks cpu clock) (range_with_len 0 n))) (sym all.for_each) in
    record {
      in_order = in_order_gone_on m olds news size (λ i old new a b. gone_to clock old new (come.each i old new a b))
          (subst AreOneFabric (sym (ports_same clock olds news come)) all.of_one.one) all;
      core_run = ticks_core_run m r was.core_run;
      ends = subst (λ r. EndsAt r (pasts news)) (sym runs) ticked.ends;
      events = subst (λ (r : Run). IsPermutation (all_events (pasts news)) r.events) (sym runs) ticked.events;
      clocks = λ i p at.
          let lt = slice_get_within news i p at in
          let old = some_there olds i (omega arith) in
          let low = was.clocks i old.0 old.1 in
          ⊎_elim
          (λ t. let same = ap (λ (p : Processor). p.worker.core.local.clock) t.1 in omega arith)
          (λ t. let same = ticked_clock clock old.0 p t in omega arith)
          (come.each i old.0 p old.1 at);
    }

-- As the program does it

pub both_near : (a b : Option ℕ) (bound : ℕ) → IfSome a (λ d. d < bound) → IfSome b (λ d. d < bound) → IfSome (earliest a b) (λ d. d < bound)
both_near None b bound p q = q
both_near (Some a) None bound p q = p
both_near (Some a) (Some b) bound p q = omega arith

pub first_and_rest : (ps : List Processor) (i : ℕ) (d : Processor) → i < length ps →
    first_deadline (drop i ps) ≡ earliest (deadline_of (get_or ps i d)) (first_deadline (drop (i + 1) ps))
first_and_rest [] i d lt = absurd (omega arith)
first_and_rest (p ∷ ps) zero d lt = refl
first_and_rest (p ∷ ps) (suc i) d lt =
    let next : suc (i + 1) ≡ suc i + 1 = omega arith in
    first_and_rest ps i d (omega arith) ∙ ap (λ n. earliest (deadline_of (get_or ps i d)) (first_deadline (drop n (p ∷ ps)))) next

pub nearer : (o : Option ℕ) (a b : ℕ) → a ≤ b → IfSome o (λ d. d < a) → IfSome o (λ d. d < b)
nearer None a b le p = p
nearer (Some d) a b le p = omega arith

pub none_is_first : (ps : List Processor) → first_deadline ps ≡ None → (i : ℕ) (p : Processor) → slice_get ps i ≡ Some p → deadline_of p ≡ None
none_is_first [] none i p at = absurd cc
none_is_first (q ∷ ps) none i p at = by (deadline_of q) (first_deadline ps) refl refl none i at (λ none i at. none_is_first ps none i p at)
  where
    by : (a b : Option ℕ) → deadline_of q ≡ a → first_deadline ps ≡ b → earliest a b ≡ None → (i : ℕ) → slice_get (q ∷ ps) i ≡ Some p →
        (first_deadline ps ≡ None → (i : ℕ) → slice_get ps i ≡ Some p → deadline_of p ≡ None) → deadline_of p ≡ None
    by None b own others none zero at rest = ap deadline_of (sym (some_is q p at)) ∙ own
    by None b own others none (suc i) at rest = rest (others ∙ none) i at
    by (Some a) None own others none i at rest = absurd cc
    by (Some a) (Some b) own others none i at rest = absurd cc

-- Nothing is armed either: they rest.
pub idle_rest : (ps : List Processor) → AreIdle ps → HaveHandledAll ps → first_deadline ps ≡ None → AreResting ps
idle_rest ps idle handled none = record {
  each = λ i p at.
      and_from (not (is_busy p.worker.core.machine p.worker.core.cpu p.worker.core.local)) (is_empty p.worker.core.local.lists.armed)
      (ap not (idle i p at)) (unarmed_is (λ e. e.0) p.worker.core.local.lists.armed (none_is_first ps none i p at));
  handled = handled;
}

pub all_come : (v : Vec Processor Global) (slice news : List Processor) (clock : ℕ) → slice ≡ v.items → length slice ≡ v.len → HaveComeTo clock slice news →
    HaveComeTo clock v.items (with_items v news).items
all_come v slice news clock value len come =
    subst (HaveComeTo clock v.items) (sym (with_items_is v news (come.for_each ∙ len))) (subst (λ ps. HaveComeTo clock ps news) value come)

pub more_ticked : (clock : ℕ) (olds news : List Processor) → AreIdle olds → first_deadline olds ≡ Some clock → HaveComeTo clock olds news →
    count_events olds < count_events news
more_ticked clock olds news idle first come =
    let f = first_there olds clock first in
    one_counted clock olds news f.at f.processor come f.there (before_deadline f.processor clock (idle f.at f.processor f.there) f.is)

-- In each state that a core run leads to, the letters are in number. So each number that an event
-- asks for is the one that it finds.
use Rattle.std.proofs.Common.{◌≡◌, ℕ, zero, suc, ◌<◌, Bool, true, false, cond, Option, Some, None, List, [], ◌∷◌, ◌++◌, length, map, filter, refl, sym, ap, subst, ◌∙◌, arith}
use Rattle.std.specs.Prelude.{is_some, slice_get, slice_index_or, ◌==◌}
use Rattle.std.specs.List.{AllByRecursion}
use Rattle.std.proofs.lemmas.Bool.{eqb-true}
use Rattle.l4_model.specs.Machine.{Declaration, Machine}
use Rattle.l4_model.specs.World.{Name, Thread, World, changed, opening_thread}
use Rattle.l4_model.specs.Steps.{Tick}
use Rattle.l4_model.specs.Conditions.{◌>>=◌, ◌>>◌}
use Rattle.l4_model.proofs.Chains.{bind_then, some_is}
use Rattle.l4_core_model.specs.Plain as plain
use Rattle.l4_core_model.specs.Letters.{Content, DoneLetter, GoneLetter, Letter, OrderDoneLetter, OrderLetter, RetargetLetter, Result, SendLetter, WithdrawLetter}
use Rattle.l4_core_model.specs.Local.{Local, after_decision, comes_to, opening_local, thread}
use Rattle.l4_core_model.specs.Acts.{Work, does, split_place, tells, ◌▷◌}
use Rattle.l4_core_model.specs.Turns.{advance, clock_is, opened, turn}
use Rattle.l4_core_model.specs.Mail.{handle, handled}
use Rattle.l4_core_model.specs.Runs.{Happened, Action, IsMachine, Posted, Run, System, core_run, done, happens, letters, opening_run, opening_system, posted, processors, taken, then_event, told}
use Rattle.l4_core_model.specs.Laws.{IsCoreRun}
use Rattle.l4_core_model.proofs.Apart.{same_or_apart}
use Rattle.l4_core_model.proofs.Changed.{same_nat}
use Rattle.l4_core_model.proofs.Standing.{place_within}
use Rattle.l4_refines.proofs.Events.{advance_then, done_scene, event_then, local_at}
use Rattle.l4_refines.proofs.Frames.Going.{Goes, opened_goes}
use Rattle.l4_refines.proofs.Frames.Mail.{first_letter}
use Rattle.l4_refines.proofs.Law.{RunFacts, letters_lawful, run_facts}
use Rattle.l4_refines.proofs.Letters.Receiving.{foreign_place_is, kept_opened}
use Rattle.l4_refines.proofs.Lists.{one_of}
use Rattle.l4_refines.proofs.Relation.Relates.{Relates}
use Rattle.l4_refines.proofs.Relation.Views.{Kept, Scene, amid, home, nowhere, scene}
use Rattle.l4_refines.proofs.Sends.Finding.{held_is}
use Rattle.l4_refines.proofs.Turns.Ending.{IsListedSend, queued_here}
use Rattle.l4_bisimilar.proofs.Counts.{Grows, IsCounted, ListsOwn, at, count_at, counts, handled_counts, stays, turn_grows}
use Rattle.l4_bisimilar.proofs.InNumber.{Counting, IsBrought, IsInNumber, IsInTime, IsInTimeIn, grows_in_number, posted_in_number, stands_in_number, taken_in_number, with_counts}
use Rattle.l4_bisimilar.proofs.Named.{FitsNumber}

abbrev counting : Scene → Counting
counting s c = counts (s.locals c)

abbrev pub AreInNumber : Machine → Scene → Type 0
AreInNumber m s = IsInNumber m (counting s) s.mail

-- What is armed or ready on a processor belongs to it.

no_head : {A : Type 0} (p : A → Bool) (x : A) (xs ys : List A) → ys ≡ x ∷ xs → p x ≡ true →
    filter p ys ≡ [] → ⊥
no_head p x xs ys is kept_here none = cons (p x) kept_here (sym (ap (filter p) is) ∙ none)
  where
    cons : (b : Bool) → b ≡ true → cond b (x ∷ filter p xs) (filter p xs) ≡ [] → ⊥
    cons true e h = cc
    cons false e h = cc

lists_own : (m : Machine) (g : System) (w : World) (cpu : ℕ) → Relates m g w → cpu < m.cpus →
    ListsOwn m cpu ((scene g).locals cpu)
lists_own m g w cpu relates lt = record {
  armed = λ deadline i others is.
      let inside = (subst (AllByRecursion (λ (e : ℕ × ℕ). e.1 < length m.threads)) is
      (relates.sized cpu lt).armed).0 in
      same_or_apart (home m i ≡ cpu) (home m i) cpu (λ same. same) (λ ne.
      absurd (no_head (λ (e : ℕ × ℕ). i == e.1) (deadline, i) others l.lists.armed is (same_nat i)
      ((relates.places i inside tt).known.kept.elsewhere cpu (λ e. ne (sym e))).armed));
  ready = λ i others is.
      let inside = (subst (AllByRecursion (λ i. i < length m.threads)) is
      (relates.sized cpu lt).ready).0 in
      same_or_apart (home m i ≡ cpu) (home m i) cpu (λ same. same) (λ ne.
      absurd (no_head (λ j. i == j) i others l.lists.ready is (same_nat i)
      ((relates.places i inside tt).known.kept.elsewhere cpu (λ e. ne (sym e))).ready));
}
  where
    l : Local
    l = (scene g).locals cpu

-- An event

after_work : (m : Machine) (cpu : ℕ) (s : Scene) (x : Work) (after : List ℕ) →
    IsInNumber m (with_counts cpu after (counting s)) s.mail → IsCounted m cpu after x →
    AreInNumber m (amid cpu s x)
after_work m cpu s x after n k =
    subst (λ (known : Counting). IsInNumber m known (s.mail ++ map (posted cpu) x.letters))
    (λ j c. same c j)
    (posted_in_number m cpu (with_counts cpu after (counting s)) after
    (ap (λ b. cond b after (counting s cpu)) (same_nat cpu)) s.mail x.letters n k.1)
  where
    same : (c : ℕ) → with_counts cpu after (counting s) c ≡ counting (amid cpu s x) c
    same c = by (cpu == c)
      where
        by : (b : Bool) →
            cond b after (counts (s.locals c)) ≡ counts (cond b x.local (s.locals c))
        by true = sym k.0
        by false = refl

grown_work : (m : Machine) (cpu : ℕ) (s : Scene) (x : Work) →
    Grows m cpu (counting s cpu) x → AreInNumber m s → AreInNumber m (amid cpu s x)
grown_work m cpu s x g n =
    after_work m cpu s x g.after
    (grows_in_number m cpu (counting s) g.after g.own g.other s.mail n) g.counted

happens_in_number : (m : Machine) (r : Run) (e : Action) (h : Happened) → IsMachine m →
    RunFacts m r → AreInNumber m (scene r.system) → happens m r.system e ≡ Some h →
    AreInNumber m (scene h.system)
happens_in_number m r e h machine f n is =
    event_then m r.system e h (λ h. AreInNumber m (scene h.system)) f.counted is handles turns ticks
  where
    s : Scene
    s = scene r.system

    ended : (cpu : ℕ) (g : System) (x : Work) → cpu < m.cpus → length g.locals ≡ m.cpus →
        AreInNumber m (amid cpu (scene g) x) → AreInNumber m (scene (done cpu g x).system)
    ended cpu g x lt size k = subst (AreInNumber m) (done_scene cpu g x (omega arith)) k

    handles : (cpu from : ℕ) (letter : Letter) (x : Work) → cpu < m.cpus →
        slice_get (letters r.system.mail from cpu) 0 ≡ Some letter →
        handle m cpu (s.locals cpu) letter ≡ Some x →
        AreInNumber m (scene (done cpu (taken from cpu r.system) x).system)
    handles cpu from letter x lt first is =
        ended cpu (taken from cpu r.system) x lt f.counted (by letter.content refl is)
      where
        t : Scene
        t = scene (taken from cpu r.system)

        l : Local
        l = s.locals cpu

        other : (c : Content) → IsCounted m cpu (counts l) x → AreInNumber m (amid cpu t x)
        other c k =
            grown_work m cpu t x (stays m cpu (counts l) x k)
            (taken_in_number m (counting s) from cpu r.system.mail n)

        by : (c : Content) → letter.content ≡ c → handled m cpu c (opened letter.stamp l) ≡ Some x →
            AreInNumber m (amid cpu t x)
        by (SendLetter name receiver message zero_timeout) content is =
            let k = handled_counts m cpu (SendLetter name receiver message zero_timeout) letter.stamp
            l x machine is in
            let foreign = foreign_place_is m cpu name.thread k.0 k.1.0 in
            let at_first = first_letter from cpu letter r.system.mail first in
            let in_time = one_of (IsInTime m (counting s)) at_first.before at_first.after
            (record { from = from; to = cpu; letter = letter })
            (subst (AllByRecursion (IsInTime m (counting s))) at_first.is n.letters) in
            let here = subst (IsInTimeIn m (counting s)
            (record { from = from; to = cpu; letter = letter })) content in_time k.0 foreign.0 in
            after_work m cpu t x (changed (λ n. name.k) (counts l) k.0)
            (stands_in_number m cpu from k.0 name.k (counting s) foreign.1 here.0 here.1 letter
            r.system.mail (subst (IsBrought m k.0 name.k) (sym content) (refl, foreign.0)) first n)
            k.1.1
        by (DoneLetter name result) content is =
            other (DoneLetter name result)
            (handled_counts m cpu (DoneLetter name result) letter.stamp l x machine is)
        by (WithdrawLetter name receiver cause) content is =
            other (WithdrawLetter name receiver cause)
            (handled_counts m cpu (WithdrawLetter name receiver cause) letter.stamp l x machine is)
        by (GoneLetter id) content is =
            other (GoneLetter id)
            (handled_counts m cpu (GoneLetter id) letter.stamp l x machine is)
        by (OrderLetter caller target what) content is =
            other (OrderLetter caller target what)
            (handled_counts m cpu (OrderLetter caller target what) letter.stamp l x machine is)
        by (OrderDoneLetter caller) content is =
            other (OrderDoneLetter caller)
            (handled_counts m cpu (OrderDoneLetter caller) letter.stamp l x machine is)
        by (RetargetLetter o) content is =
            other (RetargetLetter o)
            (handled_counts m cpu (RetargetLetter o) letter.stamp l x machine is)

    turns : (cpu : ℕ) (x : Work) → cpu < m.cpus → turn m cpu (s.locals cpu) ≡ Some x →
        AreInNumber m (scene (done cpu r.system x).system)
    turns cpu x lt is =
        ended cpu r.system x lt f.counted
        (grown_work m cpu s x
        (turn_grows m cpu (s.locals cpu) x machine (f.relates.sized cpu lt)
        (lists_own m r.system f.world cpu f.relates lt) is) n)

    ticked : (cpu clock : ℕ) → Work
    ticked cpu clock = opened 0 (s.locals cpu) ▷ tells (Tick cpu clock) ▷ does (clock_is clock)

    ticks : (cpu clock : ℕ) (x : Work) → cpu < m.cpus →
        advance m cpu clock (s.locals cpu) ≡ Some x →
        AreInNumber m (scene (done cpu r.system x).system)
    ticks cpu clock x lt is =
        ended cpu r.system x lt f.counted
        (advance_then m cpu clock (s.locals cpu) x (λ x. AreInNumber m (amid cpu s x)) is
        λ above below. grown_work m cpu s (ticked cpu clock)
        (stays m cpu (counts (s.locals cpu)) (ticked cpu clock) (refl, tt)) n)

-- A run

no_counts : (ds : List Declaration) (i : ℕ) →
    at (map (λ (t : Thread). t.context.begun) (map (λ d. opening_thread) ds)) i ≡ 0
no_counts [] i = refl
no_counts (d ∷ ds) zero = refl
no_counts (d ∷ ds) (suc i) = no_counts ds i

none_begun : (m : Machine) (cpus : List ℕ) (c i : ℕ) →
    at (counts (slice_index_or (map (opening_local m) cpus) c nowhere)) i ≡ 0
none_begun m [] c i = refl
none_begun m (cpu ∷ cpus) zero i = no_counts m.threads i
none_begun m (cpu ∷ cpus) (suc c) i = none_begun m cpus c i

opening_in_number : (m : Machine) → AreInNumber m (scene (opening_system m))
opening_in_number m = record {
  below = λ c i.
      let none = none_begun m (processors m) c i in
      omega arith;
  letters = tt;
  order = tt;
}

-- One more event
run_last : (m : Machine) (es : List Action) (r last : Run) (e : Action) (h : Happened) →
    core_run m r es ≡ Some last → happens m last.system e ≡ Some h →
    core_run m r (es ++ e ∷ []) ≡ Some (then_event last h)
run_last m [] r last e h is at =
    ap (λ (u : Run). happens m u.system e >>= λ x. Some (then_event u x)) (some_is r last is)
    ∙ ap (λ (o : Option Happened). o >>= λ x. Some (then_event last x)) at
run_last m (x ∷ es) r last e h is at =
    by (happens m r.system x) is (λ g. run_last m es (then_event r g) last e h)
  where
    by : (o : Option Happened) → (o >>= λ g. core_run m (then_event r g) es) ≡ Some last →
        ((g : Happened) → core_run m (then_event r g) es ≡ Some last →
        happens m last.system e ≡ Some h →
        core_run m (then_event r g) (es ++ e ∷ []) ≡ Some (then_event last h)) →
        (o >>= λ g. core_run m (then_event r g) (es ++ e ∷ [])) ≡ Some (then_event last h)
    by None is more = cc
    by (Some g) is more = more g is at

goes_on : (m : Machine) (es : List Action) (r last : Run) → IsMachine m → IsCoreRun m r →
    AreInNumber m (scene r.system) → core_run m r es ≡ Some last →
    AreInNumber m (scene last.system)
goes_on m [] r last machine core n is =
    subst (λ (u : Run). AreInNumber m (scene u.system)) (some_is r last is) n
goes_on m (e ∷ es) r last machine core n is =
    bind_then (happens m r.system e) _ last is λ h at rest.
    goes_on m es (then_event r h) last machine
    (core.0 ++ e ∷ [], run_last m core.0 (opening_run m) r e h core.1 at)
    (happens_in_number m r e h machine (run_facts m r machine core) n at) rest

pub run_in_number : (m : Machine) (r : Run) → IsMachine m → IsCoreRun m r →
    AreInNumber m (scene r.system)
run_in_number m r machine core =
    goes_on m core.0 (opening_run m) r machine ([], refl) (opening_in_number m) core.1

-- The first letter of a pair

both_true : (a b : Bool) (o : Option Work) → is_some (a >> (b >> o)) ≡ true → b ≡ true
both_true true true o h = refl
both_true true false o h = cc
both_true false b o h = cc

done_fits : (m : Machine) (cpu : ℕ) (l : Local) (stamp : ℕ) (s : Name) (result : Result) →
    is_some (handled m cpu (DoneLetter s result) (opened stamp l)) ≡ true →
    FitsNumber m cpu l (DoneLetter s result)
done_fits m cpu l stamp s result h = λ i own.
    eqb-true (thread l i).context.begun s.k
    (both_true (is_some (split_place m cpu l i)) ((thread l i).context.begun == s.k)
    (Some (opened stamp l ▷ does (comes_to i (after_decision result l.clock))))
    (subst (λ (o : Option ℕ). is_some (o >>= λ i.
    is_some (split_place m cpu l i) >> ((thread l i).context.begun == s.k
    >> Some (opened stamp l ▷ does (comes_to i (after_decision result l.clock))))) ≡ true) own h))

-- A send that waits is the last one of its thread.
waiting_is_last : (m : Machine) (r : Run) (cpu i : ℕ) → IsMachine m → RunFacts m r →
    cpu < m.cpus → i < length m.threads →
    plain.is_queued ((scene r.system).locals cpu).lists i ≡ true →
    at (counting (scene r.system) cpu) i ≡ at (counting (scene r.system) (home m i)) i
waiting_is_last m r cpu i machine f lt inside queued =
    sym (count_at (s.locals cpu) i)
    ∙ (held_is m cpu i listed.send s x listed.has.goes.now listed.has.at).begun_is
    ∙ ap (λ (k : Kept). k.thread.context.begun) (kept_opened cpu 0 i s (home m i))
    ∙ count_at (s.locals (home m i)) i
  where
    s : Scene
    s = scene r.system

    x : Work
    x = opened 0 (s.locals cpu)

    goes : Goes m cpu s f.world [] x
    goes = opened_goes m cpu 0 [] s f.world (record { history = told r.events; is = f.reaches })
        f.relates

    found : (q : ℕ) × IsListedSend m cpu q i s f.world x
    found = queued_here m cpu i s f.world x lt goes machine inside queued

    listed : IsListedSend m cpu found.0 i s f.world x
    listed = found.1

pub fits : (m : Machine) (r : Run) (cpu from : ℕ) (letter : Letter) (l : Local) → IsMachine m →
    IsCoreRun m r → slice_get r.system.locals cpu ≡ Some l →
    slice_get (letters r.system.mail from cpu) 0 ≡ Some letter →
    FitsNumber m cpu l letter.content
fits m r cpu from letter l machine core there first = by letter.content refl lawful
  where
    f : RunFacts m r
    f = run_facts m r machine core

    s : Scene
    s = scene r.system

    place : (cpu < length r.system.locals) × (s.locals cpu ≡ l)
    place = local_at r.system.locals cpu l there

    lawful : is_some (handled m cpu letter.content (opened letter.stamp l)) ≡ true
    lawful = (letters_lawful m r machine f).first from cpu letter l first there

    by : (c : Content) → letter.content ≡ c →
        is_some (handled m cpu c (opened letter.stamp l)) ≡ true → FitsNumber m cpu l c
    by (SendLetter name receiver message zero_timeout) content h = tt
    by (DoneLetter name result) content h = done_fits m cpu l letter.stamp name result h
    by (WithdrawLetter name receiver cause) content h = λ i foreign queued.
        let at_first = first_letter from cpu letter r.system.mail first in
        let n = run_in_number m r machine core in
        let p : Posted = record { from = from; to = cpu; letter = letter } in
        let in_time = one_of (IsInTime m (counting s)) at_first.before at_first.after p
        (subst (AllByRecursion (IsInTime m (counting s))) at_first.is n.letters) in
        let away = foreign_place_is m cpu name.thread i foreign in
        let here = subst (IsInTimeIn m (counting s) p) content in_time i away.0 in
        let last = waiting_is_last m r cpu i machine f (omega (arith, place.0, f.counted))
        (place_within m name.thread i away.0)
        (subst (λ (k : Local). plain.is_queued k.lists i ≡ true) (sym place.1) queued) in
        let count : (thread l i).context.begun ≡ at (counting s cpu) i =
        count_at l i ∙ ap (λ (k : Local). at (counts k) i) (sym place.1) in
        omega (arith, here.1.1, last, count)
    by (GoneLetter id) content h = tt
    by (OrderLetter caller target what) content h = tt
    by (OrderDoneLetter caller) content h = tt
    by (RetargetLetter o) content h = tt

-- While the processors outside of a set go on, one of them stays silent towards one inside that it may not post to.
use Rattle.std.proofs.Common.{◌≡◌, ℕ, ◌<◌, ◌≤◌, ◌⊎◌, inl, inr, Bool, true, false, cond, Option, Some, None, List, [], ◌∷◌, ◌++◌, map, filter, length, refl, ap, sym, ◌∙◌, subst, arith, ⊎_elim}
use Rattle.std.specs.Prelude.{slice_get, slice_index_or, ◌==◌}
use Rattle.std.specs.List.{AllByRecursion}
use Rattle.std.proofs.lemmas.Bool.{eqb-true, cases_lt}
use Rattle.std.proofs.lemmas.Option.{slice_get-get_or}
use Rattle.std.proofs.lemmas.List.{get_or_past}
use Rattle.l4_model.specs.Machine.{Machine, place_of}
use Rattle.l4_model.specs.World.{World, Thread, Send, PendingOrder, is_deleted, opening, opening_thread}
use Rattle.l4_model.specs.Steps.{Step, OfThread, OfSend, Begun, Queued, Failed, Dropped, Retargeted, Deliver, Order, Tick, next}
use Rattle.l4_model.specs.History.{run, reached}
use Rattle.l4_model.specs.Conditions.{◌>>=◌}
use Rattle.l4_model.proofs.Chains.{bind_then, some_is}
use Rattle.l4_model.proofs.Sound.{AreSound, step_sound, opening_sound}
use Rattle.l4_model.proofs.Worlds.{standing}
use Rattle.l4_core_model.specs.Letters.{Letter, Content, SendLetter, DoneLetter, WithdrawLetter, GoneLetter, OrderLetter, OrderDoneLetter, RetargetLetter}
use Rattle.l4_core_model.specs.Local.{Local, declared, destination_place, thread}
use Rattle.l4_core_model.specs.Laws.{IsCoreRun}
use Rattle.l4_core_model.specs.Runs.{Posted, IsMachine, Run, Action, Happened, happens, letters, then_event, told, core_run, opening_run}
use Rattle.l4_core_model.proofs.Apart.{apart as apart_of}
use Rattle.l4_core_model.proofs.Changed.{same_nat}
use Rattle.l4_core_model.proofs.Lists.{all-map, all-map_with, all-filter}
use Rattle.l4_core_model.proofs.Telling.{run-append, told-last}
use Rattle.l4_core_model.proofs.Standing.{destination_within}
use Rattle.l4_merge.specs.Transitions.{Transition, Does, letter_of, letters_with, work_of}
use Rattle.l4_merge.proofs.OneDeed.{given, IsGiven, done_by, given-mail, mail_then, own_local_then, other_local_then}
use Rattle.l4_merge.proofs.Lists.{slice_get_none}
use Rattle.l4_refines.proofs.Events.{local_at}
use Rattle.l4_refines.proofs.Law.{RunFacts}
use Rattle.l4_refines.proofs.Lists.{other_is}
use Rattle.l4_refines.proofs.Relation.Views.{View, scene, nowhere, home, world_thread, is_about, locators, is_locator, subject}
use Rattle.l4_refines.proofs.Relation.Rows.{seats, Agrees, learns, RowOf, IsDecided, IsNoticeOf}
use Rattle.l4_refines.proofs.Relation.Owing.{retarget_of, retarget_in}
use Rattle.l4_refines.proofs.Relation.Whereabouts.{where_then}
use Rattle.l4_refines.proofs.Rest.Seen.{is_shown}
use Rattle.l4_refines.proofs.Sends.Waiting.{agrees_send}
use Rattle.l4_refines.proofs.Turns.Choices.{IsOwn}
use Rattle.l4_persistent.specs.Persistent.{cpu_of}
use Rattle.l4_persistent.specs.Inner.Posts.{is_at, Aims, AreAims, sends_to, orders_to, waits_for, is_deletable, may_propagate, told_at}
use Rattle.l4_persistent.proofs.Swaps.{deed_of, cpu_is}
use Rattle.l4_persistent.proofs.Sets.{has_left}
use Rattle.l4_persistent.proofs.ByPlace.{All, Keeps, Begins, step_all}
use Rattle.l4_persistent.proofs.Tame.{or_none}
use Rattle.l4_persistent.proofs.Away.{true_false, IsAway, away_kept}
use Rattle.l4_persistent.proofs.Posting.{IsFineContent, IsFineStep, IsFine, SendsElsewhere, HasOwnFirst, work_fine}
use Rattle.l4_persistent.proofs.UnderWay.{seen_at, kept_home, IsExplained, each_between, none_between, gone_in_world}
use Rattle.l4_persistent.proofs.Unowed.{unowed}

-- Lists

-- What is true of each of these, if nothing is, so there is none.
none_left : (ls : List Letter) → AllByRecursion (λ (l : Letter). ⊥) ls → ls ≡ []
none_left [] all = refl
none_left (l ∷ ls) all = absurd all.0

behind_none : (xs ys : List Letter) → xs ++ ys ≡ [] → ys ≡ []
behind_none [] ys h = h
behind_none (x ∷ xs) ys h = cc

all_behind : (P : Letter → Type 0) (xs ys : List Letter) → AllByRecursion P (xs ++ ys) → AllByRecursion P ys
all_behind P [] ys all = all
all_behind P (x ∷ xs) ys all = all_behind P xs ys all.1

no_more : (P : Letter → Type 0) (xs : List Letter) (b : Bool) (ys : List Letter) → b ≡ false → AllByRecursion P xs →
    AllByRecursion P (xs ++ cond b ys [])
no_more P [] b ys is all = rw is tt
no_more P (x ∷ xs) b ys is all = (all.0, no_more P xs b ys is all.1)

all_with : (F : ℕ → Letter → Type 0) (cpu : ℕ) (ls : List (ℕ × Letter)) →
    AllByRecursion (λ (p : ℕ × Letter). F p.0 p.1) ls →
    AllByRecursion (F cpu) (letters_with cpu ls)
all_with F cpu [] all = tt
all_with F cpu (l ∷ ls) all = by (l.0 == cpu) refl (all_with F cpu ls all.1)
  where
    by : (b : Bool) → (l.0 == cpu) ≡ b → AllByRecursion (F cpu) (letters_with cpu ls) →
        AllByRecursion (F cpu) (map (λ (p : ℕ × Letter). p.1)
        (cond b (l ∷ filter (λ (p : ℕ × Letter). p.0 == cpu) ls) (filter (λ (p : ℕ × Letter). p.0 == cpu) ls)))
    by true is rest = (subst (λ n. F n l.1) (eqb-true l.0 cpu is) all.0, rest)
    by false is rest = rest

-- Runs

pub goes_append : (m : Machine) (es : List Action) (r t : Run) (a : Action) (h : Happened) → core_run m r es ≡ Some t →
    happens m t.system a ≡ Some h →
    core_run m r (es ++ a ∷ []) ≡ Some (then_event t h)
goes_append m [] r t a h is goes =
    let same = some_is r t is in
    ap (λ (r : Run). happens m r.system a >>= λ h. Some (then_event r h)) same
    ∙ ap (λ (o : Option Happened). o >>= λ h. Some (then_event t h)) goes
goes_append m (e ∷ es) r t a h is goes =
    bind_then (happens m r.system e) _ t is λ x at rest.
    ap (λ (o : Option Happened). o >>= λ h. core_run m (then_event r h) (es ++ a ∷ [])) at
    ∙ goes_append m es (then_event r x) t a h rest goes

pub one_more : (m : Machine) (r : Run) (a : Action) (h : Happened) → IsCoreRun m r → happens m r.system a ≡ Some h →
    IsCoreRun m (then_event r h)
one_more m r a h is goes = (is.0 ++ a ∷ [], goes_append m is.0 (opening_run m) r a h is.1 goes)

-- The steps of an event lead from the world before it to the world behind it.
led : (m : Machine) (r : Run) (h : Happened) (w v : World) → reached m (told r.events) ≡ Some w →
    reached m (told (then_event r h).events) ≡ Some v →
    run m w h.event.steps ≡ Some v
led m r h w v before after =
    ap (λ o. o >>= λ u. run m u h.event.steps) (sym before) ∙ sym
    (run-append m (told r.events) h.event.steps (opening m))
    ∙ sym (ap (run m (opening m)) (told-last r.events h.event)) ∙ after

-- What steps keep

steps_keep : (m : Machine) (begin : ℕ → Type 0) (P : ℕ → Thread → Type 0) → Keeps m begin P →
    (steps : List Step) (w v : World) →
    AllByRecursion (Begins m begin) steps → run m w steps ≡ Some v → AreSound m w → All P w → All P v
steps_keep m begin P keeps [] w v may is sound all = subst (All P) (some_is w v is) all
steps_keep m begin P keeps (step ∷ steps) w v may is sound all =
    bind_then (next m w step) (λ u. run m u steps) v is λ u one rest.
    steps_keep m begin P keeps steps u v may.1 rest (step_sound m w u step one sound)
    (step_all m begin P keeps w u sound all step may.0 one)

pub each_kept : (m : Machine) (P : ℕ → Thread → Type 0) → Keeps m (λ i. Unit {0}) P → All P (opening m) →
    (h : List Step) (w : World) →
    reached m h ≡ Some w → All P w
each_kept m P keeps first h w is = steps_keep m (λ i. Unit {0}) P keeps h (opening m) w (any h) is
    (opening_sound m) first
  where
    may : (step : Step) → Begins m (λ i. Unit {0}) step
    may (OfThread kind id) = tt
    may (OfSend Begun s) = λ i at. tt
    may (OfSend Queued s) = tt
    may (OfSend (Failed why) s) = tt
    may (OfSend Dropped s) = tt
    may (OfSend Retargeted s) = tt
    may (Deliver s receiver shown actual tag words) = tt
    may (Order caller target what) = tt
    may (Tick cpu clock) = tt

    any : (steps : List Step) → AllByRecursion (Begins m (λ i. Unit {0})) steps
    any [] = tt
    any (step ∷ steps) = (may step, any steps)

-- Whoever begins a send is of the processor whose event tells it.
others_begin : (m : Machine) (cpu to : ℕ) → (cpu ≡ to → ⊥) → (steps : List Step) →
    AllByRecursion (IsFineStep m cpu) steps →
    AllByRecursion (Begins m (λ i. home m i ≡ to → ⊥)) steps
others_begin m cpu to other steps all = all-map (IsFineStep m cpu) (Begins m (λ i. home m i ≡ to → ⊥)) by steps all
  where
    by : (step : Step) → IsFineStep m cpu step → Begins m (λ i. home m i ≡ to → ⊥) step
    by (OfThread kind id) h = tt
    by (OfSend Begun s) h = λ i at there. other (sym (h i at) ∙ there)
    by (OfSend Queued s) h = tt
    by (OfSend (Failed why) s) h = tt
    by (OfSend Dropped s) h = tt
    by (OfSend Retargeted s) h = tt
    by (Deliver s receiver shown actual tag words) h = tt
    by (Order caller target what) h = tt
    by (Tick cpu clock) h = tt

-- What is known where a run has led

pub sends_true : (m : Machine) (cpu : ℕ) (send : Send) (r : ℕ) → destination_place m send.to ≡ Some r → home m r ≡ cpu →
    sends_to m cpu (Some send) ≡ true
sends_true m cpu send r goal at = rw goal (ap (λ h. h == cpu) at ∙ same_nat cpu)

orders_true : (m : Machine) (cpu : ℕ) (order : PendingOrder) (r : ℕ) → place_of m order.target ≡ Some r →
    home m r ≡ cpu → orders_to m cpu (Some order) ≡ true
orders_true m cpu order r goal at = rw goal (ap (λ h. h == cpu) at ∙ same_nat cpu)

module _ (m : Machine) (r : Run) (f : RunFacts m r) where
  -- A thread of the world
  pub world_at : (i : ℕ) → i < length m.threads → slice_get f.world.threads i ≡ Some (world_thread f.world i)
  world_at i lt = slice_get-get_or f.world.threads i opening_thread (omega (arith, f.relates.sized_world.threads, lt))

  -- A thread at home, where its processor's local state is known
  pub at_home : (cpu i : ℕ) (l : Local) → slice_get r.system.locals cpu ≡ Some l → home m i ≡ cpu →
      (kept_home m r.system f.world i).thread ≡ thread l i
  at_home cpu i l at own =
      ap (λ c. thread ((scene r.system).locals c) i) own ∙ ap (λ l. thread l i) (local_at r.system.locals cpu l at).1

  pub below : (cpu : ℕ) (l : Local) → slice_get r.system.locals cpu ≡ Some l → cpu < m.cpus
  below cpu l at = omega (arith, (local_at r.system.locals cpu l at).0, f.counted)

  -- Those of other processors are neither ready nor armed here.
  pub own_first : (cpu : ℕ) (l : Local) → slice_get r.system.locals cpu ≡ Some l → HasOwnFirst m cpu l
  own_first cpu l at = record { ready = ready; armed = armed }
    where
      l_is : (scene r.system).locals cpu ≡ l
      l_is = (local_at r.system.locals cpu l at).1

      lt : cpu < m.cpus
      lt = below cpu l at

      ready : (i : ℕ) (others : List ℕ) → l.lists.ready ≡ i ∷ others → IsOwn m cpu i
      ready i others is =
          let here : ((scene r.system).locals cpu).lists.ready ≡ i ∷ others = ap (λ (l : Local). l.lists.ready) l_is
          ∙ is in
          let within = (subst (AllByRecursion (λ i. i < length m.threads)) here (f.relates.sized cpu lt).ready).0 in
          record { within = within; home = by (home m i == cpu) refl here within }
        where
          by : (b : Bool) → (home m i == cpu) ≡ b → ((scene r.system).locals cpu).lists.ready ≡ i ∷ others →
              i < length m.threads → home m i ≡ cpu
          by true own here within = eqb-true (home m i) cpu own
          by false away here within =
              let none = ((f.relates.places i within tt).known.kept.elsewhere cpu
              (λ own. true_false (home m i == cpu) (ap (λ n. home m i == n) own
              ∙ same_nat (home m i)) away)).ready in
              let some : filter (λ j. i == j) ((scene r.system).locals cpu).lists.ready
              ≡ i ∷ filter (λ j. i == j) others = ap (filter (λ j. i == j)) here ∙ rw (same_nat i) refl in
              cc

      armed : (deadline i : ℕ) (others : List (ℕ × ℕ)) → l.lists.armed ≡ (deadline, i) ∷ others → IsOwn m cpu i
      armed deadline i others is =
          let here : ((scene r.system).locals cpu).lists.armed ≡ (deadline, i) ∷ others =
          ap (λ (l : Local). l.lists.armed) l_is ∙ is in
          let within = (subst (AllByRecursion (λ (e : ℕ × ℕ). e.1 < length m.threads)) here
          (f.relates.sized cpu lt).armed).0 in
          record { within = within; home = by (home m i == cpu) refl here within }
        where
          by : (b : Bool) → (home m i == cpu) ≡ b → ((scene r.system).locals cpu).lists.armed ≡ (deadline, i) ∷ others →
              i < length m.threads → home m i ≡ cpu
          by true own here within = eqb-true (home m i) cpu own
          by false away here within =
              let none = ((f.relates.places i within tt).known.kept.elsewhere cpu
              (λ own. true_false (home m i == cpu) (ap (λ n. home m i == n) own
              ∙ same_nat (home m i)) away)).armed in
              let some : filter (λ (e : ℕ × ℕ). i == e.1) ((scene r.system).locals cpu).lists.armed ≡ (
                deadline,
                i,
              ) ∷ filter (λ (e : ℕ × ℕ). i == e.1) others =
              ap (filter (λ (e : ℕ × ℕ). i == e.1)) here ∙ rw (same_nat i) refl in
              cc

-- No send is for a processor that the machine has not.
pub sends_nowhere : (m : Machine) → IsMachine m → (o : Option Send) → sends_to m m.cpus o ≡ false
sends_nowhere m machine None = refl
sends_nowhere m machine (Some send) = by (destination_place m send.to) refl
  where
    by : (o : Option ℕ) → destination_place m send.to ≡ o → is_at m m.cpus o ≡ false
    by None is = refl
    by (Some r) is = other_is (home m r) m.cpus (λ same. let lt = machine.homed r
        (destination_within m send.to r is) in absurd (omega (arith, lt, same)))

-- Two lists with the same at a place
same_local : (xs ys : List Local) (i : ℕ) → slice_get xs i ≡ slice_get ys i →
    slice_index_or xs i nowhere ≡ slice_index_or ys i nowhere
same_local xs ys i same = by (slice_get ys i) refl
  where
    by : (o : Option Local) → slice_get ys i ≡ o → slice_index_or xs i nowhere ≡ slice_index_or ys i nowhere
    by None at =
        get_or_past xs i nowhere (slice_get_none xs i (same ∙ at))
        ∙ sym (get_or_past ys i nowhere (slice_get_none ys i at))
    by (Some l) at = (local_at xs i l (same ∙ at)).1 ∙ sym (local_at ys i l at).1

-- The letter says nothing of a decision.
abbrev pub IsNoDecision : Content → Type 0
IsNoDecision (DoneLetter s result) = ⊥
IsNoDecision content = Unit {0}

abbrev pub IsUndecided : Letter → Type 0
IsUndecided letter = IsNoDecision letter.content

module _ (m : Machine) (aims : Aims) (from to : ℕ) (k : Local) where
  -- Nobody at `to` waits for `from`.
  abbrev pub IsUnanswered : Type 0
  IsUnanswered = (j : ℕ) → IsOwn m to j → waits_for m from (thread k j) ≡ false

  -- A thread of `from` is never deleted, or `to` was told of it.
  abbrev pub IsHeard : Local → Type 0
  IsHeard l =
      (i : ℕ) → home m i ≡ from → i < length m.threads → (is_deletable m (declared m i).id ≡ false) ⊎ (to < told_at l i)

  -- What `from` knows.
  abbrev pub its_local : Run → Local
  its_local r = (scene r.system).locals from

  -- What stays true while `to` does nothing.
  pub record Stands (r : Run) (f : RunFacts m r) : Type 0 where
    pub local : slice_get r.system.locals to ≡ Some k
    pub empty : letters r.system.mail from to ≡ []
    pub undecided : AllByRecursion IsUndecided (letters r.system.mail to from)
    pub heard : IsHeard (its_local r)
    pub all : All (IsAway m aims from to) f.world

  -- No letter is under way from `from` to `to`, if it is no withdrawal.
  no_letter : (r : Run) (f : RunFacts m r) (before : Local) → IsMachine m → may_propagate m ≡ false → IsUnanswered →
      IsHeard before → slice_get r.system.locals to ≡ Some k →
      All (IsAway m aims from to) f.world → (p : Posted) → IsExplained m r.system f.world p → p.from ≡ from →
      p.to ≡ to →
      IsFineContent m from to before to p.letter.content → ⊥
  no_letter r f before machine safe waits heard local all p e from_is to_is fine = by p.letter.content refl
    where
      i : ℕ
      i = e.i

      v : View
      v = seen_at m r.system f.world i

      t : Thread
      t = (kept_home m r.system f.world i).thread

      clock : ℕ
      clock = (kept_home m r.system f.world i).clock

      away : IsAway m aims from to i (world_thread f.world i)
      away = all i (world_thread f.world i) (world_at m r f i e.within)

      row : (c : Content) → p.letter.content ≡ c → is_locator c ≡ true →
          RowOf m i (seats m i v) p c × Agrees m (world_thread f.world i) (learns c clock t)
      row c content says = subst (λ c. RowOf m i (seats m i v) p c
          × Agrees m (world_thread f.world i) (learns c clock t)) content (e.locator (ap is_locator content ∙ says))

      notice : (c : Content) → p.letter.content ≡ c → is_locator c ≡ false →
          IsNoticeOf m i (kept_home m r.system f.world i) p c
      notice c content late = subst (IsNoticeOf m i (kept_home m r.system f.world i) p) content
          (e.notice (ap is_locator content ∙ late))

      is_fine : (c : Content) → p.letter.content ≡ c → IsFineContent m from to before to c
      is_fine c content = subst (IsFineContent m from to before to) content fine

      waiting : home m i ≡ to → waits_for m from t ≡ false
      waiting own = ap (waits_for m from) (at_home m r f to i k local own)
          ∙ waits i (record { within = e.within; home = own })

      by : (c : Content) → p.letter.content ≡ c → ⊥
      by (SendLetter s receiver message zero_timeout) content =
          let x = row (SendLetter s receiver message zero_timeout) content refl in
          let own : home m i ≡ from = sym x.0.from ∙ from_is in
          let has : (world_thread f.world i).send ≡ Some x.0.goes.send = agrees_send (world_thread f.world i) t x.1
          ∙ x.0.goes.has in
          true_false (sends_to m to (world_thread f.world i).send)
          (ap (sends_to m to) has ∙ sends_true m to x.0.goes.send x.0.goes.r x.0.goes.to (sym x.0.to ∙ to_is))
          (away.clear own).send
      by (DoneLetter s result) content =
          let x = row (DoneLetter s result) content refl in
          let own : home m i ≡ to = sym x.0.to ∙ to_is in
          true_false (sends_to m from t.send)
          (ap (sends_to m from) x.0.goes.has ∙ sends_true m from x.0.goes.send x.0.goes.r x.0.goes.to (sym x.0.from
          ∙ from_is))
          (or_none (sends_to m from t.send) (orders_to m from t.order) (waiting own)).0
      by (WithdrawLetter s receiver cause) content = is_fine (WithdrawLetter s receiver cause) content refl
      by (GoneLetter id) content =
          let untold = is_fine (GoneLetter id) content i (ap (λ c. place_of m (subject c)) (sym content) ∙ e.about) in
          let gone = gone_in_world m i v e.matches (notice (GoneLetter id) content refl).0 in
          ⊎_elim
          (λ spared.
          true_false (is_deleted (world_thread f.world i).phase) (ap is_deleted gone)
          (away.tame.alive (untold.0, spared)))
          (λ told. absurd (omega (arith, told, untold.1)))
          (heard i untold.0 e.within)
      by (OrderLetter caller target what) content =
          let x = row (OrderLetter caller target what) content refl in
          let own : home m i ≡ from = sym x.0.from ∙ from_is in
          let has : (world_thread f.world i).order ≡ Some x.0.orders.order =
          (is_shown (world_thread f.world i) t x.1).order ∙ x.0.orders.has in
          true_false (orders_to m to (world_thread f.world i).order)
          (ap (orders_to m to) has ∙ orders_true m to x.0.orders.order x.0.orders.target x.0.orders.place (sym x.0.to
          ∙ to_is)) (away.clear own).order
      by (OrderDoneLetter caller) content =
          let x = row (OrderDoneLetter caller) content refl in
          let own : home m i ≡ to = sym x.0.to ∙ to_is in
          true_false (orders_to m from t.order)
          (ap (orders_to m from) x.0.orders.has ∙ orders_true m from x.0.orders.order x.0.orders.target x.0.orders.place
          (sym x.0.from ∙ from_is))
          (or_none (sends_to m from t.send) (orders_to m from t.order) (waiting own)).1
      by (RetargetLetter o) content =
          let none = e.unowed (unowed m (told r.events) f.world safe f.reaches) in
          let some : retarget_of p ≡ Some o = ap retarget_in content in
          cc

  -- At home too no thread of `from` sends to one of `to`.
  sends_elsewhere : (r : Run) (f : RunFacts m r) (l : Local) → Stands r f → slice_get r.system.locals from ≡ Some l →
      SendsElsewhere m from to l
  sends_elsewhere r f l s at j own = ⊎_elim within past (cases_lt j (length m.threads))
    where
      within : j < length m.threads → sends_to m to (thread l j).send ≡ false
      within lt =
          let same = at_home m r f from j l at own in
          let matches = f.relates.places j lt tt in
          let clear = (s.all j (world_thread f.world j) (world_at m r f j lt)).clear own in
          let v : View = seen_at m r.system f.world j in
          let t : Thread = (kept_home m r.system f.world j).thread in
          let known : Agrees m v.world t → sends_to m to t.send ≡ false =
          λ a. ap (sends_to m to) (sym (agrees_send v.world t a)) ∙ clear.send in
          ap (λ (t : Thread). sends_to m to t.send) (sym same)
          ∙ where_then m j v matches.known
          (λ quiet none row a. known a)
          (λ send quiet has row a. known a)
          (λ p is row a. known a)
          (λ p name result is content row a. decided p name result is content row)
          (λ p is row a. known a)
          (λ p caller is content row a. ap (sends_to m to) row.orders.no_send)
        where
          decided : (p : Posted) (name : _) (result : _) → locators (seen_at m r.system f.world j).mail ≡ p ∷ [] →
              p.letter.content ≡ DoneLetter name result →
              IsDecided m j (seats m j (seen_at m r.system f.world j)) p name →
              sends_to m to (kept_home m r.system f.world j).thread.send ≡ false
          decided p name result is content row =
              ap (sends_to m to) row.goes.has
              ∙ ap (is_at m to) row.goes.to
              ∙ other_is (home m row.goes.r) to (λ there.
              let posted = none_between IsUndecided to from r.system.mail s.undecided in
              let about = all-filter _ (is_about m j) r.system.mail posted in
              let located = all-filter _ (λ (p : Posted). is_locator p.letter.content)
              (filter (is_about m j) r.system.mail) about in
              let here = (subst (AllByRecursion (λ (p : Posted). p.from ≡ to → p.to ≡ from →
              IsUndecided p.letter)) is located).0 (row.from ∙ there) (row.to ∙ own) in
              subst IsNoDecision content here)

      past : length m.threads ≤ j → sends_to m to (thread l j).send ≡ false
      past le =
          let size = (f.relates.sized from (below m r f from l at)).threads in
          let l_is = (local_at r.system.locals from l at).1 in
          let counted : length l.threads ≡ length m.threads = ap (λ (l : Local). length l.threads) (sym l_is) ∙ size in
          ap (λ (t : Thread). sends_to m to t.send) (get_or_past l.threads j opening_thread
          (omega (arith, counted, le)))

  -- An event of another processor leaves it so.
  pub stands_on : AreAims m aims → IsMachine m → may_propagate m ≡ false → (from ≡ to → ⊥) → IsUnanswered →
      (r : Run) (f : RunFacts m r) (a : Action) (h : Happened) (g : RunFacts m (then_event r h)) →
      (cpu_of a ≡ to → ⊥) → happens m r.system a ≡ Some h → Stands r f → Stands (then_event r h) g
  stands_on right machine safe apart waits r f a h g other goes s =
      let of = deed_of m r.system a h goes in
      let d = of.transition in
      let cpu : d.cpu ≡ cpu_of a = sym (cpu_is d.cpu d.event) ∙ ap cpu_of of.action in
      let not_to : d.cpu ≡ to → ⊥ = λ same. other (sym cpu ∙ same) in
      let left = has_left m r.system a h goes in
      let local : slice_get h.system.locals to ≡ Some k = left.local to other ∙ s.local in
      let own = own_first m r f d.cpu of.local of.at in
      let fine_steps = (work_fine m d.cpu m.cpus machine of.local d.event d.work own
      (λ j here. sends_nowhere m machine (thread of.local j).send) of.does.work).steps in
      let all : All (IsAway m aims from to) g.world =
      steps_keep m (λ i. home m i ≡ to → ⊥) (IsAway m aims from to)
      (away_kept m aims from to right machine safe) h.event.steps f.world g.world
      (subst (λ (h : Happened). AllByRecursion (Begins m (λ i. home m i ≡ to → ⊥)) h.event.steps) of.is
      (others_begin m d.cpu to not_to d.work.steps fine_steps))
      (led m r h f.world g.world f.reaches g.reaches) (standing m (told r.events) f.world f.reaches).sound s.all in
      record {
        local = local;
        empty = none_left (letters h.system.mail from to)
            (all-map_with (λ (l : Letter). IsFineContent m from to (its_local r) to l.content)
            (λ (l : Letter). IsFineContent m from to (its_local r) to l.content → ⊥) (λ (l : Letter). ⊥)
            (λ l fine never. never fine) (letters h.system.mail from to)
            (subst (λ (h : Happened). AllByRecursion (λ (l : Letter). IsFineContent m from to
            (its_local r) to l.content)
            (letters h.system.mail from to)) of.is
            (posted_fine d of.local of.given of.at of.does own))
            (each_between m (then_event r h) g (λ (l : Letter). IsFineContent m from to (its_local r) to l.content → ⊥)
            from to
            (λ p e from_is to_is.
            no_letter (then_event r h) g (its_local r) machine safe waits s.heard local all p e from_is to_is)));
        heard = subst (λ (h : Happened). IsHeard ((scene h.system).locals from)) of.is
            (still_heard d of.local of.at of.does own);
        undecided = subst (λ (h : Happened). AllByRecursion IsUndecided (letters h.system.mail to from)) of.is
            (still_undecided d of.given not_to);
        all = all;
      }
    where
      still_undecided : (d : Transition) → IsGiven d.cpu d.event r.system → (d.cpu ≡ to → ⊥) →
          AllByRecursion IsUndecided (letters (done_by d r.system).system.mail to from)
      still_undecided d first not_to =
          subst (AllByRecursion IsUndecided) (sym (mail_then d r.system to from))
          (no_more IsUndecided (letters (given d.cpu d.event r.system).mail to from) (d.cpu == to)
          (letters_with from d.work.letters) (other_is d.cpu to not_to)
          (all_behind IsUndecided (cond (d.cpu == from) (letters_with to (letter_of d.event)) [])
          (letters (given d.cpu d.event r.system).mail to from)
          (subst (AllByRecursion IsUndecided) (given-mail d.cpu d.event r.system first to from) s.undecided)))

      -- What `from` does itself
      fine_from : (d : Transition) (l : Local) → d.cpu ≡ from → slice_get r.system.locals d.cpu ≡ Some l →
          Does m d.cpu l d → HasOwnFirst m d.cpu l → IsFine m from to l d.work
      fine_from d l same at does own =
          let here : slice_get r.system.locals from ≡ Some l = ap (slice_get r.system.locals) (sym same) ∙ at in
          let worked : work_of m from l d.event ≡ Some d.work =
          ap (λ c. work_of m c l d.event) (sym same) ∙ does.work in
          work_fine m from to machine l d.event d.work (subst (λ c. HasOwnFirst m c l) same own)
          (sends_elsewhere r f l s here) worked

      its : (d : Transition) (l : Local) → d.cpu ≡ from → slice_get r.system.locals d.cpu ≡ Some l → its_local r ≡ l
      its d l same at = (local_at r.system.locals from l (ap (slice_get r.system.locals) (sym same) ∙ at)).1

      still_heard : (d : Transition) (l : Local) → slice_get r.system.locals d.cpu ≡ Some l → Does m d.cpu l d →
          HasOwnFirst m d.cpu l → IsHeard ((scene (done_by d r.system).system).locals from)
      still_heard d l at does own = by (d.cpu == from) refl
        where
          by : (b : Bool) → (d.cpu == from) ≡ b → IsHeard ((scene (done_by d r.system).system).locals from)
          by false is =
              subst IsHeard (sym (same_local (done_by d r.system).system.locals r.system.locals from
              (other_local_then d r.system from (apart_of d.cpu from is)))) s.heard
          by true is = λ i home_is within.
              let same : d.cpu ≡ from = eqb-true d.cpu from is in
              let now : (scene (done_by d r.system).system).locals from ≡ d.work.local =
              (local_at (done_by d r.system).system.locals from d.work.local
              (own_local_then d r.system from l at same)).1 in
              let more = (fine_from d l same at does own).told i in
              let was : told_at (its_local r) i ≡ told_at l i = ap (λ l. told_at l i) (its d l same at) in
              let is_now : told_at ((scene (done_by d r.system).system).locals from) i ≡ told_at d.work.local i =
              ap (λ l. told_at l i) now in
              ⊎_elim (λ spared. inl spared) (λ told. inr (omega (arith, told, more, was, is_now)))
              (s.heard i home_is within)

      posted_fine : (d : Transition) (l : Local) → IsGiven d.cpu d.event r.system →
          slice_get r.system.locals d.cpu ≡ Some l → Does m d.cpu l d → HasOwnFirst m d.cpu l →
          AllByRecursion (λ (l : Letter). IsFineContent m from to (its_local r) to l.content)
          (letters (done_by d r.system).system.mail from to)
      posted_fine d l first at does own =
          let rest : letters (given d.cpu d.event r.system).mail from to ≡ [] =
          behind_none (cond (d.cpu == to) (letters_with from (letter_of d.event)) [])
          (letters (given d.cpu d.event r.system).mail from to)
          (sym (given-mail d.cpu d.event r.system first from to) ∙ s.empty) in
          subst (AllByRecursion (λ (l : Letter). IsFineContent m from to (its_local r) to l.content))
          (sym (mail_then d r.system from to ∙ ap (λ ls. ls ++ cond (d.cpu == from)
          (letters_with to d.work.letters) []) rest))
          (by (d.cpu == from) refl)
        where
          by : (b : Bool) → (d.cpu == from) ≡ b →
              AllByRecursion (λ (l : Letter). IsFineContent m from to (its_local r) to l.content)
              (cond b (letters_with to d.work.letters) [])
          by false is = tt
          by true is =
              let same : d.cpu ≡ from = eqb-true d.cpu from is in
              let fine = fine_from d l same at does own in
              all_with (λ n (l : Letter). IsFineContent m from to (its_local r) n l.content) to d.work.letters
              (subst (λ b. AllByRecursion
              (λ (p : ℕ × Letter). IsFineContent m from to b p.0 p.1.content) d.work.letters)
              (sym (its d l same at)) fine.letters)

-- No stamp is above the number of events.
use Rattle.std.proofs.Common.{◌≡◌, ℕ, zero, suc, ◌+◌, ◌≤◌, Option, Some, None, List, [], ◌∷◌, map, length, refl, sym, subst, arith, length-append}
use Rattle.std.specs.Prelude.{slice_get, filter, Bool, true, false, cond}
use Rattle.std.specs.List.{AllByRecursion}
use Rattle.std.specs.Option.{option_map}
use Rattle.l4_model.specs.Machine.{Machine}
use Rattle.l4_model.specs.World.{changed}
use Rattle.l4_model.proofs.Chains.{bind_then, some_is}
use Rattle.l4_core_model.specs.Letters.{Letter}
use Rattle.l4_core_model.specs.Local.{Local, opening_local}
use Rattle.l4_core_model.specs.Acts.{Work}
use Rattle.l4_core_model.specs.Turns.{next_stamp, opened, turn, advance}
use Rattle.l4_core_model.specs.Mail.{handle}
use Rattle.l4_core_model.specs.Runs.{Posted, System, is_between, letters, without_first, posted, taken, processors, Action, Handles, Turns, Ticks, Happened, done, happens, Run, then_event, core_run, opening_run}
use Rattle.l4_core_model.specs.Laws.{IsCoreRun}
use Rattle.l4_merge.proofs.Lists.{all-append}
use Rattle.l4_merge.proofs.StampsOfActs.{IsStamped}
use Rattle.l4_merge.proofs.StampsOfEvents.{opened_stamped, turn_stamped, advance_stamped, handled_stamped}

pub record AreStamped (n : ℕ) (g : System) : Type 0 where
  pub locals : AllByRecursion (λ l. l.stamp ≤ n) g.locals
  pub mail : AllByRecursion (λ p. p.letter.stamp ≤ n) g.mail

-- Lists

weaker : {A : Type 0} (P Q : A → Type 0) → ((x : A) → P x → Q x) → (xs : List A) → AllByRecursion P xs → AllByRecursion Q xs
weaker P Q f [] a = tt
weaker P Q f (x ∷ xs) a = (f x a.0, weaker P Q f xs a.1)

each : {A : Type 0} (P : A → Type 0) → ((x : A) → P x) → (xs : List A) → AllByRecursion P xs
each P f [] = tt
each P f (x ∷ xs) = (f x, each P f xs)

of_map : {A B : Type 0} (P : B → Type 0) (f : A → B) (xs : List A) → AllByRecursion (λ x. P (f x)) xs → AllByRecursion P (map f xs)
of_map P f [] a = tt
of_map P f (x ∷ xs) a = (a.0, of_map P f xs a.1)

at_place : {A : Type 0} (P : A → Type 0) (xs : List A) (i : ℕ) (x : A) → AllByRecursion P xs → slice_get xs i ≡ Some x → P x
at_place P [] i x a is = absurd cc
at_place P (y ∷ ys) zero x a is = subst P (some_is y x is) a.0
at_place P (y ∷ ys) (suc i) x a is = at_place P ys i x a.1 is

all_changed : {A : Type 0} (P : A → Type 0) (f : A → A) (xs : List A) (i : ℕ) → ((x : A) → P (f x)) → AllByRecursion P xs → AllByRecursion P (changed f xs i)
all_changed P f [] i new a = tt
all_changed P f (x ∷ xs) zero new a = (new x, a.1)
all_changed P f (x ∷ xs) (suc i) new a = (a.0, all_changed P f xs i new a.1)

all_without : (P : Posted → Type 0) (from to : ℕ) (ps : List Posted) → AllByRecursion P ps → AllByRecursion P (without_first from to ps)
all_without P from to [] a = tt
all_without P from to (p ∷ ps) a = by (is_between from to p) (all_without P from to ps a.1)
  where
    by : (b : Bool) → AllByRecursion P (without_first from to ps) → AllByRecursion P (cond b ps (p ∷ without_first from to ps))
    by true rest = a.1
    by false rest = (a.0, rest)

-- The first letter of a pair is one of all.
first_of : (P : Letter → Type 0) (from to : ℕ) (ps : List Posted) (l : Letter) → AllByRecursion (λ p. P p.letter) ps → slice_get (letters ps from to) 0 ≡ Some l → P l
first_of P from to [] l a is = absurd cc
first_of P from to (p ∷ ps) l a is = by (is_between from to p) is (first_of P from to ps l a.1)
  where
    by : (b : Bool) → slice_get (map (λ (p : Posted). p.letter) (cond b (p ∷ filter (is_between from to) ps) (filter (is_between from to) ps))) 0 ≡ Some l →
        (slice_get (letters ps from to) 0 ≡ Some l → P l) → P l
    by true is rest = subst P (some_is p.letter l is) a.0
    by false is rest = rest is

-- One event

done_stamped : (n s cpu : ℕ) (g : System) (x : Work) → s ≤ n + 1 → IsStamped s x → AreStamped n g → AreStamped (n + 1) (done cpu g x).system
done_stamped n s cpu g x least is a = record {
  locals = all_changed (λ (l : Local). l.stamp ≤ n + 1) (λ l. x.local) g.locals cpu (λ l. let e = is.local in omega arith) (weaker (λ (l : Local). l.stamp ≤ n) (λ l. l.stamp ≤ n + 1) (λ l h. omega arith) g.locals a.locals);
  mail = all-append (λ (p : Posted). p.letter.stamp ≤ n + 1) g.mail (map (posted cpu) x.letters)
      (weaker (λ (p : Posted). p.letter.stamp ≤ n) (λ p. p.letter.stamp ≤ n + 1) (λ p h. omega arith) g.mail a.mail)
      (of_map (λ (p : Posted). p.letter.stamp ≤ n + 1) (posted cpu) x.letters
      (weaker (λ (p : ℕ × Letter). p.1.stamp ≡ s) (λ p. p.1.stamp ≤ n + 1) (λ p h. omega arith) x.letters is.letters));
}

taken_stamped : (n from to : ℕ) (g : System) → AreStamped n g → AreStamped n (taken from to g)
taken_stamped n from to g a = record { locals = a.locals; mail = all_without (λ (p : Posted). p.letter.stamp ≤ n) from to g.mail a.mail }

map_then : {A B P : Type 0} (f : A → B) (o : Option A) (y : B) → option_map f o ≡ Some y → ((x : A) → o ≡ Some x → f x ≡ y → P) → P
map_then f None y h rest = cc
map_then f (Some x) y h rest = rest x refl (some_is (f x) y h)

happened_stamped : (m : Machine) (n : ℕ) (g : System) (e : Action) (h : Happened) → happens m g e ≡ Some h → AreStamped n g → AreStamped (n + 1) h.system
happened_stamped m n g (Handles cpu from) h is a =
    bind_then (slice_get g.locals cpu) _ h is λ l at is.
    bind_then (slice_get (letters g.mail from cpu) 0) _ h is λ letter first is.
    map_then (done cpu (taken from cpu g)) (handle m cpu l letter) h is λ x does same.
    let own : l.stamp ≤ n = at_place (λ (l : Local). l.stamp ≤ n) g.locals cpu l a.locals at in
    let its : letter.stamp ≤ n = first_of (λ (l : Letter). l.stamp ≤ n) from cpu g.mail letter a.mail first in
    let stamped = handled_stamped m cpu letter.content (next_stamp letter.stamp l) (opened letter.stamp l) x (opened_stamped letter.stamp l) does in
    subst (λ (h : Happened). AreStamped (n + 1) h.system) same
    (done_stamped n (next_stamp letter.stamp l) cpu (taken from cpu g) x (omega arith) stamped (taken_stamped n from cpu g a))
happened_stamped m n g (Turns cpu) h is a =
    bind_then (slice_get g.locals cpu) _ h is λ l at is.
    map_then (done cpu g) (turn m cpu l) h is λ x does same.
    let own : l.stamp ≤ n = at_place (λ (l : Local). l.stamp ≤ n) g.locals cpu l a.locals at in
    subst (λ (h : Happened). AreStamped (n + 1) h.system) same
    (done_stamped n (next_stamp 0 l) cpu g x (omega arith) (turn_stamped m cpu l x does) a)
happened_stamped m n g (Ticks cpu clock) h is a =
    bind_then (slice_get g.locals cpu) _ h is λ l at is.
    map_then (done cpu g) (advance m cpu clock l) h is λ x does same.
    let own : l.stamp ≤ n = at_place (λ (l : Local). l.stamp ≤ n) g.locals cpu l a.locals at in
    subst (λ (h : Happened). AreStamped (n + 1) h.system) same
    (done_stamped n (next_stamp 0 l) cpu g x (omega arith) (advance_stamped m cpu clock l x does) a)

-- All events

all_stamped : (m : Machine) (es : List Action) (first last : Run) → core_run m first es ≡ Some last →
    AreStamped (length first.events) first.system → AreStamped (length last.events) last.system
all_stamped m [] first last is a = subst (λ (r : Run). AreStamped (length r.events) r.system) (some_is first last is) a
all_stamped m (e ∷ es) first last is a =
    bind_then (happens m first.system e) _ last is λ h happened is.
    all_stamped m es (then_event first h) last is
    (subst (λ n. AreStamped n h.system) (sym (length-append first.events (h.event ∷ []))) (happened_stamped m (length first.events) first.system e h happened a))

pub run_stamped : (m : Machine) (r : Run) → IsCoreRun m r → AreStamped (length r.events) r.system
run_stamped m r ran =
    all_stamped m ran.0 (opening_run m) r ran.1
    (record { locals = of_map (λ (l : Local). l.stamp ≤ 0) (opening_local m) (processors m) (each (λ (cpu : ℕ). 0 ≤ 0) (λ cpu. omega arith) (processors m)); mail = tt })

pub local_stamp : (m : Machine) (r : Run) (cpu : ℕ) (l : Local) → IsCoreRun m r → slice_get r.system.locals cpu ≡ Some l → l.stamp ≤ length r.events
local_stamp m r cpu l ran at = at_place (λ (l : Local). l.stamp ≤ length r.events) r.system.locals cpu l (run_stamped m r ran).locals at

pub letter_stamp : (m : Machine) (r : Run) (from to : ℕ) (letter : Letter) → IsCoreRun m r → slice_get (letters r.system.mail from to) 0 ≡ Some letter → letter.stamp ≤ length r.events
letter_stamp m r from to letter ran first = first_of (λ (l : Letter). l.stamp ≤ length r.events) from to r.system.mail letter (run_stamped m r ran).mail first

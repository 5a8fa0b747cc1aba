-- No two owed retargets have one name: each is that of a send that was decided.
use Rattle.std.proofs.Common.{subst, ◌≡◌, ℕ, Bool, true, false, cond, Option, Some, None, List, [], ◌∷◌, refl, ap, sym, ◌∙◌, arith}
use Rattle.std.proofs.lemmas.Bool.{eqb-true, eqb-false}
use Rattle.std.proofs.lemmas.Bool.Decides.{nat_tests}
use Rattle.std.specs.Prelude.{slice_get, ◌==◌, nat_lt, ◌&&◌, ◌||◌, not, is_none, IfSome, filter}
use Rattle.std.specs.List.{AllByRecursion}
use Rattle.std.specs.Option.{option_map}
use Rattle.l4_model.specs.Machine.{Machine, place_of}
use Rattle.l4_model.specs.World.{World, Send, Name, Owed, same_name, changed, one_more}
use Rattle.l4_model.specs.Rules.{owed_by}
use Rattle.l4_model.specs.Steps.{Step, Begin, Deliver, SendTimeout, SendNobody, SendCancel, Drop, Retarget, next}
use Rattle.l4_model.specs.Reached.{AreNamedOnce}
use Rattle.l4_model.proofs.Chains.{some_is, get-changed_same, get-changed_other}
use Rattle.l4_model.proofs.Places.{same_name_is}
use Rattle.l4_model.proofs.Sends.{Status, statuses, with_begun, with_decided, Decides, Effect, effect}
use Rattle.l4_model.proofs.Owed.{owed_by_is, OwedEffect, owed_effect}

-- The k-th send of a thread was begun and is decided.
abbrev pub is_past : ℕ → Status → Bool
is_past k x = nat_lt k x.begun || ((k == x.begun) && is_none x.send)

abbrev pub WasDecided : Machine → World → Name → Type 0
WasDecided m w s = (j : ℕ) (x : Status) → place_of m s.thread ≡ Some j → slice_get (statuses w) j ≡ Some x → is_past s.k x ≡ true

past_begun : (k : ℕ) (send : Send) (x : Status) → is_past k x ≡ true → is_past k (with_begun send x) ≡ true
past_begun k send x h = grind (arith, nat_tests)

past_decided : (k : ℕ) (x : Status) → is_past k x ≡ true → is_past k (with_decided x) ≡ true
past_decided k x h = by (nat_lt k x.begun) (k == x.begun) h
  where
    by : (a b : Bool) → (a || (b && is_none x.send)) ≡ true → (a || (b && true)) ≡ true
    by true b h = refl
    by false true h = refl
    by false false h = h

changed_past : (m : Machine) (w v : World) (s : Name) (f : Status → Status) (i : ℕ) → ((x : Status) → is_past s.k x ≡ true → is_past s.k (f x) ≡ true) → statuses v ≡ changed f (statuses w) i →
    WasDecided m w s → WasDecided m v s
changed_past m w v s f i keeps now was j y named at = by (slice_get (statuses w) j) refl (i == j) refl
  where
    here : slice_get (changed f (statuses w) i) j ≡ Some y
    here = ap (λ xs. slice_get xs j) (sym now) ∙ at

    with : (x : Status) → slice_get (statuses w) j ≡ Some x → (b : Bool) → (i == j) ≡ b → is_past s.k y ≡ true
    with x there true same =
        let one : f x ≡ y = some_is (f x) y (sym (ap (λ n. slice_get (changed f (statuses w) i) n) (sym (eqb-true i j same)) ∙ get-changed_same f (statuses w) i ∙ ap (λ n. option_map f (slice_get (statuses w) n)) (eqb-true i j same) ∙ ap (option_map f) there) ∙ here) in
        subst (λ z. is_past s.k z ≡ true) one (keeps x (was j x named there))
    with x there false other =
        let one : x ≡ y = some_is x y (sym there ∙ sym (get-changed_other f (statuses w) i j (eqb-false i j other)) ∙ here) in
        subst (λ z. is_past s.k z ≡ true) one (was j x named there)

    by : (o : Option Status) → slice_get (statuses w) j ≡ o → (b : Bool) → (i == j) ≡ b → is_past s.k y ≡ true
    by (Some x) there b is = with x there b is
    by None there true same =
        absurd (none (ap (λ n. slice_get (changed f (statuses w) i) n) (sym (eqb-true i j same)) ∙ get-changed_same f (statuses w) i ∙ ap (λ n. option_map f (slice_get (statuses w) n)) (eqb-true i j same) ∙ ap (option_map f) there) here)
      where
        none : {A : Type 0} {o : Option A} {y : A} → o ≡ None → o ≡ Some y → ⊥
        none e g = cc
    by None there false other = absurd (none (get-changed_other f (statuses w) i j (eqb-false i j other) ∙ there) here)
      where
        none : {A : Type 0} {o : Option A} {y : A} → o ≡ None → o ≡ Some y → ⊥
        none e g = cc

kept_past : (m : Machine) (w v : World) (s : Name) → statuses v ≡ statuses w → WasDecided m w s → WasDecided m v s
kept_past m w v s e was j x named at = was j x named (ap (λ xs. slice_get xs j) (sym e) ∙ at)

-- It stays so.
after_past : (m : Machine) (w v : World) (s : Name) (step : Step) → Effect m w v step → WasDecided m w s → WasDecided m v s
after_past m w v s (Begin t) e was = changed_past m w v s (with_begun e.send) e.place (past_begun s.k e.send) e.now was
after_past m w v s (Deliver t receiver shown actual tag words) e was = changed_past m w v s with_decided e.place (past_decided s.k) e.now was
after_past m w v s (SendTimeout t) e was = changed_past m w v s with_decided e.place (past_decided s.k) e.now was
after_past m w v s (SendNobody t) e was = changed_past m w v s with_decided e.place (past_decided s.k) e.now was
after_past m w v s (SendCancel t) e was = changed_past m w v s with_decided e.place (past_decided s.k) e.now was
after_past m w v s (Drop t) e was = changed_past m w v s with_decided e.place (past_decided s.k) e.now was
after_past m w v s _ e was = kept_past m w v s e was

-- What is decided now was undecided, and is not any more.

not_before : (m : Machine) (w v : World) (s : Name) → Decides m w v s → WasDecided m w s → ⊥
not_before m w v s d was = never d.old d.last d.undecided (was d.place d.old d.named d.was)
  where
    never : (x : Status) → x.begun ≡ s.k → x.send ≡ Some d.send → is_past s.k x ≡ true → ⊥
    never x last has past = let none : is_none x.send ≡ false = ap is_none has in grind (arith, nat_tests)

from_now : (m : Machine) (w v : World) (s : Name) → Decides m w v s → WasDecided m v s
from_now m w v s d j x named at =
    let place : d.place ≡ j = some_is d.place j (sym d.named ∙ named) in
    let one : with_decided d.old ≡ x = some_is (with_decided d.old) x (sym (ap (λ n. slice_get (statuses v) n) (sym place) ∙ ap (λ xs. slice_get xs d.place) d.now ∙ get-changed_same with_decided (statuses w) d.place ∙ ap (option_map with_decided) d.was) ∙ at) in
    subst (λ y. is_past s.k y ≡ true) one (done d.old d.last)
  where
    done : (x : Status) → x.begun ≡ s.k → is_past s.k (with_decided x) ≡ true
    done x last = grind (arith, nat_tests)

-- Each owed retarget is that of a decided send, and named once.
pub record AreDecided (m : Machine) (w : World) : Type 0 where
  pub decided : AllByRecursion (λ (o : Owed). WasDecided m w o.send) w.owed
  pub once : AreNamedOnce w.owed

all_as : (P Q : Owed → Type 0) (os : List Owed) → ((o : Owed) → P o → Q o) → AllByRecursion P os → AllByRecursion Q os
all_as P Q [] f h = tt
all_as P Q (o ∷ os) f h = (f o h.0, all_as P Q os f h.1)

all_one_more : (P : Owed → Type 0) (o : Option Owed) (os : List Owed) → AllByRecursion P os → IfSome o P → AllByRecursion P (one_more o os)
all_one_more P None os h new = h
all_one_more P (Some o) [] h new = (new, tt)
all_one_more P (Some o) (x ∷ os) h new = (h.0, all_one_more P (Some o) os h.1 new)

all_filter : (P : Owed → Type 0) (p : Owed → Bool) (os : List Owed) → AllByRecursion P os → AllByRecursion P (filter p os)
all_filter P p [] h = tt
all_filter P p (o ∷ os) h = by (p o) (all_filter P p os h.1)
  where
    by : (b : Bool) → AllByRecursion P (filter p os) → AllByRecursion P (cond b (o ∷ filter p os) (filter p os))
    by true rest = (h.0, rest)
    by false rest = rest

once_filter : (p : Owed → Bool) (os : List Owed) → AreNamedOnce os → AreNamedOnce (filter p os)
once_filter p [] h = tt
once_filter p (o ∷ os) h = by (p o) (all_filter (λ x. same_name o.send x.send ≡ false) p os h.0) (once_filter p os h.1)
  where
    by : (b : Bool) → AllByRecursion (λ x. same_name o.send x.send ≡ false) (filter p os) → AreNamedOnce (filter p os) → AreNamedOnce (cond b (o ∷ filter p os) (filter p os))
    by true apart rest = (apart, rest)
    by false apart rest = rest

once_one_more : (o : Option Owed) (os : List Owed) → AreNamedOnce os → IfSome o (λ n. AllByRecursion (λ x. same_name x.send n.send ≡ false) os) → AreNamedOnce (one_more o os)
once_one_more None os h new = h
once_one_more (Some n) [] h new = (tt, tt)
once_one_more (Some n) (x ∷ os) h new = (all_one_more (λ y. same_name x.send y.send ≡ false) (Some n) os h.0 new.0, once_one_more (Some n) os h.1 new.1)

false_unless : (b : Bool) → (b ≡ true → ⊥) → b ≡ false
false_unless true h = absurd (h refl)
false_unless false h = refl

delivered : (m : Machine) (w v : World) (s : Name) (o : Option Owed) → Decides m w v s → ((P : Owed → Type 0) → ((n : Owed) → n.send ≡ s → P n) → IfSome o P) → v.owed ≡ one_more o w.owed → AreDecided m w → AreDecided m v
delivered m w v s o d new now h =
    let others : AllByRecursion (λ (o : Owed). WasDecided m v o.send) w.owed =
    all_as (λ (o : Owed). WasDecided m w o.send) (λ (o : Owed). WasDecided m v o.send) w.owed (λ o was. changed_past m w v o.send with_decided d.place (past_decided o.send.k) d.now was) h.decided in
    let fresh : (n : Owed) → n.send ≡ s → AllByRecursion (λ x. same_name x.send n.send ≡ false) w.owed =
    λ n is. all_as (λ (o : Owed). WasDecided m w o.send) (λ x. same_name x.send n.send ≡ false) w.owed
    (λ x was. false_unless (same_name x.send n.send) (λ same. not_before m w v s d (subst (WasDecided m w) (same_name_is x.send n.send same ∙ is) was))) h.decided in
    record {
      decided = subst (AllByRecursion (λ (o : Owed). WasDecided m v o.send)) (sym now)
          (all_one_more (λ (o : Owed). WasDecided m v o.send) o w.owed others (new (λ n. WasDecided m v n.send) (λ n is. subst (WasDecided m v) (sym is) (from_now m w v s d))));
      once = subst AreNamedOnce (sym now) (once_one_more o w.owed h.once (new (λ n. AllByRecursion (λ x. same_name x.send n.send ≡ false) w.owed) fresh));
    }

still_decided : (m : Machine) (w v : World) (step : Step) → Effect m w v step → AllByRecursion (λ (o : Owed). WasDecided m w o.send) w.owed → AllByRecursion (λ (o : Owed). WasDecided m v o.send) w.owed
still_decided m w v step e all = all_as (λ (o : Owed). WasDecided m w o.send) (λ (o : Owed). WasDecided m v o.send) w.owed (λ o was. after_past m w v o.send step e was) all

pub step_decided : (m : Machine) (w v : World) (step : Step) → next m w step ≡ Some v → AreDecided m w → AreDecided m v
step_decided m w v step h all = by step (effect m w v step h) (owed_effect m w v step h)
  where
    by : (step : Step) → Effect m w v step → OwedEffect m w v step → AreDecided m v
    by (Deliver s receiver shown actual tag words) e o =
        delivered m w v s (owed_by m s o.p.send.message receiver) e (λ P f. owed_by_is P m s o.p.send.message receiver (f _ refl)) (ap (λ (x : World). x.owed) (sym o.leads_to)) all
    by (Retarget s) e o = record {
      decided = subst (AllByRecursion (λ (o : Owed). WasDecided m v o.send)) (sym o) (all_filter (λ (o : Owed). WasDecided m v o.send) (λ o. not (same_name s o.send)) w.owed (still_decided m w v (Retarget s) e all.decided));
      once = subst AreNamedOnce (sym o) (once_filter (λ o. not (same_name s o.send)) w.owed all.once);
    }
    by step e o = record { decided = subst (AllByRecursion (λ (o : Owed). WasDecided m v o.send)) (sym o) (still_decided m w v step e all.decided); once = subst AreNamedOnce (sym o) all.once }

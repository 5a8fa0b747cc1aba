-- What is known of each thread at rest: no letter is under way, so the world has it as its home does.
use Rattle.l4_model.proofs.Places.{known}
use Rattle.l4_model.proofs.Rows.Writing.{send}
use Rattle.std.proofs.Common.{◌≡◌, ℕ, ◌+◌, ◌<◌, Bool, true, false, cond, Option, Some, None, [], filter, length, refl, ap, sym, ◌∙◌, subst, arith, inl, inr, ◌⊎◌}
use Rattle.std.specs.Prelude.{◌==◌, nat_lt}
use Rattle.std.proofs.lemmas.Bool.{eqb-true}
use Rattle.std.proofs.lemmas.Bool.Decides.{nat_tests}
use Rattle.l4_model.specs.Machine.{Machine}
use Rattle.l4_model.specs.World.{Thread, World, Send, Phase, Ready, Sending, Receiving, Ordering, Ended, Deleted, is_ready, is_deleted}
use Rattle.l4_core_model.specs.Local.{declared, thread, readied, armed_period, destination_place}
use Rattle.l4_core_model.specs.Turns.{next_untold}
use Rattle.l4_core_model.specs.Runs.{System, at_rest, IsMachine}
use Rattle.l4_core_model.proofs.Apart.{same_or_apart}
use Rattle.l4_refines.proofs.Relation.Views.{Scene, view, world_thread, home, scene, is_about, locators}
use Rattle.l4_refines.proofs.Relation.Rows.{seats, Agrees, learned, Row, IsWaiting, Matches, name_of}
use Rattle.l4_refines.proofs.Promises.Promised.{AnyOf, IsAnswer, IsGone, IsSplitSend, IsLate, IsWished, kept_at, phases, Promised, HasHeard}
use Rattle.l4_refines.proofs.Relation.Relates.{RelatesExcept, Relates}
use Rattle.l4_refines.proofs.Rest.Seen.{IsShown, is_shown}
use Rattle.l4_refines.proofs.Rest.Idle.{IsIdle, is_idle, none_posted}

-- A scene at rest, with the world that it is related to.
pub record IsAtRest (m : Machine) (s : Scene) (w : World) : Type 0 where
  pub machine : IsMachine m
  pub relates : RelatesExcept m (Matches m) [] s w
  pub promised : Promised m [] s
  pub quiet : s.mail ≡ []
  pub idle : (i : ℕ) → i < length m.threads → IsIdle m (home m i) (s.locals (home m i)) i

pub is_at_rest : (m : Machine) (g : System) (w : World) → IsMachine m → length g.locals ≡ m.cpus → Relates m g w → Promised m [] (scene g) →
    at_rest m g ≡ true → IsAtRest m (scene g) w
is_at_rest m g w machine counted rel promised h = record {
  machine = machine;
  relates = rel;
  promised = promised;
  quiet = none_posted m g h;
  idle = λ i lt. is_idle m g i machine lt counted h;
}

-- The thread at a place, as its home has it.
abbrev pub own : Machine → Scene → ℕ → Thread
own m s i = thread (s.locals (home m i)) i

no_mail : (m : Machine) (s : Scene) (w : World) (i : ℕ) → IsAtRest m s w → (view m s w i).mail ≡ []
no_mail m s w i rest = ap (filter (is_about m i)) rest.quiet

pub own_agrees : (m : Machine) (s : Scene) (w : World) (i : ℕ) → IsAtRest m s w → i < length m.threads → Agrees m (world_thread w i) (own m s i)
own_agrees m s w i rest lt =
    subst (λ mail. Agrees m (world_thread w i) (learned (locators mail) (s.locals (home m i)).clock (own m s i))) (no_mail m s w i rest)
    (rest.relates.places i lt tt).known.agrees

pub own_shown : (m : Machine) (s : Scene) (w : World) (i : ℕ) → IsAtRest m s w → i < length m.threads → IsShown (world_thread w i) (own m s i)
own_shown m s w i rest lt = is_shown (world_thread w i) (own m s i) (own_agrees m s w i rest lt)

own_row : (m : Machine) (s : Scene) (w : World) (i : ℕ) → IsAtRest m s w → i < length m.threads → Row m i (seats m i (view m s w i)) [] (own m s i).send
own_row m s w i rest lt =
    subst (λ mail. Row m i (seats m i (view m s w i)) (locators mail) (own m s i).send) (no_mail m s w i rest) (rest.relates.places i lt tt).known.row

-- An undecided send waits.
pub own_waits : (m : Machine) (s : Scene) (w : World) (i : ℕ) (send : Send) → IsAtRest m s w → i < length m.threads → (own m s i).send ≡ Some send →
    IsWaiting m i send (seats m i (view m s w i))
own_waits m s w i send rest lt has = subst (Row m i (seats m i (view m s w i)) []) has (own_row m s w i rest lt)

-- No order is undone.
pub no_order : (m : Machine) (s : Scene) (w : World) (i : ℕ) → IsAtRest m s w → i < length m.threads → (world_thread w i).order ≡ None
no_order m s w i rest lt = (own_shown m s w i rest lt).order ∙ by (own m s i).send (own_row m s w i rest lt)
  where
    by : (o : Option Send) → Row m i (seats m i (view m s w i)) [] o → (own m s i).order ≡ None
    by None row = row.order
    by (Some send) row = row.order

-- No thread is ready.
pub unready : (m : Machine) (s : Scene) (w : World) (i : ℕ) → IsAtRest m s w → i < length m.threads → is_ready (world_thread w i).phase ≡ true → ⊥
unready m s w i rest lt ready =
    none (own m s i).phase (sym (rest.relates.places i lt tt).ready ∙ ap (filter (λ j. i == j)) (rest.idle i lt).none_ready)
    (sym (own_shown m s w i rest lt).ready ∙ ready)
  where
    none : (p : Phase) → readied p i [] ≡ [] → is_ready p ≡ true → ⊥
    none Ready h is = cc
    none Sending h is = cc
    none (Receiving receive since) h is = cc
    none Ordering h is = cc
    none Ended h is = cc
    none Deleted h is = cc

-- Nothing is armed, so what is not a send to another processor's thread has no deadline.

pub none_armed : (m : Machine) (s : Scene) (w : World) (i : ℕ) → IsAtRest m s w → i < length m.threads → (kept_at s (home m i) i).armed ≡ []
none_armed m s w i rest lt = ap (filter (λ (e : ℕ × ℕ). i == e.1)) (rest.idle i lt).none_armed

pub no_deadline : (m : Machine) (s : Scene) (w : World) (i : ℕ) → IsAtRest m s w → i < length m.threads → (IsSplitSend m i (own m s i).send → ⊥) →
    armed_period (own m s i).phase (own m s i).send ≡ None
no_deadline m s w i rest lt one = rest.promised.armed i lt tt one (none_armed m s w i rest lt)

-- No split send is to end: its answer would be under way.
pub none_ending : (m : Machine) (s : Scene) (w : World) (i r : ℕ) (send : Send) → IsAtRest m s w → i < length m.threads → (own m s i).send ≡ Some send →
    destination_place m send.to ≡ Some r → (home m r ≡ home m i → ⊥) →
    IsLate (kept_at s (home m i) i) ⊎ IsWished (own m s i) → ⊥
none_ending m s w i r send rest lt has to away ending =
    subst (AnyOf (IsAnswer (name_of m i (own m s i)) (home m i) (home m r))) rest.quiet (rest.promised.answered i lt tt send r has to away ending)

-- All processors know of a deletion.

told_all : (m : Machine) (cpu here told : ℕ) → next_untold m here told ≡ None → cpu < m.cpus → (cpu ≡ here → ⊥) → cpu < told
told_all m cpu here told h lt ne = by (told == here) refl h
  where
    past : (n : ℕ) → cond (nat_lt n m.cpus) (Some n) None ≡ None → nat_lt n m.cpus ≡ false
    past n h = at (nat_lt n m.cpus) h
      where
        at : (b : Bool) → cond b (Some n) None ≡ None → b ≡ false
        at true h = cc
        at false h = refl

    by : (b : Bool) → (told == here) ≡ b → cond (nat_lt (cond b (told + 1) told) m.cpus) (Some (cond b (told + 1) told)) None ≡ None → cpu < told
    by true is h = let same = eqb-true told here is in let last = past (told + 1) h in grind (arith, nat_tests)
    by false is h = let last = past told h in grind (arith, nat_tests)

pub known_gone : (m : Machine) (s : Scene) (w : World) (j cpu : ℕ) → IsAtRest m s w → j < length m.threads → cpu < m.cpus →
    is_deleted (world_thread w j).phase ≡ true → is_deleted (thread (s.locals cpu) j).phase ≡ true
known_gone m s w j cpu rest lt processor gone =
    let at_home : is_deleted (own m s j).phase ≡ true = sym (own_shown m s w j rest lt).deleted ∙ gone in
    same_or_apart (is_deleted (thread (s.locals cpu) j).phase ≡ true) cpu (home m j)
    (λ same. ap (λ c. is_deleted (thread (s.locals c) j).phase) same ∙ at_home)
    (λ ne. by (rest.promised.told j lt cpu processor ne (told_all m cpu (home m j) _ ((rest.idle j lt).all_told at_home) processor ne)))
  where
    by : HasHeard m j cpu (phases s j cpu) s.mail → is_deleted (thread (s.locals cpu) j).phase ≡ true
    by (inl known) = ap is_deleted known
    by (inr letter) = absurd (subst (AnyOf (IsGone (declared m j).id cpu)) rest.quiet letter)

-- Letters under way in a state that a core run leads to are between processors of the machine.
use Rattle.std.proofs.Common.{◌≡◌, ℕ, ◌<◌, ◌≤◌, Bool, true, false, cond, Option, Some, None, List, [], ◌∷◌, ◌++◌, length, map, refl, subst, ◌∙◌, arith}
use Rattle.std.specs.Prelude.{slice_get, filter, ◌==◌}
use Rattle.std.specs.Option.{option_map}
use Rattle.std.specs.List.{AllByRecursion}
use Rattle.std.proofs.lemmas.Bool.{eqb-true, and_parts}
use Rattle.std.proofs.lemmas.List.FromFn.{length-map-range_with_len}
use Rattle.std.proofs.lemmas.Option.{slice_get_within}
use Rattle.l4_model.specs.Machine.{Machine}
use Rattle.l4_model.proofs.Chains.{some_is, bind_then}
use Rattle.l4_core_model.specs.Letters.{Letter}
use Rattle.l4_core_model.specs.Local.{Local, opening_local}
use Rattle.l4_core_model.specs.Acts.{Work}
use Rattle.l4_core_model.specs.Mail.{handle}
use Rattle.l4_core_model.specs.Turns.{turn, advance}
use Rattle.l4_core_model.specs.Runs.{System, Posted, letters, is_between, without_first, posted, taken, done, Action, Handles, Turns, Ticks, Happened, happens, Run, IsMachine, core_run, opening_run, opening_system, then_event}
use Rattle.l4_core_model.proofs.Changed.{length-changed}
use Rattle.l4_refines.proofs.Law.{run_facts}
use Rattle.l4_refines.proofs.Letters.Addressed.{IsAddressedTo}
use Rattle.l4_states.specs.Choices.{IsReached}

-- The processors are those of the machine, and letters come from them.
pub record IsBounded (m : Machine) (g : System) : Type 0 where
  pub locals : length g.locals ≡ m.cpus
  pub mail : AllByRecursion (λ p. p.from < m.cpus) g.mail

all_append : (P : Posted → Type 0) (ps qs : List Posted) → AllByRecursion P ps →
    AllByRecursion P qs → AllByRecursion P (ps ++ qs)
all_append P [] qs a b = b
all_append P (p ∷ ps) qs a b = (a.0, all_append P ps qs a.1 b)

all_posted : (n cpu : ℕ) (ls : List (ℕ × Letter)) → cpu < n →
    AllByRecursion (λ p. p.from < n) (map (posted cpu) ls)
all_posted n cpu [] h = tt
all_posted n cpu (l ∷ ls) h = (h, all_posted n cpu ls h)

all_without : (P : Posted → Type 0) (from to : ℕ) (ps : List Posted) → AllByRecursion P ps →
    AllByRecursion P (without_first from to ps)
all_without P from to [] a = tt
all_without P from to (p ∷ ps) a = by (is_between from to p) (all_without P from to ps a.1)
  where
    by : (b : Bool) → AllByRecursion P (without_first from to ps) →
        AllByRecursion P (cond b ps (p ∷ without_first from to ps))
    by true rest = a.1
    by false rest = (a.0, rest)

pub opening_bounded : (m : Machine) → IsBounded m (opening_system m)
opening_bounded m = record {
  locals = length-map-range_with_len (opening_local m) 0 m.cpus;
  mail =
      tt;
}

done_bounded : (m : Machine) (cpu : ℕ) (g : System) (x : Work) → cpu < m.cpus → IsBounded m g →
    IsBounded m (done cpu g x).system
done_bounded m cpu g x lt b = record {
  locals = length-changed (λ l. x.local) g.locals cpu ∙ b.locals;
  mail = all_append (λ p. p.from < m.cpus) g.mail (map (posted cpu) x.letters) b.mail
      (all_posted m.cpus cpu x.letters lt);
}

some_done : (m : Machine) (cpu : ℕ) (g : System) (o : Option Work) (h : Happened) → cpu < m.cpus →
    IsBounded m g →
    option_map (done cpu g) o ≡ Some h → IsBounded m h.system
some_done m cpu g None h lt b is = cc
some_done m cpu g (Some x) h lt b is =
    subst (λ (k : Happened). IsBounded m k.system) (some_is (done cpu g x) h is)
    (done_bounded m cpu g x lt b)

-- What happens at a processor of the machine leads to a state within bounds.
pub record HappensAt (m : Machine) (cpu : ℕ) (h : Happened) : Type 0 where
  pub own : cpu < m.cpus
  pub bounded : IsBounded m h.system

at : (m : Machine) (g : System) (cpu : ℕ) (l : Local) → IsBounded m g →
    slice_get g.locals cpu ≡ Some l → cpu < m.cpus
at m g cpu l b is = omega (arith, slice_get_within g.locals cpu l is, b.locals)

pub handles_at : (m : Machine) (g : System) (cpu from : ℕ) (h : Happened) → IsBounded m g →
    happens m g (Handles cpu from) ≡ Some h → HappensAt m cpu h
handles_at m g cpu from h b is =
    bind_then (slice_get g.locals cpu) _ h is λ l there is.
    bind_then (slice_get (letters g.mail from cpu) 0) _ h is λ letter first is.
    let lt = at m g cpu l b there in
    record {
      own = lt;
      bounded = some_done m cpu (taken from cpu g) (handle m cpu l letter) h lt
          (record {
            locals = b.locals;
            mail =
                all_without (λ p. p.from < m.cpus) from cpu g.mail b.mail;
          }) is;
    }

pub turns_at : (m : Machine) (g : System) (cpu : ℕ) (h : Happened) → IsBounded m g →
    happens m g (Turns cpu) ≡ Some h → HappensAt m cpu h
turns_at m g cpu h b is =
    bind_then (slice_get g.locals cpu) _ h is λ l there is.
    let lt = at m g cpu l b there in
    record { own = lt; bounded = some_done m cpu g (turn m cpu l) h lt b is }

pub ticks_at : (m : Machine) (g : System) (cpu clock : ℕ) (h : Happened) → IsBounded m g →
    happens m g (Ticks cpu clock) ≡ Some h → HappensAt m cpu h
ticks_at m g cpu clock h b is =
    bind_then (slice_get g.locals cpu) _ h is λ l there is.
    let lt = at m g cpu l b there in
    record { own = lt; bounded = some_done m cpu g (advance m cpu clock l) h lt b is }

happens_bounded : (m : Machine) (g : System) (e : Action) (h : Happened) → IsBounded m g →
    happens m g e ≡ Some h → IsBounded m h.system
happens_bounded m g (Handles cpu from) h b is = let a = handles_at m g cpu from h b is in a.bounded
happens_bounded m g (Turns cpu) h b is = let a = turns_at m g cpu h b is in a.bounded
happens_bounded m g (Ticks cpu clock) h b is = let a = ticks_at m g cpu clock h b is in a.bounded

run_bounded : (m : Machine) (es : List Action) (r t : Run) → IsBounded m r.system →
    core_run m r es ≡ Some t → IsBounded m t.system
run_bounded m [] r t b is = subst (λ (u : Run). IsBounded m u.system) (some_is r t is) b
run_bounded m (e ∷ es) r t b is =
    bind_then (happens m r.system e) _ t is λ h there rest.
    run_bounded m es (then_event r h) t (happens_bounded m r.system e h b there) rest

-- The poster and the receiver of a letter under way are processors.

pub from_below : (n from to : ℕ) (ps : List Posted) → AllByRecursion (λ p. p.from < n) ps →
    n ≤ from → letters ps from to ≡ []
from_below n from to [] a le = refl
from_below n from to (p ∷ ps) a le = by (is_between from to p) refl (from_below n from to ps a.1 le)
  where
    by : (b : Bool) → is_between from to p ≡ b → letters ps from to ≡ [] →
        map (λ (q : Posted). q.letter)
        (cond b (p ∷ filter (is_between from to) ps) (filter (is_between from to) ps)) ≡ []
    by true e rest =
        let is = eqb-true p.from from (and_parts (p.from == from) (p.to == to) e).0 in
        absurd (omega (arith, a.0, is))
    by false e rest = rest

to_below : (n from to : ℕ) (ps : List Posted) → AllByRecursion (λ p. p.to < n) ps → n ≤ to →
    letters ps from to ≡ []
to_below n from to [] a le = refl
to_below n from to (p ∷ ps) a le = by (is_between from to p) refl (to_below n from to ps a.1 le)
  where
    by : (b : Bool) → is_between from to p ≡ b → letters ps from to ≡ [] →
        map (λ (q : Posted). q.letter)
        (cond b (p ∷ filter (is_between from to) ps) (filter (is_between from to) ps)) ≡ []
    by true e rest =
        let is = eqb-true p.to to (and_parts (p.from == from) (p.to == to) e).1 in
        absurd (omega (arith, a.0, is))
    by false e rest = rest

-- Between processors that are not of the machine no letters are under way.
pub record IsWithin (m : Machine) (g : System) : Type 0 where
  pub locals : length g.locals ≡ m.cpus
  pub from : (from to : ℕ) → m.cpus ≤ from → letters g.mail from to ≡ []
  pub to : (from to : ℕ) → m.cpus ≤ to → letters g.mail from to ≡ []

pub run_within : (m : Machine) (es : List Action) (r : Run) → IsMachine m →
    core_run m (opening_run m) es ≡ Some r → IsWithin m r.system
run_within m es r machine is =
    let b = run_bounded m es (opening_run m) r (opening_bounded m) is in
    let f = run_facts m r machine (es, is) in
    record {
      locals = b.locals;
      from = λ from to le. from_below m.cpus from to r.system.mail b.mail le;
      to = λ from to le. to_below m.cpus from to r.system.mail
          (addressed r.system.mail f.addressed) le;
    }
  where
    addressed : (ps : List Posted) →
        AllByRecursion (λ p. IsAddressedTo m p.to p.letter.content) ps →
        AllByRecursion (λ p. p.to < m.cpus) ps
    addressed [] a = tt
    addressed (p ∷ ps) a = (a.0.1, addressed ps a.1)

pub reached_within : (m : Machine) (g : System) → IsMachine m → IsReached m g → IsWithin m g
reached_within m g machine r =
    subst (IsWithin m) r.system (run_within m r.actions r.run machine r.is)

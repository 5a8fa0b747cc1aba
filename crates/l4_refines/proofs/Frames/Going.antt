-- An event under way: the steps told so far are possible, and what they lead to is related to what the processors have.
use Rattle.std.proofs.Common.{◌≡◌, ℕ, ◌<◌, Some, None, List, [], ◌∷◌, ◌++◌, length, refl, ap, sym, ◌∙◌, subst, arith, Bool, true, false, cond}
use Rattle.std.proofs.lemmas.Option.{slice_get-get_or}
use Rattle.l4_model.specs.Machine.{Machine}
use Rattle.l4_model.specs.World.{Thread, World, change, opening, opening_thread}
use Rattle.l4_model.specs.Steps.{Step, next}
use Rattle.l4_model.specs.Conditions.{found, ◌>>=◌}
use Rattle.l4_model.specs.History.{run, reached}
use Rattle.l4_model.specs.Reached.{WorldFacts}
use Rattle.l4_model.proofs.Worlds.{reached_facts}
use Rattle.l4_core_model.proofs.Telling.{run-append}
use Rattle.l4_core_model.specs.Local.{Local, declared, undeclared, comes_to, readied}
use Rattle.l4_core_model.specs.Acts.{Work, ◌▷◌, tells, does}
use Rattle.l4_core_model.specs.Runs.{IsMachine}
use Rattle.l4_core_model.proofs.Changed.{run-last, get-changed, same_nat}
use Rattle.l4_core_model.proofs.Fit.{IsGood}
use Rattle.l4_core_model.proofs.Apart.{same_or_apart}
use Rattle.l4_refines.proofs.Lists.{other_is}
use Rattle.l4_refines.proofs.Frames.Locals.{come, comes_here}
use Rattle.l4_refines.proofs.Relation.Views.{Scene, Kept, View, kept, view, world_thread, home, put, amid, locators}
use Rattle.l4_refines.proofs.Relation.Rows.{seats, Agrees, IsUnplaced, IsKeptAtHome, IsKept, Matches, OwesIn}
use Rattle.l4_refines.proofs.Relation.Relates.{IsSized, RelatesExcept}
use Rattle.l4_refines.proofs.Frames.Places.{takes_in, world_changes, local_changes, comes_spares, first_about}
use Rattle.l4_refines.proofs.Frames.Moves.{at_home, StaysTrue, Moves, same_alike, moves_kept, plain_known, IsFresh, come_kept}
use Rattle.std.specs.Prelude.{◌==◌}
use Rattle.std.proofs.lemmas.Bool.{eqb-true}
use Rattle.std.proofs.lemmas.List.{append-nil}
use Rattle.l4_core_model.specs.Turns.{opened}

-- A history leads to it.
pub record IsReached (m : Machine) (w : World) : Type 0 where
  pub history : List Step
  pub is : reached m history ≡ Some w

-- The event goes on from a world, for all threads but those left out: the steps that it has told so far lead from that world to one
-- that is related to the scene it has made.
pub record Goes (m : Machine) (cpu : ℕ) (s : Scene) (w : World) (except : List ℕ) (x : Work) : Type 0 where
  pub starts : IsReached m w
  pub now : World
  pub reaches : run m w x.steps ≡ Some now
  pub relates : RelatesExcept m (Matches m) except (amid cpu s x) now

-- So what is true of all worlds that histories reach is true where it has come to.
pub now_facts : (m : Machine) (cpu : ℕ) (s : Scene) (w : World) (except : List ℕ) (x : Work) → (e : Goes m cpu s w except x) → WorldFacts m e.now
now_facts m cpu s w except x e =
    reached_facts m (e.starts.history ++ x.steps) e.now
    (run-append m e.starts.history x.steps (opening m) ∙ ap (λ o. o >>= λ v. run m v x.steps) e.starts.is ∙ e.reaches)

-- One more step is told.
pub one_more_told : (m : Machine) (w : World) (now v : World) (steps : List Step) (step : Step) → run m w steps ≡ Some now → next m now step ≡ Some v →
    run m w (steps ++ step ∷ []) ≡ Some v
one_more_told m w now v steps step reaches possible = rw (run-last, reaches) possible

-- The event is at the home of the thread at a place.
pub record IsHere (m : Machine) (cpu : ℕ) (i : ℕ) : Type 0 where
  pub machine : IsMachine m
  pub within : i < length m.threads
  pub home : home m i ≡ cpu

pub put_home : (m : Machine) (cpu i : ℕ) (s : Scene) (l : Local) → home m i ≡ cpu → put cpu l s.locals (home m i) ≡ l
put_home m cpu i s l is = let same = same_nat cpu in rw (is, same) refl

-- What home keeps of it is what the local state under way has.
pub home_is : (m : Machine) (cpu i : ℕ) (s : Scene) (x : Work) (w : World) → home m i ≡ cpu → at_home m i (view m (amid cpu s x) w i) ≡ kept x.local i
home_is m cpu i s x w is = ap (λ l. kept l i) (put_home m cpu i s x.local is)

pub sized_here : {P : ℕ → View → Type 0} (m : Machine) (cpu i : ℕ) (except : List ℕ) (s : Scene) (w : World) (x : Work) → IsHere m cpu i →
    RelatesExcept m P except (amid cpu s x) w → IsSized m x.local
sized_here m cpu i except s w x here r =
    subst (IsSized m) (put_home m cpu i s x.local here.home) (r.sized (home m i) (here.machine.homed i here.within))

-- The thread at a place, as the world has it.
pub found_here : {P : ℕ → View → Type 0} (m : Machine) (cpu i : ℕ) (except : List ℕ) (s : Scene) (w : World) (x : Work) → IsHere m cpu i →
    RelatesExcept m P except (amid cpu s x) w →
    found m w (declared m i).id ≡ Some (record { at = i; declared = declared m i; now = world_thread w i; clock = x.local.clock })
found_here m cpu i except s w x here r =
    let lt = here.within in
    let at = here.machine.placed i lt in
    let size : i < length w.threads = omega (arith, r.sized_world.threads) in
    let clock = r.clocks (home m i) (here.machine.homed i lt) ∙ ap (λ (l : Local). l.clock) (put_home m cpu i s x.local here.home) in
    rw (at, slice_get-get_or m.threads i undeclared, slice_get-get_or w.threads i opening_thread, clock) refl

-- A thread comes to a phase, in the world and at home.
pub record IsCome (P : ℕ → View → Type 0) (m : Machine) (i : ℕ) (except : List ℕ) (k : Kept) (f g : Thread → Thread) (s after : Scene)
    (w : World) : Type 0 where
  pub relates : RelatesExcept m P (i ∷ except) after (change w i g)
  pub world : world_thread (change w i g) i ≡ g (world_thread w i)
  pub here : at_home m i (view m after (change w i g) i) ≡ come i f k
  pub elsewhere : (cpu : ℕ) → (cpu ≡ home m i → ⊥) → kept (after.locals cpu) i ≡ kept (s.locals cpu) i

pub put_other : (cpu c i : ℕ) (l after : Local) (locals : ℕ → Local) → (cpu ≡ c → ⊥) → kept (put cpu after locals c) i ≡ kept (put cpu l locals c) i
put_other cpu c i l after locals ne = let apart = other_is cpu c ne in rw apart refl

pub comes : {P : ℕ → View → Type 0} (m : Machine) (cpu i : ℕ) (except : List ℕ) (s : Scene) (w : World) (x : Work) (f g : Thread → Thread) → IsHere m cpu i →
    RelatesExcept m P (i ∷ except) (amid cpu s x) w →
    IsCome P m i except (kept x.local i) f g (amid cpu s x) (amid cpu s (x ▷ does (comes_to i f))) w
comes m cpu i except s w x f g here r =
    let z = sized_here m cpu i (i ∷ except) s w x here r in
    let size : i < length x.local.threads = omega (arith, z.threads, here.within) in
    let in_world : i < length w.threads = omega (arith, r.sized_world.threads, here.within) in
    record {
      relates = world_changes m i (i ∷ except) (amid cpu s (x ▷ does (comes_to i f))) w g (first_about i except)
          (local_changes m cpu (i ∷ except) s w x (comes_to i f) (comes_spares m i (i ∷ except) x.local f here.within (first_about i except)) refl r);
      world = get-changed g w.threads i opening_thread in_world;
      here = ap (λ l. kept l i) (put_home m cpu i s (comes_to i f x.local) here.home) ∙ comes_here x.local i f size;
      elsewhere = λ c ne. put_other cpu c i x.local (comes_to i f x.local) s.locals (λ h. ne (sym h ∙ sym here.home));
    }

-- It has neither send nor order then.
pub record IsQuiet (m : Machine) (i : ℕ) (v : View) (k : Kept) (f : Thread → Thread) (g : Thread → Thread) : Type 0 where
  pub kept : IsKept m i v
  pub quiet : locators v.mail ≡ []
  pub unplaced : IsUnplaced m i (seats m i v)
  pub out : k.ready ≡ []
  pub send : (f k.thread).send ≡ None
  pub order : (f k.thread).order ≡ None
  pub agrees : Agrees m (g v.world) (f k.thread)
  pub good : IsGood k.clock (f k.thread)
  pub fresh : IsFresh k.clock (f k.thread).phase (f k.thread).send
  pub owes : OwesIn (f k.thread).phase k.owed
  pub stays_true : StaysTrue k (come i f k)

-- A thread that comes to a phase with neither send nor order matches the world as before.
pub quiet_matches : {P : ℕ → View → Type 0} (m : Machine) (cpu i : ℕ) (except : List ℕ) (s : Scene) (w : World) (x : Work) (f g : Thread → Thread) →
    IsHere m cpu i →
    IsCome P m i except (kept x.local i) f g (amid cpu s x) (amid cpu s (x ▷ does (comes_to i f))) w →
    IsQuiet m i (view m (amid cpu s x) w i) (kept x.local i) f g →
    Matches m i (view m (amid cpu s (x ▷ does (comes_to i f))) (change w i g) i)
quiet_matches m cpu i except s w x f g here c q =
    let v : View = view m (amid cpu s x) w i in
    let after : View = view m (amid cpu s (x ▷ does (comes_to i f))) (change w i g) i in
    let k : Kept = kept x.local i in
    let was : at_home m i v ≡ k = home_is m cpu i s x w here.home in
    let moves : Moves m i v after = record {
      elsewhere = λ p ne. same_alike (v.kept p) (after.kept p) (c.elsewhere p ne);
      notices = refl;
      stays_true = subst (λ a. StaysTrue a (at_home m i after)) (sym was) (subst (StaysTrue k) (sym c.here) q.stays_true);
    } in
    record {
      known = plain_known m i after
          (moves_kept m i v after q.kept moves (subst (IsKeptAtHome i) (sym c.here) (come_kept i f k q.good q.fresh q.owes)))
          (record {
            listed = λ p r. same_or_apart ((after.kept p).listed r ≡ []) p (home m i)
                (λ h. ap (λ p. (after.kept p).listed r) h ∙ ap (λ (k : Kept). k.listed r) c.here ∙ sym (ap (λ (k : Kept). k.listed r) was)
                ∙ q.unplaced.listed (home m i) r)
                (λ ne. ap (λ (k : Kept). k.listed r) (c.elsewhere p ne) ∙ q.unplaced.listed p r);
            stand_in = λ p ne. ap (λ (k : Kept). k.thread.send) (c.elsewhere p ne) ∙ q.unplaced.stand_in p ne;
          })
          q.quiet (ap (λ (k : Kept). k.thread.send) c.here ∙ q.send) (ap (λ (k : Kept). k.thread.order) c.here ∙ q.order)
          (subst (λ (a : Kept). Agrees m after.world a.thread) (sym c.here) (subst (λ u. Agrees m u (f k.thread)) (sym c.world) q.agrees));
      ready = subst (λ (a : Kept). a.ready ≡ readied a.thread.phase i []) (sym c.here) (ap (readied (f k.thread).phase i) q.out);
    }

pub comes_quiet : (m : Machine) (cpu i : ℕ) (s : Scene) (w : World) (x : Work) (step : Step) (f g : Thread → Thread) → IsHere m cpu i →
    (e : Goes m cpu s w (i ∷ []) x) →
    IsQuiet m i (view m (amid cpu s x) e.now i) (kept x.local i) f g → next m e.now step ≡ Some (change e.now i g) →
    Goes m cpu s w [] (x ▷ tells step ▷ does (comes_to i f))
comes_quiet m cpu i s w x step f g here e q possible =
    let c = comes m cpu i [] s e.now x f g here e.relates in
    record {
      starts = e.starts;
      now = change e.now i g;
      reaches = one_more_told m w e.now (change e.now i g) x.steps step e.reaches possible;
      relates = takes_in m i [] (amid cpu s (x ▷ does (comes_to i f))) (change e.now i g) c.relates (quiet_matches m cpu i [] s e.now x f g here c q);
    }

-- An event begins: the stamp alone changes.

pub opened_scene : (cpu : ℕ) (s : Scene) → s ≡ amid cpu s (record { local = s.locals cpu; steps = []; letters = [] })
opened_scene cpu s =
    let mail = sym (append-nil s.mail) in
    λ d. record { locals = λ c. at c (cpu == c) refl d; mail = mail d }
  where
    at : (c : ℕ) (b : Bool) → (cpu == c) ≡ b → s.locals c ≡ cond b (s.locals cpu) (s.locals c)
    at c true is = ap s.locals (sym (eqb-true cpu c is))
    at c false is = refl

-- An event opens on a related scene.
pub opened_relates : (m : Machine) (cpu stamp : ℕ) (except : List ℕ) (s : Scene) (w : World) → RelatesExcept m (Matches m) except s w →
    RelatesExcept m (Matches m) except (amid cpu s (opened stamp (s.locals cpu))) w
opened_relates m cpu stamp except s w rel =
    local_changes m cpu except s w (record { local = s.locals cpu; steps = []; letters = [] }) (λ l. (opened stamp l).local)
    (record {
      sized = λ z. z;
      clock = refl;
      owed = refl;
      kept = λ j out. refl;
    }) refl
    (subst (λ s. RelatesExcept m (Matches m) except s w) (opened_scene cpu s) rel)

pub opened_goes : (m : Machine) (cpu stamp : ℕ) (except : List ℕ) (s : Scene) (w : World) → IsReached m w → RelatesExcept m (Matches m) except s w →
    Goes m cpu s w except (opened stamp (s.locals cpu))
opened_goes m cpu stamp except s w starts rel = record { starts = starts; now = w; reaches = refl; relates = opened_relates m cpu stamp except s w rel }

-- The stations of a machine, where one of them does something and posts letters to the others.
use Rattle.std.proofs.Common.{◌≡◌, ◌≢◌, ℕ, ◌<◌, Bool, true, false, cond, Option, Some, None, List, [], ◌∷◌, ◌++◌, map, length, drop, get_or, refl, ap, sym, ◌∙◌, subst, arith, append_assoc, append-nil}
use Rattle.std.specs.Prelude.{slice_get, filter, ◌==◌}
use Rattle.std.specs.List.{AllByRecursion}
use Rattle.std.specs.Option.{option_map}
use Rattle.std.proofs.lemmas.Bool.{eqb-true, eqb-false}
use Rattle.l4_model.specs.Machine.{Machine}
use Rattle.l4_model.specs.World.{changed}
use Rattle.l4_model.proofs.Chains.{some_is, get-changed_same, get-changed_other, map-changed, map-changed_same, length-changed}
use Rattle.l4_core_model.specs.Letters.{Letter}
use Rattle.l4_core_model.specs.Local.{Local}
use Rattle.l4_core_model.specs.Runs.{System, letters, without_first, posted, taken, done}
use Rattle.l4_core_model.specs.Acts.{Work}
use Rattle.l4_core_model.proofs.Changed.{get-changed}
use Rattle.l4_refines.proofs.Lists.{get_other_place}
use Rattle.l4_merge.specs.Transitions.{letters_with}
use Rattle.l4_merge.proofs.Lists.{slice_get_none}
use Rattle.l4_merge.proofs.Mail.{letters-append, letters-posted, letters-without_first, letters-without_other}
use Rattle.l4_replay.specs.Stations.{Station, letters_from, with_letter, without_letter}
use Rattle.l4_replay.specs.UnderWay.{letters_at, with_letters, CanPost, IsStation, IsSystem}

-- A station changes

-- What is at a place after a change.
changed_at : {A : Type 0} (P : ℕ → A → Type 0) (f : A → A) (xs : List A) (i j : ℕ) (y : A) →
    ((x : A) → slice_get xs i ≡ Some x → P i (f x)) → (slice_get xs j ≡ Some y → P j y) → slice_get (changed f xs i) j ≡ Some y → P j y
changed_at {A} P f xs i j y here there at = by (i == j) refl
  where
    got : (o : Option A) → slice_get xs i ≡ o → option_map f o ≡ Some y → P i y
    got None was is = absurd cc
    got (Some x) was is = subst (P i) (some_is (f x) y is) (here x was)

    by : (b : Bool) → (i == j) ≡ b → P j y
    by true e =
        let same : i ≡ j = eqb-true i j e in
        subst (λ k. P k y) same
        (got (slice_get xs i) refl (sym (get-changed_same f xs i) ∙ ap (slice_get (changed f xs i)) same ∙ at))
    by false e = there (sym (get-changed_other f xs i j (eqb-false i j e)) ∙ at)

-- The letters that come

-- The letters at a place of an inbox, where some have changed.
same_letters : (f : List Letter → List Letter) (s : Station) (i : ℕ) → i < length s.inbox →
    letters_from i (record s { inbox = changed f s.inbox i }) ≡ f (letters_from i s)
same_letters f s i lt = get-changed f s.inbox i [] lt

other_letters : (f : List Letter → List Letter) (s : Station) (i j : ℕ) → (i ≡ j → ⊥) →
    letters_from j (record s { inbox = changed f s.inbox i }) ≡ letters_from j s
other_letters f s i j ne = get_other_place f s.inbox i j [] ne

-- One letter
posted_at : (cpu from to dest : ℕ) (l : Letter) (ss : List Station) → dest < length ss → ((t : ℕ) (s : Station) → slice_get ss t ≡ Some s → cpu < length s.inbox) →
    letters_at from (slice_get (changed (with_letter cpu l) ss dest) to) ≡ letters_at from (slice_get ss to) ++ cond (cpu == from) (cond (dest == to) (l ∷ []) []) []
posted_at cpu from to dest l ss lt room = by (cpu == from) (dest == to) refl refl
  where
    here : (t : ℕ) (o : Option Station) → slice_get ss t ≡ o → t < length ss → cpu ≡ from → letters_at from (option_map (with_letter cpu l) o) ≡ letters_at from o ++ l ∷ []
    here t None at within same = let past = slice_get_none ss t at in absurd (omega arith)
    here t (Some s) at within same =
        subst (λ q. letters_from q (with_letter cpu l s) ≡ letters_from q s ++ l ∷ []) same (same_letters (λ ls. ls ++ l ∷ []) s cpu (room t s at))

    stays : (o : Option Station) → (cpu ≡ from → ⊥) → letters_at from (option_map (with_letter cpu l) o) ≡ letters_at from o
    stays None ne = refl
    stays (Some s) ne = other_letters (λ ls. ls ++ l ∷ []) s cpu from ne

    at_dest : (dest == to) ≡ true → slice_get (changed (with_letter cpu l) ss dest) to ≡ option_map (with_letter cpu l) (slice_get ss to)
    at_dest e = subst (λ t. slice_get (changed (with_letter cpu l) ss dest) t ≡ option_map (with_letter cpu l) (slice_get ss t)) (eqb-true dest to e) (get-changed_same (with_letter cpu l) ss dest)

    at_other : (dest == to) ≡ false → slice_get (changed (with_letter cpu l) ss dest) to ≡ slice_get ss to
    at_other e = get-changed_other (with_letter cpu l) ss dest to (eqb-false dest to e)

    by : (b c : Bool) → (cpu == from) ≡ b → (dest == to) ≡ c →
        letters_at from (slice_get (changed (with_letter cpu l) ss dest) to) ≡ letters_at from (slice_get ss to) ++ cond b (cond c (l ∷ []) []) []
    by true true s t = ap (letters_at from) (at_dest t) ∙ here to (slice_get ss to) refl (subst (λ k. k < length ss) (eqb-true dest to t) lt) (eqb-true cpu from s)
    by true false s t = ap (letters_at from) (at_other t) ∙ sym (append-nil (letters_at from (slice_get ss to)))
    by false true s t = ap (letters_at from) (at_dest t) ∙ stays (slice_get ss to) (eqb-false cpu from s) ∙ sym (append-nil (letters_at from (slice_get ss to)))
    by false false s t = ap (letters_at from) (at_other t) ∙ sym (append-nil (letters_at from (slice_get ss to)))

-- There is room for all of them, also after one has come.
all_of : {A : Type 0} (P Q : A → Type 0) → ((x : A) → P x → Q x) → (xs : List A) → AllByRecursion P xs → AllByRecursion Q xs
all_of P Q f [] a = tt
all_of P Q f (x ∷ xs) a = (f x a.0, all_of P Q f xs a.1)

pub can_post_more : (cpu : ℕ) (p : ℕ × Letter) (ps : List (ℕ × Letter)) (ss : List Station) → CanPost cpu (p ∷ ps) ss → CanPost cpu ps (changed (with_letter cpu p.1) ss p.0)
can_post_more cpu p ps ss can =
    let size = length-changed (with_letter cpu p.1) ss p.0 in (
      all_of (λ (q : ℕ × Letter). (q.0 < length ss) × (q.0 ≢ cpu)) (λ q. (q.0 < length (changed (with_letter cpu p.1) ss p.0)) × (q.0 ≢ cpu)) (λ q h. (let lt = h.0 in omega arith, h.1)) ps can.0.1,
      λ to s at. changed_at (λ t (s : Station). cpu < length s.inbox) (with_letter cpu p.1) ss p.0 to s
          (λ x was. let e = length-changed (λ ls. ls ++ p.1 ∷ []) x.inbox cpu in let lt = can.1 p.0 x was in omega arith) (can.1 to s) at,
    )

-- All letters
letters_come : (cpu from to : ℕ) (ps : List (ℕ × Letter)) (ss : List Station) → CanPost cpu ps ss →
    letters_at from (slice_get (with_letters cpu ps ss) to) ≡ letters_at from (slice_get ss to) ++ cond (cpu == from) (letters_with to ps) []
letters_come cpu from to [] ss can = none (cpu == from)
  where
    none : (b : Bool) → letters_at from (slice_get ss to) ≡ letters_at from (slice_get ss to) ++ cond b [] []
    none true = sym (append-nil (letters_at from (slice_get ss to)))
    none false = sym (append-nil (letters_at from (slice_get ss to)))
letters_come cpu from to (p ∷ ps) ss can =
    letters_come cpu from to ps (changed (with_letter cpu p.1) ss p.0) (can_post_more cpu p ps ss can)
    ∙ ap (λ ls. ls ++ cond (cpu == from) (letters_with to ps) []) (posted_at cpu from to p.0 p.1 ss can.0.0.0 can.1)
    ∙ by (cpu == from) (p.0 == to)
  where
    by : (b c : Bool) → letters_at from (slice_get ss to) ++ cond b (cond c (p.1 ∷ []) []) [] ++ cond b (letters_with to ps) [] ≡
        letters_at from (slice_get ss to) ++ cond b (map (λ p. p.1) (cond c (p ∷ filter (λ p. p.0 == to) ps) (filter (λ p. p.0 == to) ps))) []
    by true true = append_assoc (letters_at from (slice_get ss to)) (p.1 ∷ []) (letters_with to ps)
    by true false = append_assoc (letters_at from (slice_get ss to)) [] (letters_with to ps)
    by false c = append_assoc (letters_at from (slice_get ss to)) [] []

-- Letters that come change nothing else.
come_length : (cpu : ℕ) (ps : List (ℕ × Letter)) (ss : List Station) → length (with_letters cpu ps ss) ≡ length ss
come_length cpu [] ss = refl
come_length cpu (p ∷ ps) ss = come_length cpu ps (changed (with_letter cpu p.1) ss p.0) ∙ length-changed (with_letter cpu p.1) ss p.0

come_locals : (cpu : ℕ) (ps : List (ℕ × Letter)) (ss : List Station) → map (λ s. s.core.local) (with_letters cpu ps ss) ≡ map (λ s. s.core.local) ss
come_locals cpu [] ss = refl
come_locals cpu (p ∷ ps) ss = come_locals cpu ps (changed (with_letter cpu p.1) ss p.0) ∙ map-changed_same (λ (s : Station). s.core.local) (with_letter cpu p.1) (λ s. refl) ss p.0

abbrev AreStations : Machine → List Station → Type 0
AreStations m ss = (cpu : ℕ) (s : Station) → slice_get ss cpu ≡ Some s → IsStation m cpu s

come_stations : (m : Machine) (cpu : ℕ) (ps : List (ℕ × Letter)) (ss : List Station) → AreStations m ss → AreStations m (with_letters cpu ps ss)
come_stations m cpu [] ss are = are
come_stations m cpu (p ∷ ps) ss are =
    come_stations m cpu ps (changed (with_letter cpu p.1) ss p.0) (λ to s at.
    changed_at (λ t (s : Station). IsStation m t s) (with_letter cpu p.1) ss p.0 to s
    (λ x was. let i = are p.0 x was in record { machine = i.machine; cpu_is = i.cpu_is; inbox = length-changed (λ ls. ls ++ p.1 ∷ []) x.inbox cpu ∙ i.inbox }) (are to s) at)

-- A letter is taken

pub taken_system : (m : Machine) (g : System) (ss : List Station) (from cpu : ℕ) (s : Station) (letter : Letter) → IsSystem m g ss → slice_get ss cpu ≡ Some s →
    from < length s.inbox → slice_get (letters_from from s) 0 ≡ Some letter → IsSystem m (taken from cpu g) (changed (without_letter from) ss cpu)
taken_system m g ss from cpu s letter i at within first = record {
  for_each = length-changed (without_letter from) ss cpu ∙ i.for_each;
  each = λ to x there. changed_at (λ t (s : Station). IsStation m t s) (without_letter from) ss cpu to x
      (λ y was. let it = i.each cpu y was in record { machine = it.machine; cpu_is = it.cpu_is; inbox = length-changed (drop 1) y.inbox from ∙ it.inbox }) (i.each to x) there;
  locals = i.locals ∙ sym (map-changed_same (λ (s : Station). s.core.local) (without_letter from) (λ s. refl) ss cpu);
  mail = λ q p. mail q p;
}
  where
    rest_of : (ls : List Letter) → slice_get ls 0 ≡ Some letter → letters g.mail from cpu ≡ ls → letters (without_first from cpu g.mail) from cpu ≡ drop 1 ls
    rest_of [] is same = absurd cc
    rest_of (l ∷ ls) is same = letters-without_first from cpu g.mail l ls same

    own : letters g.mail from cpu ≡ letters_from from s
    own = i.mail from cpu ∙ ap (letters_at from) at

    here : slice_get (changed (without_letter from) ss cpu) cpu ≡ Some (without_letter from s)
    here = get-changed_same (without_letter from) ss cpu ∙ ap (option_map (without_letter from)) at

    mail : (q p : ℕ) → letters (without_first from cpu g.mail) q p ≡ letters_at q (slice_get (changed (without_letter from) ss cpu) p)
    mail q p = by (from == q) (cpu == p) refl refl
      where
        by : (b c : Bool) → (from == q) ≡ b → (cpu == p) ≡ c → letters (without_first from cpu g.mail) q p ≡ letters_at q (slice_get (changed (without_letter from) ss cpu) p)
        by true true e f =
            let P : ℕ → ℕ → Type 0 = λ q p. letters (without_first from cpu g.mail) q p ≡ letters_at q (slice_get (changed (without_letter from) ss cpu) p) in
            subst (λ p. P q p) (eqb-true cpu p f) (subst (λ q. P q cpu) (eqb-true from q e)
            (rest_of (letters_from from s) first own ∙ sym (same_letters (drop 1) s from within) ∙ ap (letters_at from) (sym here)))
        by false true e f =
            let P : ℕ → Type 0 = λ p. letters (without_first from cpu g.mail) q p ≡ letters_at q (slice_get (changed (without_letter from) ss cpu) p) in
            subst P (eqb-true cpu p f)
            (letters-without_other from cpu q cpu g.mail (λ same _. eqb-false from q e same) ∙ i.mail q cpu ∙ ap (letters_at q) at
            ∙ sym (other_letters (drop 1) s from q (eqb-false from q e)) ∙ ap (letters_at q) (sym here))
        by b false e f =
            letters-without_other from cpu q p g.mail (λ _ same. eqb-false cpu p f same) ∙ i.mail q p
            ∙ ap (letters_at q) (sym (get-changed_other (without_letter from) ss cpu p (eqb-false cpu p f)))

-- A processor does something

-- What stays of the station that did it.
pub record IsSame (old new : Station) (l : Local) : Type 0 where
  pub machine : new.core.machine ≡ old.core.machine
  pub cpu : new.core.cpu ≡ old.core.cpu
  pub local : new.core.local ≡ l
  pub inbox : new.inbox ≡ old.inbox

pub done_system : (m : Machine) (g : System) (ss : List Station) (cpu : ℕ) (old new : Station) (x : Work) → IsSystem m g ss → slice_get ss cpu ≡ Some old → IsSame old new x.local →
    CanPost cpu x.letters (changed (λ s. new) ss cpu) → IsSystem m (done cpu g x).system (with_letters cpu x.letters (changed (λ s. new) ss cpu))
done_system m g ss cpu old new x i at same can = record {
  for_each = come_length cpu x.letters (changed (λ s. new) ss cpu) ∙ length-changed (λ s. new) ss cpu ∙ i.for_each;
  each = come_stations m cpu x.letters (changed (λ s. new) ss cpu) (λ to y there.
      changed_at (λ t (s : Station). IsStation m t s) (λ s. new) ss cpu to y
      (λ z was. let it = i.each cpu old at in record { machine = same.machine ∙ it.machine; cpu_is = same.cpu ∙ it.cpu_is; inbox = ap length same.inbox ∙ it.inbox }) (i.each to y) there);
  locals = ap (λ ls. changed (λ l. x.local) ls cpu) i.locals
      ∙ sym (map-changed (λ (s : Station). s.core.local) (λ s. new) (λ l. x.local) (λ s. same.local) ss cpu)
      ∙ sym (come_locals cpu x.letters (changed (λ s. new) ss cpu));
  mail = λ from to. letters-append from to g.mail (map (posted cpu) x.letters) ∙ ap (λ ls. letters g.mail from to ++ ls) (letters-posted cpu from to x.letters)
      ∙ ap (λ ls. ls ++ cond (cpu == from) (letters_with to x.letters) []) (i.mail from to ∙ stays from to)
      ∙ sym (letters_come cpu from to x.letters (changed (λ s. new) ss cpu) can);
}
  where
    stays : (from to : ℕ) → letters_at from (slice_get ss to) ≡ letters_at from (slice_get (changed (λ s. new) ss cpu) to)
    stays from to = by (cpu == to) refl
      where
        by : (b : Bool) → (cpu == to) ≡ b → letters_at from (slice_get ss to) ≡ letters_at from (slice_get (changed (λ s. new) ss cpu) to)
        by true e = subst (λ t. letters_at from (slice_get ss t) ≡ letters_at from (slice_get (changed (λ s. new) ss cpu) t)) (eqb-true cpu to e)
            (ap (letters_at from) at ∙ ap (λ is. get_or is from []) (sym same.inbox)
            ∙ ap (letters_at from) (sym (get-changed_same (λ s. new) ss cpu ∙ ap (option_map (λ s. new)) at)))
        by false e = ap (letters_at from) (sym (get-changed_other (λ s. new) ss cpu to (eqb-false cpu to e)))

-- What an inbox has room for stays.
pub can_post : (m : Machine) (g : System) (ss : List Station) (cpu : ℕ) (old new : Station) (x : Work) → IsSystem m g ss → slice_get ss cpu ≡ Some old → IsSame old new x.local →
    cpu < m.cpus → AllByRecursion (λ p. (p.0 < m.cpus) × (p.0 ≢ cpu)) x.letters → CanPost cpu x.letters (changed (λ s. new) ss cpu)
can_post m g ss cpu old new x i at same lt within =
    let size = length-changed (λ (s : Station). new) ss cpu in
    let each = i.for_each in (
      all_of (λ (p : ℕ × Letter). (p.0 < m.cpus) × (p.0 ≢ cpu)) (λ p. (p.0 < length (changed (λ s. new) ss cpu)) × (p.0 ≢ cpu)) (λ p h. (let below = h.0 in omega arith, h.1)) x.letters within,
      λ to s there. changed_at (λ t (s : Station). cpu < length s.inbox) (λ s. new) ss cpu to s
          (λ y was. let e = (i.each cpu old at).inbox in let f = ap length same.inbox in omega arith)
          (λ was. let e = (i.each to s was).inbox in omega arith) there,
    )

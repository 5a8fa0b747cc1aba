-- A piece of an event leaves what is known of all places but those that it is about.
use Rattle.std.proofs.Common.{◌≡◌, ℕ, ◌+◌, ◌<◌, Bool, true, false, cond, Some, None, List, [], ◌∷◌, length, refl, ap, sym, ◌∙◌, subst}
use Rattle.std.specs.Prelude.{◌==◌, not, nat_le, slice_index_or}
use Rattle.std.specs.List.{AllByRecursion}
use Rattle.l4_model.specs.Machine.{Machine}
use Rattle.l4_model.specs.Words.{Period}
use Rattle.l4_model.specs.World.{Thread, World, Phase, Ready, Sending, Receiving, Ordering, Ended, Deleted, change, list_at}
use Rattle.l4_core_model.specs.Plain as plain
use Rattle.l4_core_model.specs.Local.{Local, thread, changes, comes_to, readied, armed_for, armed_period}
use Rattle.l4_core_model.specs.Acts.{Work, ◌▷◌, does}
use Rattle.l4_core_model.proofs.Changed.{blocks, length-changed}
use Rattle.l4_core_model.proofs.Fit.{NotIn, get_other}
use Rattle.l4_core_model.proofs.Lists.{all-append, all-filter}
use Rattle.l4_core_model.proofs.Apart.{same_or_apart}
use Rattle.l4_refines.proofs.Frames.Locals.{changes_other, comes_other}
use Rattle.l4_refines.proofs.Relation.Views.{Scene, View, kept, view, home, put, amid}
use Rattle.l4_refines.proofs.Relation.Relates.{AreWithin, IsSized, RelatesExcept, senders}
use Rattle.l4_refines.proofs.Relation.Owing.{Owing}

-- Of one processor's local state, and of the others'

pub put_keeps : (P : Local → Type 0) (cpu other : ℕ) (l after : Local) (locals : ℕ → Local) → (P l → P after) → P (put cpu l locals other) →
    P (put cpu after locals other)
put_keeps P cpu other l after locals f = by (cpu == other)
  where
    by : (b : Bool) → P (cond b l (locals other)) → P (cond b after (locals other))
    by true h = f h
    by false h = h

pub put_same : {A : Type 0} (g : Local → A) (cpu other : ℕ) (l after : Local) (locals : ℕ → Local) → g after ≡ g l →
    g (put cpu after locals other) ≡ g (put cpu l locals other)
put_same g cpu other l after locals e = by (cpu == other)
  where
    by : (b : Bool) → g (cond b after (locals other)) ≡ g (cond b l (locals other))
    by true = e
    by false = refl

-- The places that an act is about are among those that are left out.
abbrev pub IsAbout : ℕ → List ℕ → Type 0
IsAbout i except = (j : ℕ) → NotIn j except → i ≡ j → ⊥

pub first_about : (i : ℕ) (except : List ℕ) → IsAbout i (i ∷ except)
first_about i except j out e = out.0 (sym e)

-- Leaving out, and taking in again

pub leaves_out : {P : ℕ → View → Type 0} (m : Machine) (i : ℕ) (except : List ℕ) (s : Scene) (w : World) → RelatesExcept m P except s w →
    RelatesExcept m P (i ∷ except) s w
leaves_out m i except s w r = record {
  sized = r.sized;
  sized_world = r.sized_world;
  clocks = r.clocks;
  lists = r.lists;
  owing = r.owing;
  places = λ j lt out. r.places j lt out.1;
}

pub takes_in : {P : ℕ → View → Type 0} (m : Machine) (i : ℕ) (except : List ℕ) (s : Scene) (w : World) → RelatesExcept m P (i ∷ except) s w →
    P i (view m s w i) → RelatesExcept m P except s w
takes_in {P = P} m i except s w r here = record {
  sized = r.sized;
  sized_world = r.sized_world;
  clocks = r.clocks;
  lists = r.lists;
  owing = r.owing;
  places = λ j lt out. same_or_apart (P j (view m s w j)) i j (λ e. subst (λ k. P k (view m s w k)) e here) (λ ne. r.places j lt ((λ e. ne (sym e)), out));
}

-- In the world

-- A thread of the world changes.
pub world_changes : {P : ℕ → View → Type 0} (m : Machine) (i : ℕ) (except : List ℕ) (s : Scene) (w : World) (f : Thread → Thread) → IsAbout i except →
    RelatesExcept m P except s w → RelatesExcept m P except s (change w i f)
world_changes {P = P} m i except s w f about r = record {
  sized = r.sized;
  sized_world = record { threads = length-changed f w.threads i ∙ r.sized_world.threads; lists = r.sized_world.lists; clocks = r.sized_world.clocks };
  clocks = r.clocks;
  lists = r.lists;
  owing = r.owing;
  places = λ j lt out. let same = get_other f w.threads i j (about j out) in
      subst (P j) (λ d. record (view m s w j) { world = sym same d }) (r.places j lt out);
}

-- On a processor

-- What a piece of an event leaves of a local state, beside its lists.
pub record Spares (m : Machine) (except : List ℕ) (l after : Local) : Type 0 where
  pub sized : IsSized m l → IsSized m after
  pub clock : after.clock ≡ l.clock
  pub owed : after.owed ≡ l.owed
  pub kept : (j : ℕ) → NotIn j except → kept after j ≡ kept l j

-- The lists change in the world and on a processor.
pub both_change : {P : ℕ → View → Type 0} (m : Machine) (cpu : ℕ) (except : List ℕ) (s : Scene) (w : World) (x : Work) (f : Local → Local)
    (lists : List (List ℕ)) → Spares m except x.local (f x.local) → length lists ≡ length m.threads →
    ((q : ℕ) → q < length m.threads → list_at lists q ≡ blocks (senders m (amid cpu s (x ▷ does f)) q)) →
    RelatesExcept m P except (amid cpu s x) w → RelatesExcept m P except (amid cpu s (x ▷ does f)) (record w { waiting = lists })
both_change {P = P} m cpu except s w x f lists spares size are r = record {
  sized = λ c lt. put_keeps (IsSized m) cpu c x.local (f x.local) s.locals spares.sized (r.sized c lt);
  sized_world = record { threads = r.sized_world.threads; lists = size; clocks = r.sized_world.clocks };
  clocks = λ c lt. r.clocks c lt ∙ sym (put_same (λ l. l.clock) cpu c x.local (f x.local) s.locals spares.clock);
  lists = are;
  owing = subst (λ owed. Owing m owed (amid cpu s x).mail w.owed)
      (λ d c. sym (put_same (λ l. l.owed) cpu c x.local (f x.local) s.locals spares.owed) d) r.owing;
  places = λ j lt out. let same = λ (c : ℕ). put_same (λ l. kept l j) cpu c x.local (f x.local) s.locals (spares.kept j out) in
      subst (P j) (λ d. record (view m (amid cpu s x) w j) { kept = λ c. sym (same c) d }) (r.places j lt out);
}

-- The lists stay.
pub local_changes : {P : ℕ → View → Type 0} (m : Machine) (cpu : ℕ) (except : List ℕ) (s : Scene) (w : World) (x : Work) (f : Local → Local) →
    Spares m except x.local (f x.local) → (f x.local).lists.waiting ≡ x.local.lists.waiting →
    RelatesExcept m P except (amid cpu s x) w → RelatesExcept m P except (amid cpu s (x ▷ does f)) w
local_changes m cpu except s w x f spares same r =
    both_change m cpu except s w x f w.waiting spares r.sized_world.lists
    (λ q lt. r.lists q lt ∙ ap (λ ess. blocks (slice_index_or ess q []))
    (sym (put_same (λ l. l.lists.waiting) cpu (home m q) x.local (f x.local) s.locals same))) r

-- A thread changes, or comes to a phase.

pub changes_spares : (m : Machine) (i : ℕ) (except : List ℕ) (l : Local) (f : Thread → Thread) → IsAbout i except → Spares m except l (changes i f l)
changes_spares m i except l f about = record {
  sized = λ z. record {
    threads = length-changed f l.threads i ∙ z.threads;
    lists = z.lists;
    told = z.told;
    ready = z.ready;
    armed = z.armed;
    listed = z.listed;
  };
  clock = refl;
  owed = refl;
  kept = λ j out. changes_other l i j f (about j out);
}

within_readied : (m : Machine) (i : ℕ) (p : Phase) (ready : List ℕ) → i < length m.threads → AreWithin m ready → AreWithin m (readied p i ready)
within_readied m i Ready ready lt h = all-append (λ j. j < length m.threads) ready i h lt
within_readied m i Sending ready lt h = h
within_readied m i (Receiving receive since) ready lt h = h
within_readied m i Ordering ready lt h = h
within_readied m i Ended ready lt h = h
within_readied m i Deleted ready lt h = h

put_within : (m : Machine) (e : ℕ × ℕ) (armed : List (ℕ × ℕ)) → e.1 < length m.threads → AllByRecursion (λ (e : ℕ × ℕ). e.1 < length m.threads) armed →
    AllByRecursion (λ (e : ℕ × ℕ). e.1 < length m.threads) (plain.put_entry e armed)
put_within m e [] lt h = (lt, tt)
put_within m e (x ∷ xs) lt h = by (nat_le x.0 e.0) (put_within m e xs lt h.1)
  where
    by : (b : Bool) → AllByRecursion (λ (e : ℕ × ℕ). e.1 < length m.threads) (plain.put_entry e xs) →
        AllByRecursion (λ (e : ℕ × ℕ). e.1 < length m.threads) (cond b (x ∷ plain.put_entry e xs) (e ∷ x ∷ xs))
    by true rest = (h.0, rest)
    by false rest = (lt, h)

within_armed : (m : Machine) (i : ℕ) (period : Period) (clock : ℕ) (armed : List (ℕ × ℕ)) → i < length m.threads →
    AllByRecursion (λ (e : ℕ × ℕ). e.1 < length m.threads) armed → AllByRecursion (λ (e : ℕ × ℕ). e.1 < length m.threads) (armed_for period clock i armed)
within_armed m i None clock armed lt h = h
within_armed m i (Some n) clock armed lt h = put_within m (clock + n, i) armed lt h

comes_sized : (m : Machine) (i : ℕ) (l : Local) (f : Thread → Thread) → i < length m.threads → IsSized m l → IsSized m (comes_to i f l)
comes_sized m i l f lt z = record {
  threads = length-changed f l.threads i ∙ z.threads;
  lists = z.lists;
  told = z.told;
  ready = within_readied m i (f (thread l i)).phase l.lists.ready lt z.ready;
  armed = within_armed m i (armed_period (f (thread l i)).phase (f (thread l i)).send) l.clock (plain.without_block i l.lists.armed) lt
      (all-filter (λ (e : ℕ × ℕ). e.1 < length m.threads) (λ e. not (i == e.1)) l.lists.armed z.armed);
  listed = z.listed;
}

pub comes_spares : (m : Machine) (i : ℕ) (except : List ℕ) (l : Local) (f : Thread → Thread) → i < length m.threads → IsAbout i except →
    Spares m except l (comes_to i f l)
comes_spares m i except l f lt about = record { sized = comes_sized m i l f lt; clock = refl; owed = refl; kept = λ j out. comes_other l i j f (about j out) }

-- Processors, and events under way, that are alike in some way.
use Rattle.std.proofs.Common.{◌≡◌, ℕ, zero, suc, Bool, true, false, cond, Option, Some, None, List, [], ◌∷◌, ◌++◌, drop, map, refl, sym, ap, ◌∙◌}
use Rattle.std.proofs.lemmas.List.{map-append}
use Rattle.std.proofs.Math.ListN.{get_or-map}
use Rattle.std.specs.Prelude.{slice_index_or, ◌==◌}
use Rattle.std.specs.Option.{option_map}
use Rattle.std.specs.List.{list_any}
use Rattle.l4_model.specs.Machine.{Machine}
use Rattle.l4_model.specs.World.{Name, Owed, Phase, Ready, Sending, Receiving, Ordering, Ended, Deleted, Thread, changed, is_deleted, opening_thread}
use Rattle.l4_model.specs.Steps.{Step}
use Rattle.l4_model.specs.Conditions.{◌>>=◌, ◌>>◌}
use Rattle.l4_core_model.specs.Plain as plain
use Rattle.l4_core_model.specs.Letters.{Content}
use Rattle.l4_core_model.specs.Local.{Local, armed_for, armed_period, changes, comes_to, declared, keeps_beside, last_name, owed_beside, readied, relists, thread}
use Rattle.l4_core_model.specs.Acts.{Work, does, first_acceptable, first_of_list, posts, split_place, split_receiver, tells}
use Rattle.l4_core_model.specs.Turns.{opened}
use Rattle.l4_bisimilar.proofs.Ways.{Way, bare_letter, bare_local, bare_thread, counted_name, counted_owed}
use Rattle.l4_model.proofs.Chains.{map-changed}
use Rattle.l4_bisimilar.proofs.Threads.{AreBoth, AreSame, IsTimeless, same_period, same_phase, same_send}

-- What two processors know, as the way takes it, is the same.
pub record IsLike (w : Way) (l k : Local) : Type 0 where
  pub threads : map (bare_thread w) l.threads ≡ map (bare_thread w) k.threads
  pub waiting : l.lists.waiting ≡ k.lists.waiting
  pub ready : l.lists.ready ≡ k.lists.ready
  pub armed : map (w.ahead l.clock) l.lists.armed ≡ map (w.ahead k.clock) k.lists.armed
  pub told : l.told ≡ k.told
  pub owed : map (option_map (counted_owed w.count)) l.owed ≡ map (option_map (counted_owed w.count)) k.owed
  pub clock : w.time l.clock ≡ w.time k.clock

-- Two events under way have come to what is alike.
pub record AreLike (w : Way) (x y : Work) : Type 0 where
  pub local : IsLike w x.local y.local
  pub steps : map w.step x.steps ≡ map w.step y.steps
  pub letters : map (bare_letter w) x.letters ≡ map (bare_letter w) y.letters

-- What is done to both keeps them alike.
abbrev pub IsFree : Way → (f g : Work → Work) → Type 0
IsFree w f g = (x y : Work) → AreLike w x y → AreLike w (f x) (g y)

-- Both do something alike, or neither can.
abbrev pub AreWorks : Way → Option Work → Option Work → Type 0
AreWorks w None None = Unit {0}
AreWorks w (Some x) (Some y) = AreLike w x y
AreWorks w None (Some y) = ⊥
AreWorks w (Some x) None = ⊥

module _ (w : Way) where
  abbrev owed : Owed → Owed
  owed o = counted_owed w.count o

  -- They are alike where they are the same as the way takes them.

  pub are_like : (l k : Local) → bare_local w l ≡ bare_local w k → IsLike w l k
  are_like l k e = record {
    threads = ap (λ (x : Local). x.threads) e;
    waiting = ap (λ (x : Local). x.lists.waiting) e;
    ready = ap (λ (x : Local). x.lists.ready) e;
    armed = ap (λ (x : Local). x.lists.armed) e;
    told = ap (λ (x : Local). x.told) e;
    owed = ap (λ (x : Local). x.owed) e;
    clock = ap (λ (x : Local). x.clock) e;
  }

  pub bare_same : (l k : Local) → IsLike w l k → bare_local w l ≡ bare_local w k
  bare_same l k h = λ j. record {
    threads = h.threads j;
    lists = record { waiting = h.waiting j; ready = h.ready j; armed = h.armed j };
    told = h.told j;
    owed = h.owed j;
    clock = h.clock j;
    stamp = 0;
  }

  -- Choices

  pub cond_like : (b c : Bool) (x y v u : Work) → b ≡ c → AreLike w x v → AreLike w y u →
      AreLike w (cond b x y) (cond c v u)
  cond_like true true x y v u e p q = p
  cond_like false false x y v u e p q = q
  cond_like true false x y v u e p q = cc
  cond_like false true x y v u e p q = cc

  pub bind_like : {A : Type 0} (o : Option A) (j k : A → Option Work) →
      ((a : A) → o ≡ Some a → AreWorks w (j a) (k a)) → AreWorks w (o >>= j) (o >>= k)
  bind_like None j k h = tt
  bind_like (Some a) j k h = h a refl

  pub guard_like : (b c : Bool) (o p : Option Work) → b ≡ c → AreWorks w o p → AreWorks w (b >> o) (c >> p)
  guard_like true true o p e h = h
  guard_like false false o p e h = tt
  guard_like true false o p e h = cc
  guard_like false true o p e h = cc

  -- Steps and letters

  pub tells_like : (s t : Step) → w.step s ≡ w.step t → IsFree w (tells s) (tells t)
  tells_like s t e x y h = record {
    local = h.local;
    steps =
        map-append w.step x.steps (s ∷ []) ∙ (λ j. h.steps j ++ e j ∷ [])
        ∙ sym (map-append w.step y.steps (t ∷ []));
    letters = h.letters;
  }

  pub posts_like : (cpu : ℕ) (c d : Content) → w.content c ≡ w.content d → IsFree w (posts cpu c) (posts cpu d)
  posts_like cpu c d e x y h = record {
    local = h.local;
    steps = h.steps;
    letters =
        map-append (bare_letter w) x.letters ((cpu, record { stamp = x.local.stamp; content = c }) ∷ [])
        ∙ (λ j. h.letters j ++ (cpu, record { stamp = 0; content = e j }) ∷ [])
        ∙ sym (map-append (bare_letter w) y.letters
        ((cpu, record { stamp = y.local.stamp; content = d }) ∷ []));
  }

  pub does_like : (f g : Local → Local) → ((l k : Local) → IsLike w l k → IsLike w (f l) (g k)) →
      IsFree w (does f) (does g)
  does_like f g e x y h = record { local = e x.local y.local h.local; steps = h.steps; letters = h.letters }

  -- Looking up

  pub thread_like : (l k : Local) (i : ℕ) → IsLike w l k → AreSame w (thread l i) (thread k i)
  thread_like l k i h =
      sym (get_or-map (bare_thread w) l.threads i opening)
      ∙ (λ j. slice_index_or (h.threads j) i (bare_thread w opening))
      ∙ get_or-map (bare_thread w) k.threads i opening
    where
      opening : Thread
      opening = opening_thread

  pub owed_like : (l k : Local) (i : ℕ) → IsLike w l k →
      option_map (counted_owed w.count) (owed_beside l i) ≡ option_map (counted_owed w.count) (owed_beside k i)
  owed_like l k i h =
      sym (get_or-map (option_map (counted_owed w.count)) l.owed i None) ∙ (λ j. slice_index_or (h.owed j) i None)
      ∙ get_or-map (option_map (counted_owed w.count)) k.owed i None

  pub phase_like : {A : Type 0} (f : Phase → A) → IsTimeless f → (l k : Local) (i : ℕ) → IsLike w l k →
      f (thread l i).phase ≡ f (thread k i).phase
  phase_like f e l k i h = same_phase w f e (thread l i) (thread k i) (thread_like l k i h)

  pub deleted_like : (l k : Local) (i : ℕ) → IsLike w l k →
      is_deleted (thread l i).phase ≡ is_deleted (thread k i).phase
  deleted_like l k i h = phase_like is_deleted (λ r a b. refl) l k i h

  pub last_like : (m : Machine) (l k : Local) (i : ℕ) → IsLike w l k →
      counted_name w.count (last_name m l i) ≡ counted_name w.count (last_name m k i)
  last_like m l k i h =
      ap (λ (t : Thread). let s : Name = record { thread = (declared m i).id; k = t.context.begun } in s)
      (thread_like l k i h)

  pub split_like : (m : Machine) (cpu : ℕ) (l k : Local) (i : ℕ) → IsLike w l k →
      split_place m cpu l i ≡ split_place m cpu k i
  split_like m cpu l k i h =
      same_send w (split_receiver m cpu) (λ s. refl) (thread l i) (thread k i) (thread_like l k i h)

  pub queued_like : (l k : Local) (i : ℕ) → IsLike w l k → plain.is_queued l.lists i ≡ plain.is_queued k.lists i
  queued_like l k i h = λ j. list_any (list_any (λ (e : plain.Waiting). i == e.block)) (h.waiting j)

  pub first_like : (l k : Local) (r : ℕ) → IsLike w l k → first_acceptable l r ≡ first_acceptable k r
  first_like l k r h =
      phase_like (first_of_list l.lists r) (λ s a b. refl) l k r h ∙ listed (thread k r).phase
    where
      listed : (p : Phase) → first_of_list l.lists r p ≡ first_of_list k.lists r p
      listed Ready = refl
      listed Sending = refl
      listed (Receiving receive since) = λ j. plain.first_taken receive.from (slice_index_or (h.waiting j) r [])
      listed Ordering = refl
      listed Ended = refl
      listed Deleted = refl

  -- Changing

  -- A change that does the same to what is known as it is and as the way takes it
  pub keeps_like : (f : Local → Local) → ((l : Local) → bare_local w (f l) ≡ f (bare_local w l)) →
      IsFree w (does f) (does f)
  keeps_like f e = does_like f f λ l k h.
      are_like (f l) (f k) (e l ∙ ap f (bare_same l k h) ∙ sym (e k))

  changed_both : (f g : Thread → Thread) → AreBoth w f g → (ts us : List Thread) (i : ℕ) →
      map (bare_thread w) ts ≡ map (bare_thread w) us →
      map (bare_thread w) (changed f ts i) ≡ map (bare_thread w) (changed g us i)
  changed_both f g e [] [] i h = refl
  changed_both f g e (t ∷ ts) (u ∷ us) zero h =
      let first : AreSame w t u = cc in
      let rest : map (bare_thread w) ts ≡ map (bare_thread w) us = cc in
      λ j. e t u first j ∷ rest j
  changed_both f g e (t ∷ ts) (u ∷ us) (suc i) h =
      let first : AreSame w t u = cc in
      let rest : map (bare_thread w) ts ≡ map (bare_thread w) us = cc in
      λ j. first j ∷ changed_both f g e ts us i rest j
  changed_both f g e [] (u ∷ us) i h = cc
  changed_both f g e (t ∷ ts) [] i h = cc

  pub does_changes : (i : ℕ) (f g : Thread → Thread) → AreBoth w f g →
      IsFree w (does (changes i f)) (does (changes i g))
  does_changes i f g e = does_like (changes i f) (changes i g) λ l k h.
      are_like (changes i f l) (changes i g k)
      (λ j. record (bare_same l k h j) { threads = changed_both f g e l.threads k.threads i h.threads j })

  pub does_comes : (i : ℕ) (f g : Thread → Thread) → AreBoth w f g →
      IsFree w (does (comes_to i f)) (does (comes_to i g))
  does_comes i f g e = does_like (comes_to i f) (comes_to i g) like
    where
      like : (l k : Local) → IsLike w l k → IsLike w (comes_to i f l) (comes_to i g k)
      like l k h =
          let one = e (thread l i) (thread k i) (thread_like l k i h) in
          let t = f (thread l i) in
          let u = g (thread k i) in
          are_like (comes_to i f l) (comes_to i g k) (λ j. record (bare_same l k h j) {
            threads = changed_both f g e l.threads k.threads i h.threads j;
            lists = record {
              waiting = h.waiting j;
              ready =
                  (same_phase w (λ p. readied p i l.lists.ready) (λ r a b. refl) t u one
                  ∙ ap (readied u.phase i) h.ready) j;
              armed =
                  (w.armed (armed_period t.phase t.send) l.clock k.clock i l.lists.armed k.lists.armed h.clock h.armed
                  ∙ (λ n. map (w.ahead k.clock)
                  (armed_for (same_period w t u one n) k.clock i (plain.without_block i k.lists.armed)))) j;
            };
          })

  pub does_keeps : (i : ℕ) (o p : Option Owed) → option_map owed o ≡ option_map owed p →
      IsFree w (does (keeps_beside i o)) (does (keeps_beside i p))
  does_keeps i o p e = does_like (keeps_beside i o) (keeps_beside i p) λ l k h.
      are_like (keeps_beside i o l) (keeps_beside i p k) (λ j. record (bare_same l k h j) {
        owed = (kept o l.owed ∙ (λ n. changed (λ old. e n) (h.owed n) i) ∙ sym (kept p k.owed)) j;
      })
    where
      kept : (o : Option Owed) (os : List (Option Owed)) →
          map (option_map owed) (changed (λ old. o) os i)
          ≡ changed (λ old. option_map owed o) (map (option_map owed) os) i
      kept o os = map-changed (option_map owed) (λ old. o) (λ old. option_map owed o) (λ old. refl) os i

  pub pops_due : IsFree w (does (relists plain.popped_due)) (does (relists plain.popped_due))
  pops_due = keeps_like (relists plain.popped_due) λ l.
      ap (λ (es : List (ℕ × ℕ)). record (bare_local w l) { lists = record l.lists { armed = es } })
      (by l.clock l.lists.armed)
    where
      by : (clock : ℕ) (es : List (ℕ × ℕ)) → map (w.ahead clock) (drop 1 es) ≡ drop 1 (map (w.ahead clock) es)
      by clock [] = refl
      by clock (e ∷ es) = refl

  pub opened_like : (stamp other : ℕ) (l k : Local) → IsLike w l k → AreLike w (opened stamp l) (opened other k)
  opened_like stamp other l k h = record {
    local = are_like (opened stamp l).local (opened other k).local (bare_same l k h);
    steps = refl;
    letters = refl;
  }

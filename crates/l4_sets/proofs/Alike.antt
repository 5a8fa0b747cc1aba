-- Where processors know alike, they wait for the same ones, and may post to the same ones.
use Rattle.std.proofs.Common.{◌≡◌, ℕ, zero, suc, Bool, ◌||◌, ◌&&◌, not, Option, Some, None, List, [], ◌∷◌, map, refl, ap, sym, ◌∙◌}
use Rattle.std.specs.Prelude.{nat_lt, slice_index_or}
use Rattle.std.specs.Option.{option_map}
use Rattle.l4_model.specs.Machine.{Machine}
use Rattle.l4_model.specs.World.{Phase, Ready, Sending, Receiving, Ordering, Ended, Deleted, Send, Thread, is_alive, opening_thread}
use Rattle.l4_core_model.specs.Local.{Local, declared, thread}
use Rattle.l4_bisimilar.proofs.Times.{IsLike, by_times}
use Rattle.l4_bisimilar.proofs.Ways.{bare_thread, timed_phase, timed_send}
use Rattle.l4_persistent.specs.Inner.Posts.{aims_of, is_deletable, may_aim, may_post_by, orders_to, sends_to, told_at, waits_for}
use Rattle.l4_sets.specs.Inner.Contacts.{AreContacts}
use Rattle.l4_sets.specs.declared.contacts.Contacts.{Contacts}

at_map : {A B : Type 0} (f : A → B) (xs : List A) (i : ℕ) (d : A) →
    slice_index_or (map f xs) i (f d) ≡ f (slice_index_or xs i d)
at_map f [] i d = refl
at_map f (x ∷ xs) zero d = refl
at_map f (x ∷ xs) (suc i) d = at_map f xs i d

abbrev bare : Thread → Thread
bare t = bare_thread by_times t

same_thread : (l k : Local) (i : ℕ) → IsLike l k → bare (thread l i) ≡ bare (thread k i)
same_thread l k i like =
    sym (at_map bare l.threads i opening_thread)
    ∙ ap (λ ts. slice_index_or ts i (bare opening_thread)) like.threads
    ∙ at_map bare k.threads i opening_thread

module _ (m : Machine) (to : ℕ) where
  sends_bare : (time : ℕ → ℕ) (s : Option Send) →
      sends_to m to (option_map (timed_send time) s) ≡ sends_to m to s
  sends_bare time None = refl
  sends_bare time (Some s) = refl

  waits_bare : (t : Thread) → waits_for m to (bare t) ≡ waits_for m to t
  waits_bare t = ap (λ b. b || orders_to m to t.order) (sends_bare by_times.time t.send)

  alive_bare : (time : ℕ → ℕ) (p : Phase) → is_alive (timed_phase time p) ≡ is_alive p
  alive_bare time Ready = refl
  alive_bare time Sending = refl
  alive_bare time (Receiving receive since) = refl
  alive_bare time Ordering = refl
  alive_bare time Ended = refl
  alive_bare time Deleted = refl

  -- Whom a thread may post to, where so many processors were told of its deletion
  abbrev posts_of : (place told : ℕ) → Thread → Bool
  posts_of i told t =
      sends_to m to t.send ||
      ((is_alive t.phase && may_aim m (aims_of m) to i t)
      || (is_deletable m (declared m i).id && not (nat_lt to told)))

  posts_bare : (i told : ℕ) (t : Thread) → posts_of i told (bare t) ≡ posts_of i told t
  posts_bare i told t = λ j.
      sends_bare by_times.time t.send j ||
      ((alive_bare by_times.time t.phase j && may_aim m (aims_of m) to i t)
      || (is_deletable m (declared m i).id && not (nat_lt to told)))

  same_waits : (l k : Local) (i : ℕ) → IsLike l k → waits_for m to (thread l i) ≡ waits_for m to (thread k i)
  same_waits l k i like =
      sym (waits_bare (thread l i)) ∙ ap (waits_for m to) (same_thread l k i like)
      ∙ waits_bare (thread k i)

  same_posts : (l k : Local) (i : ℕ) → IsLike l k →
      may_post_by m (aims_of m) to l i ≡ may_post_by m (aims_of m) to k i
  same_posts l k i like =
      sym (posts_bare i (told_at l i) (thread l i))
      ∙ (λ j. posts_of i (slice_index_or (like.told j) i 0) (same_thread l k i like j))
      ∙ posts_bare i (told_at k i) (thread k i)

pub contacts_like : (m : Machine) (cpu : ℕ) (l k : Local) (c : Contacts) → IsLike l k →
    AreContacts m cpu l c → AreContacts m cpu k c
contacts_like m cpu l k c like are = record {
  waits = λ i to inside own below h. are.waits i to inside own below (same_waits m to l k i like ∙ h);
  posts = λ i to inside own below h. are.posts i to inside own below (same_posts m to l k i like ∙ h);
  all = are.all;
}

-- Whom a processor waits for, and whom it may post to.
use Rattle.std.specs.Prelude.{ℕ, ◌<◌, ◌≡◌, true, length}
use Rattle.l4_model.specs.Machine.{Machine}
use Rattle.l4_core_model.specs.Local.{Local, is_own, thread}
use Rattle.l4_persistent.specs.Inner.Posts.{aims_of, may_post_by, may_propagate, waits_for}
use Rattle.l4_sets.specs.Inner.Sets.{has, most}
use Rattle.l4_sets.specs.declared.contacts.Contacts.{Contacts}

-- None is left out: of each thread of the processor all that it waits for and may post to. Where a
-- message may be propagated, it may post to all.
pub record AreContacts (m : Machine) (cpu : ℕ) (l : Local) (c : Contacts) : Type 0 where
  pub waits : (i to : ℕ) → i < length m.threads → is_own m cpu i ≡ true → to < most →
      waits_for m to (thread l i) ≡ true → has c.waits to ≡ true
  pub posts : (i to : ℕ) → i < length m.threads → is_own m cpu i ≡ true → to < most →
      may_post_by m (aims_of m) to l i ≡ true → has c.posts to ≡ true
  pub all : (to : ℕ) → may_propagate m ≡ true → to < most → has c.posts to ≡ true

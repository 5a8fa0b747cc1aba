use Rattle.std.proofs.Common.{ℕ, ◌≡◌, ◌<◌, true}
use Rattle.l4_core_model.specs.Local.{is_own, thread}
use Rattle.l4_persistent.specs.Inner.Posts.{aims_of, may_post_by, may_propagate, waits_for}
use Rattle.l4_sets.specs.Inner.Sets.{has, most}
use Rattle.l4_sets.proofs.aims.Aims.contacts.Given as goal

-- Those of the threads before the next one are known.
abbrev pub invariant-loop-place : goal.invariant-loop-place
invariant-loop-place l = record {
  waits : (i to : ℕ) → i < l.place → is_own l.self l.core.cpu i ≡ true → to < most →
      waits_for l.self to (thread l.core.local i) ≡ true → has l.contacts.waits to ≡ true;
  posts : (i to : ℕ) → i < l.place → is_own l.self l.core.cpu i ≡ true → to < most →
      may_post_by l.self (aims_of l.self) to l.core.local i ≡ true → has l.contacts.posts to ≡ true;
  all : (to : ℕ) → may_propagate l.self ≡ true → to < most → has l.contacts.posts to ≡ true;
}

use Rattle.std.proofs.Common.{ℕ, ap, sym, ◌∙◌}
use Rattle.l4_model.specs.Machine.{Machine}
use Rattle.l4_core_model.specs.Local.{is_own, thread}
use Rattle.l4_persistent.specs.Inner.Posts.{aims_of, may_post_by, waits_for}
use Rattle.l4_sets.specs.Inner.Sets.{has}
use Rattle.l4_sets.specs.declared.contacts.Contacts.{Contacts}
use Rattle.l4_sets.proofs.Gathering.{or_left, with_one, without}
use Rattle.l4_sets.proofs.aims.Aims.contacts.Goals.{then-is_own, else-is_own}
use Rattle.l4_sets.proofs.aims.Aims.contacts.Goals as goal

pub loop-place-preserved : goal.loop-place-preserved
loop-place-preserved c =
    let m = c.args.self.now in
    let cpu = c.args.core.now.cpu in
    let l = c.args.core.now.local in
    let old = c.loop-place.contacts in
    let place = c.loop-place.place in
    let inv = c.loop-place.invariant in
    let waits = λ (i : ℕ) (to : ℕ). waits_for m to (thread l i) in
    let posts = λ (i : ℕ) (to : ℕ). may_post_by m (aims_of m) to l i in
    elim c.if-is_own.branch [
      | then-is_own w ↦
          let new = w.union-contacts.result in
          let one = w.of_thread.result in
          record {
            waits = λ i to inside own below h.
                ap (λ (x : Contacts). has x.waits to) w.contacts-is
                ∙ with_one old.waits one.waits new.waits place (is_own m cpu) waits
                w.union-contacts.ensures.waits inv.waits w.of_thread.ensures.waits i to inside own below h;
            posts = λ i to inside own below h.
                ap (λ (x : Contacts). has x.posts to) w.contacts-is
                ∙ with_one old.posts one.posts new.posts place (is_own m cpu) posts
                w.union-contacts.ensures.posts inv.posts w.of_thread.ensures.posts i to inside own below h;
            all = λ to may below.
                ap (λ (x : Contacts). has x.posts to) w.contacts-is
                ∙ w.union-contacts.ensures.posts to ∙ or_left (has old.posts to) (has one.posts to) (inv.all to may below);
          }
      | else-is_own w ↦
          let foreign = ap (λ (n : Machine). is_own n cpu place) c.requires ∙ sym c.is_own.ensures
          ∙ w.if-is_own.false in
          record {
            waits = λ i to inside own below h.
                ap (λ (x : Contacts). has x.waits to) w.contacts-is
                ∙ without old.waits place (is_own m cpu) waits foreign inv.waits i to inside own below h;
            posts = λ i to inside own below h.
                ap (λ (x : Contacts). has x.posts to) w.contacts-is
                ∙ without old.posts place (is_own m cpu) posts foreign inv.posts i to inside own below h;
            all = λ to may below. ap (λ (x : Contacts). has x.posts to) w.contacts-is ∙ inv.all to may below;
          }
    ]

use Rattle.std.proofs.Common.{◌≡◌, ◌∙◌, ap, map, refl}
use Rattle.l4_mail.specs.Ends.{ring_in}
use Rattle.l4_mail.proofs.Looking.{none_kept_here, none_kept_before}
use Rattle.l4_mail.proofs.Readying.{not_true}
use Rattle.l4_mail.proofs.Unlinked.{ways_kept}
use Rattle.l4_mail.proofs.Whole.{items_there, none_there, mail_is_here}
use Rattle.l4_mail.proofs.ports.Port.look.Goals as goal

pub returns-clause-none : goal.returns-clause-none
returns-clause-none c = λ no. none_there c.args.self.now _ c.deref_mut.ensures.value
    (none_kept_before _ _ c.has_mail-has_mail.ensures.kept (none_kept_here _ (c.has_mail-has_mail.ensures.here.0 no)))

pub invariant_of-self : goal.invariant_of-self
invariant_of-self c =
    let old = c.args.self.now in
    let rings : map ring_in c.has_mail-has_mail.new.inlets ≡ map ring_in old.inlets.items = c.has_mail-has_mail.ensures.taken.rings ∙ ap (map ring_in) c.deref_mut.ensures.value in
    record {
      few = old.few;
      ways = ways_kept old.linked _ _ _ _ refl (ap (map ring_in) (items_there old c.has_mail-has_mail.new.inlets rings) ∙ rings) old.ways;
      prepared = old.prepared;
      silent = λ yes. (mail_is_here old _ _ _ c.deref_mut.ensures.value c.has_mail-has_mail.ensures.taken c.has_mail-has_mail.ensures.here).0 (not_true _ yes);
    }

use Rattle.std.proofs.Common.{ap, refl, ◌∙◌}
use Rattle.l4_mail.proofs.Whole.{one_posted}
use Rattle.std.proofs.Math.Seq.{map-set_same}
use Rattle.l4_mail.specs.Ends.{ring_out}
use Rattle.l4_mail.proofs.Unlinked.{ways_kept}
use Rattle.l4_mail.proofs.ports.Port.post.Goals as goal

pub returns : goal.returns
returns c = record { posted = one_posted _ _ _ _ _ _ _ refl refl refl c.from.ensures c.requires.room c.index_mut.ensures.value c.post.ensures.ring c.post.ensures.posted c.post.ensures.room }

pub invariant_of-self-clause-ways : goal.invariant_of-self-clause-ways
invariant_of-self-clause-ways c = ways_kept c.args.self.now.linked _ _ _ _
    (map-set_same ring_out c.args.self.now.outlets.items c.from.result c.post.new.end _ (c.post.ensures.ring ∙ ap ring_out c.index_mut.ensures.value)) refl c.args.self.now.ways

use Rattle.std.proofs.Common.{◌≡◌, ◌∙◌, ap, map, refl}
use Rattle.std.proofs.Math.Seq.{map-set_same}
use Rattle.l4_mail.specs.Ends.{ring_in}
use Rattle.l4_mail.proofs.Whole.{items_there, next_letter_taken}
use Rattle.l4_mail.proofs.Unlinked.{ways_kept}
use Rattle.l4_mail.proofs.ports.Port.take.Goals as goal

pub invariant_of-self-2 : goal.invariant_of-self-2
invariant_of-self-2 c =
    let old = c.args.self.now in
    let rings : map ring_in c.next_inlet.new.inlets ≡ map ring_in old.inlets.items = c.next_inlet.ensures.taken.rings ∙ ap (map ring_in) c.deref_mut.ensures.value in
    record {
      few = old.few;
      ways = ways_kept old.linked _ _ _ _ refl
          (map-set_same ring_in _ c.in_ok-from.from c.take.new.end c.index_mut.result.now (c.take.ensures.ring ∙ ap ring_in c.index_mut.ensures.value)
          ∙ ap (map ring_in) (items_there old c.next_inlet.new.inlets rings) ∙ rings)
          old.ways;
      prepared = old.prepared;
      silent = λ yes. absurd cc;
    }

pub returns-clause-some : goal.returns-clause-some
returns-clause-some c = next_letter_taken c.args.self.now _ _ _ _ c.index_mut.result.now _ _ refl refl refl c.deref_mut.ensures.value
    c.next_inlet.ensures.taken c.next_inlet.ensures.kept c.in_ok-from.ensures.some
    c.index_mut.ensures.value c.take.ensures.ring c.take.ensures.taken c.take.ensures.kept

use Rattle.std.proofs.Common.{◌≡◌, length, ap, sym, ◌∙◌, subst}
use Rattle.std.proofs.lemmas.List.{length-map, with_items_is}
use Rattle.l4_mail.specs.Ports.{account, AreOneFabric}
use Rattle.l4_mail.proofs.Fabrics.{fabric_kept}
use Rattle.l4_part_tests.proofs.refused.rests.Goals as goal

pub rest-requires : goal.rest-requires
rest-requires g c =
    let olds = c.as_mut_slice.result.now in
    let news = c.rest-listed.new.ports in
    let first = subst AreOneFabric (sym c.as_mut_slice.ensures.value) c.requires in
    let one = fabric_kept olds news c.rest-listed.ensures.same first in
    let len : length news ≡ c.args.ports.now.len =
    sym (length-map news account) ∙ ap length c.rest-listed.ensures.same ∙ length-map olds account ∙ c.as_mut_slice.ensures.len in
    subst AreOneFabric (sym (c.as_mut_slice-in-Err.ensures.value ∙ with_items_is c.args.ports.now news len)) one

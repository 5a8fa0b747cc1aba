use Rattle.l4_mail.proofs.Fabrics.{on_ok, out_rested, in_rested, kept_elsewhere, way_rested}
use Rattle.l4_mail.proofs.rests.rest_between.Goals as goal

pub returns-clause-from : goal.returns-clause-from
returns-clause-from c = out_rested c.args.from.now c.from.result _ _ c.index_mut.ensures.value c.rest.ensures.ring.0 c.rest.ensures.posted

pub returns-clause-account : goal.returns-clause-account
returns-clause-account c = in_rested c.args.to.now c.from-2.result _ _ c.index_mut-2.ensures.value c.rest.ensures.ring.1 c.rest.ensures.taken

pub returns-clause-others : goal.returns-clause-others
returns-clause-others c = kept_elsewhere c.args.to.now _ _ c.rest.new.inlet c.from-2.ensures

pub returns-clause-whole : goal.returns-clause-whole
returns-clause-whole c = on_ok c.rest.result _ _ (way_rested c.args.from.now c.args.to.now _ _ c.rest.new.outlet c.rest.new.inlet c.from.ensures c.from-2.ensures c.requires) c.rest.ensures.all

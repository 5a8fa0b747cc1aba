use Rattle.std.proofs.Common.{◌∙◌, sym}
use Rattle.std.proofs.lemmas.Bool.{or_parts}
use Rattle.l4_core.proofs.Covering.{covers-noted, covers-unnoted}
use Rattle.l4_core.proofs.processor.note_duty.Goals as goal

pub returns-then-may_have_duty : goal.returns-then-may_have_duty
returns-then-may_have_duty c = record {
  covers = covers-noted c.args.duties.now c.insert_place.new.duties _ _ _ c.args.place c.requires.others c.requires.own c.insert_place.ensures.put;
  waiting = c.requires.waiting;
}

pub returns-else-may_have_duty : goal.returns-else-may_have_duty
returns-else-may_have_duty c = record {
  covers = covers-unnoted c.args.duties.now _ _ _ c.args.place c.requires.others (or_parts _ _ (sym c.may_have_duty.ensures ∙ c.if-may_have_duty.false)).1;
  waiting = c.requires.waiting;
}
